-- Line after line: steps add up, and the bytes bound them. Assumes nothing.
use Prim.Native.Nat.{ℕ, zero, suc, ◌+◌, ◌-◌, ◌<◌, ◌≤◌}
use mathlib.Core.Path.{◌≡◌, refl, sym, ap, ◌∙◌}
use mathlib.Core.Bool.{true, false}
use mathlib.Core.List.{List}
use native.Mathlib.Omega.{arith}
use lib.ListN.{length, drop}
use Rattle.paper.specs.Tree.{Store}
use Rattle.nearby_batch.specs.Batch.{cut_at, Batch, batch_start, step_by, step, goes, batch_answered}
use Rattle.nearby_batch.proofs.Cutting.{cut_on, cut_inside}
use Rattle.nearby_batch.proofs.Steps.{goes_room_for}

-- b is reached from b₀ by as many steps as it has lines
pub record BatchGoing (s : Store) (asks : List ℕ) (b₀ b : Batch) : Type 0 where
  pub same : (f : ℕ) → batch_answered (f + b.lines) s asks b₀ ≡ batch_answered f s asks b
  pub few : b.lines ≤ b.used
  pub inside : b.used ≤ length asks
  pub outcomes : length b.outcomes ≡ length b₀.outcomes
  pub out : length b.out ≡ length b₀.out

answered_more : (f : ℕ) (s : Store) (asks : List ℕ) (b : Batch) → goes asks b ≡ true → batch_answered (suc f) s asks b ≡ batch_answered f s asks (step s asks b)
unfolding batch_answered
answered_more f s asks b e = rw e

answered_stop : (f : ℕ) (s : Store) (asks : List ℕ) (b : Batch) → goes asks b ≡ false → batch_answered f s asks b ≡ b
unfolding batch_answered
answered_stop zero s asks b e = refl
answered_stop (suc f) s asks b e = rw e

module _ {s : Store} {asks : List ℕ} where
  pub going_start : (outcomes out : List ℕ) → BatchGoing s asks (batch_start outcomes out) (batch_start outcomes out)
  going_start outcomes out =
      record { same = λ f. ap (λ (n : ℕ). batch_answered n s asks (batch_start outcomes out)) (plus_0 f); few = omega arith; inside = omega arith; outcomes = refl; out = refl }
    where
      plus_0 : (f : ℕ) → f + 0 ≡ f
      plus_0 f = omega arith

  module _ {b₀ b : Batch} (g : BatchGoing s asks b₀ b) where
    pub going_on : goes asks b ≡ true → (b' : Batch) → b' ≡ step s asks b → length b'.outcomes ≡ length b.outcomes → length b'.out ≡ length b.out → BatchGoing s asks b₀ b'
    unfolding step step_by
    going_on e b' is ko kr =
        let h = (goes_room_for asks b e).unread in
        let l : b'.lines ≡ b.lines + 1 = ap (λ (x : Batch). x.lines) is in
        let u : b'.used ≡ b.used + cut_at (drop b.used asks) = ap (λ (x : Batch). x.used) is in
        record {
          same = λ f.
              let q : f + b'.lines ≡ suc f + b.lines = omega (arith, l) in
              ap (λ (n : ℕ). batch_answered n s asks b₀) q ∙ g.same (suc f) ∙ answered_more f s asks b e ∙ ap (λ (x : Batch). batch_answered f s asks x) (sym is);
          few = let m = cut_on asks b.used h in omega (arith, l, u, g.few);
          inside = let m = cut_inside asks b.used h in omega (arith, u);
          outcomes = ko ∙ g.outcomes;
          out = kr ∙ g.out;
        }

    pub going_less : goes asks b ≡ true → (b' : Batch) → b' ≡ step s asks b → length asks - b'.used < length asks - b.used
    unfolding step step_by
    going_less e b' is =
        let h = (goes_room_for asks b e).unread in
        let u : b'.used ≡ b.used + cut_at (drop b.used asks) = ap (λ (x : Batch). x.used) is in
        let m = cut_on asks b.used h in
        omega arith

    pub going_done : goes asks b ≡ false → b ≡ batch_answered (length asks) s asks b₀
    going_done e =
        let q : length asks - b.lines + b.lines ≡ length asks = omega (arith, g.few, g.inside) in
        sym (answered_stop (length asks - b.lines) s asks b e) ∙ sym (g.same (length asks - b.lines)) ∙ ap (λ (n : ℕ). batch_answered n s asks b₀) q
