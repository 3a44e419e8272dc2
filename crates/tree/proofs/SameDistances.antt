-- Entering looks at no distance but those between claims that are entered: two distances that agree there build alike. Assumes nothing.
use Prim.Native.Nat.{ℕ, zero, suc, ◌+◌, ◌-◌, ◌*◌, ◌<◌, ◌≤◌}
use mathlib.Core.Path.{◌≡◌, refl, ap, ◌∙◌}
use mathlib.Core.List.{List}
use native.Mathlib.Omega.{arith}
use lib.ListN.{length}
use lib.Dec.{lit<}
use Rattle.paper.specs.Tree.{Grown, field_at, side_claim, near_side, raise, entered_from, entered, built}
use Rattle.paper.specs.Limits.{most_claims}
use Rattle.tree.specs.BuiltNodes.{Linked}
use Rattle.tree.proofs.OneEntering.{side_small, entered_stop, entered_new, entered_down}
use Rattle.tree.proofs.Building.{build}
use Rattle.tree.proofs.Descent.{descend}

module _ (e e' : ℕ → ℕ → ℕ) (used k m : ℕ) (a : List ℕ) (hm : m < used) (lk : Linked a used k) (no1 : field_at a m 1 ≡ 0 → ⊥) (same : (j : ℕ) → j < k → e j k ≡ e' j k) where
  at_side : (s : ℕ) → s < 2 → e (side_claim a m s) k ≡ e' (side_claim a m s) k
  unfolding Linked
  at_side zero hs = same (side_claim a m 0) (omega (arith, (lk m hm).left, (lk m hm).stored 0 (lit< tt)))
  at_side (suc zero) hs = same (side_claim a m 1) (omega (arith, (lk m hm).stored 1 (lit< tt)))
  at_side (suc (suc s)) hs = absurd (omega arith)

  near_ext : near_side e a m k ≡ near_side e' a m k
  unfolding near_side
  near_ext = rw (at_side 0 (lit< tt), at_side 1 (lit< tt))

  raise_ext : (s : ℕ) → s < 2 → raise e a m s k ≡ raise e' a m s k
  unfolding raise
  raise_ext s hs = rw (at_side s hs)

place_ext : (f : ℕ) (e e' : ℕ → ℕ → ℕ) (used k m : ℕ) (a : List ℕ) → m < used → used ≤ m + f → used * 6 + 6 ≤ length a → Linked a used k
    → ((j : ℕ) → j < k → e j k ≡ e' j k) → entered_from f e used k m a ≡ entered_from f e' used k m a
place_ext f e e' used k m a hm en room lk same =
    descend e used k (λ f m a out. out ≡ entered_from f e' used k m a) (record {
      stop = λ f m a hm room lk p. rw (entered_stop f e' used k m a p);
      new = λ f m a hm room lk no1 p.
          let near = near_ext e e' used k m a hm lk no1 same in
          let lift = raise_ext e e' used k m a hm lk no1 same (near_side e a m k) (side_small e a m k) in
          rw (entered_new f e' used k m a no1 (rw (← near) p), ← near, lift);
      down = λ f m w a out hm room lk no1 p deep.
          let near = near_ext e e' used k m a hm lk no1 same in
          let lift = raise_ext e e' used k m a hm lk no1 same (near_side e a m k) (side_small e a m k) in
          let v : field_at a m (4 + near_side e a m k) - 1 ≡ w = omega arith in
          let no4 : field_at a m (4 + near_side e a m k) ≡ 0 → ⊥ = λ z. omega arith in
          rw (entered_down f e' used k m a no1 (rw (← near) no4), ← near, v, ← lift) deep;
    }) f m a hm en room lk

pub enter_ext : (e e' : ℕ → ℕ → ℕ) (used k : ℕ) (a : List ℕ) → used * 6 + 6 ≤ length a → Linked a used k → ((j : ℕ) → j < k → e j k ≡ e' j k) → entered e used k a ≡ entered e' used k a
unfolding entered
enter_ext e e' zero k a room lk same = refl
enter_ext e e' (suc u) k a room lk same = place_ext (suc u) e e' (suc u) k 0 a (omega arith) (omega arith) room lk same

pub build_ext : (e e' : ℕ → ℕ → ℕ) (n : ℕ) (a : List ℕ) → n * 6 ≤ length a → n ≤ most_claims
    → ((j k : ℕ) → j < k → k < n → e j k ≡ e' j k) → built e n a ≡ built e' n a
unfolding built
build_ext e e' zero a room few same = refl
build_ext e e' (suc n) a room few same =
    let h = build_ext e e' n a (omega arith) (omega arith) (λ j k hj hk. same j k hj (omega arith)) in
    let b = build e n a (omega arith) (omega arith) in
    enter_ext e e' (built e n a).used n (built e n a).nodes (omega (arith, b.long, b.few)) b.sound.linked (λ j hj. same j n hj (omega arith))
    ∙ ap (λ (x : Grown). entered e' x.used n x.nodes) h
