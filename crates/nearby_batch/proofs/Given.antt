-- What the promise comes to: in a call that refuses nothing every line stands as the single call answers it, and it stops only where no
-- line is left or no room. Assumes nothing.
use Prim.Native.Nat.{ℕ, ◌<◌}
use mathlib.Core.Path.{◌≡◌, refl, sym, ap, ◌∙◌, subst}
use mathlib.Core.Bool.{Bool, true, false}
use mathlib.Core.List.{List}
use native.Mathlib.Omega.{arith}
use lib.Dec.{leb}
use lib.ListN.{length}
use Rattle.paper.specs.Outcomes.{Outcome, gives, must, number, leaves}
use Rattle.paper.specs.Tree.{Store, fits, sound}
use Rattle.paper.specs.declared.lines.Answered.{Answered}
use Rattle.nearby_batch.specs.Batch.{Batch, batch_start, goes, batch_answered, batch_call, batch_of, two_rooms, came_to, batch_shown, put_batch, AnswersAll, LineAsAlone}
use Rattle.paper.proofs.Outcomes.{number_showing, same_given}
use Rattle.nearby_batch.proofs.Alone.{each_line_as_alone, stops_for_want}
use Rattle.paper.specs.Limits.{longest_answer}

-- a call whose number is 0 gives its batch
given : (a b c : Bool) (x : Batch) → number (must a 12 (must b 1 (must c 2 (gives x)))) ≡ 0 → must a 12 (must b 1 (must c 2 (gives x))) ≡ gives x
given true true true x h = refl
given true true false x h = absurd (omega arith)
given true false c x h = absurd (omega arith)
given false b c x h = absurd (omega arith)

module _ (s : Store) (asks outcomes out : List ℕ) (r : Answered) (outcomes' out' : List ℕ)
    (p : AnswersAll (batch_call s asks outcomes out) (two_rooms outcomes out) (gives r) (two_rooms outcomes' out')) where
  pub promise_gives : batch_of r outcomes' out' ≡ batch_answered (length asks) s asks (batch_start outcomes out)
  unfolding batch_call
  promise_gives =
      let b = batch_answered (length asks) s asks (batch_start outcomes out) in
      let e = given (leb longest_answer (length out)) (fits s) (sound s) b (number_showing came_to (batch_call s asks outcomes out) ∙ ap number (sym p.result)) in
      let x : r ≡ came_to b = same_given r (came_to b) (p.result ∙ ap batch_shown e) in
      let y : two_rooms outcomes' out' ≡ put_batch b (two_rooms outcomes out) = p.memory ∙ ap (λ (o : Outcome Batch). leaves put_batch o (two_rooms outcomes out)) e in
      λ i. record { lines = (x i).lines; used = (x i).used; written = (x i).written; outcomes = (y i).outcomes; out = (y i).out }

  pub promise_as_alone : (k : ℕ) → k < r.lines → LineAsAlone s asks (batch_of r outcomes' out') k
  promise_as_alone k h =
      subst (λ (b : Batch). LineAsAlone s asks b k) (sym promise_gives)
      (each_line_as_alone s asks outcomes out (length asks) k (subst (λ (n : ℕ). k < n) (ap (λ (b : Batch). b.lines) promise_gives) h))

  pub promise_stops : goes asks (batch_of r outcomes' out') ≡ false
  promise_stops = subst (λ (b : Batch). goes asks b ≡ false) (sym promise_gives) (stops_for_want s asks outcomes out)
