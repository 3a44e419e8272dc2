-- The whole call: a law for each way. Assumes nothing.
use Prim.Native.Nat.{ℕ, ◌<◌, ◌≤◌}
use mathlib.Core.Path.{◌≡◌, refl, ap, ◌∙◌}
use mathlib.Core.List.{List}
use lib.Dec.{leb}
use lib.ListN.{length}
use borrow.Author.Tests.{le-leb, lt-leb}
use Rattle.paper.specs.Outcomes.{Outcome, refused, gives}
use Rattle.paper.specs.Tree.{Store}
use Rattle.paper.proofs.Outcomes.{must_stop, must_go, promise_refused, promise_given}
use Rattle.paper.specs.Calls.{table_refusal}
use Rattle.walk_tested.proofs.TableLaws.{table_refused, table_goes}
use Rattle.paper.specs.declared.lines.Answered.{Answered}
use Rattle.nearby_batch.specs.Batch.{Batch, batch_start, batch_answered, batch_call, BatchRooms, batch_of, two_rooms, came_to, batch_shown, put_batch, AnswersAll}
use Rattle.paper.specs.Limits.{longest_answer}

stands_given : (o : Outcome Batch) (b : Batch) (before : BatchRooms) (r : Answered) (outcomes out : List ℕ) → o ≡ gives b → batch_of r outcomes out ≡ b
    → AnswersAll o before (gives r) (two_rooms outcomes out)
stands_given o b before r outcomes out e q =
    promise_given batch_shown put_batch o before b (gives r) (two_rooms outcomes out) e
    (ap (λ (x : Batch). gives (came_to x)) q)
    (ap (λ (x : Batch). two_rooms x.outcomes x.out) q)

module _ (s : Store) (asks outcomes out : List ℕ) where
  abbrev Promised : Outcome Answered → BatchRooms → Type 0
  Promised r after = AnswersAll (batch_call s asks outcomes out) (two_rooms outcomes out) r after

  pub all_12 : length out < longest_answer → Promised (refused 12) (two_rooms outcomes out)
  unfolding batch_call
  all_12 h = promise_refused batch_shown put_batch _ (two_rooms outcomes out) 12 (refused 12) (must_stop (leb longest_answer (length out)) 12 _ (lt-leb longest_answer (length out) h)) refl

  module _ (long : longest_answer ≤ length out) (n : ℕ) (we : n ≡ table_refusal s) where
    pub all_refused : (n ≡ 0 → ⊥) → Promised (refused n) (two_rooms outcomes out)
    unfolding batch_call
    all_refused h = promise_refused batch_shown put_batch _ (two_rooms outcomes out) n (refused n) (must_go (leb longest_answer (length out)) 12 _ (le-leb longest_answer (length out) long) ∙ table_refused s n we _ h) refl

    pub all_answered : n ≡ 0 → (r : Answered) (outcomes' out' : List ℕ) → batch_of r outcomes' out' ≡ batch_answered (length asks) s asks (batch_start outcomes out)
        → Promised (gives r) (two_rooms outcomes' out')
    unfolding batch_call
    all_answered h r outcomes' out' q =
        stands_given _ _ (two_rooms outcomes out) r outcomes' out' (must_go (leb longest_answer (length out)) 12 _ (le-leb longest_answer (length out) long) ∙ table_goes s n we h _) q
