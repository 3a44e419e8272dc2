-- What the bare writers are given and the bare readers give. Assumes nothing.
use Prim.Native.Nat.{ℕ, ◌≤◌}
use mathlib.Core.Path.{◌≡◌, sym}
use mathlib.Core.Bool.{false, ◌&&◌}
use mathlib.Core.List.{List}
use lib.Dec.{leb, eqb}
use lib.ListN.{length}
use borrow.Author.Tests.{le-leb, eq-eqb}
use Rattle.paper.specs.declared.lines.Scope.{Scope}
use Rattle.paper.specs.declared.lines.Ask.{Ask}
use Rattle.paper.specs.declared.lines.Answer.{Answer}
use Rattle.std.specs.Prelude.{Result, Ok, Err, IfOk}
use Rattle.paper.specs.declared.refusals.Refusal.{Refusal}
use Rattle.paper.specs.Outcomes.{Outcome, gives, told}
use Rattle.paper.specs.Orders.{Query}
use Rattle.paper.specs.Frames.{frame_of}
use Rattle.paper.specs.Lines.{query_at, ask_fits, is_ask, ask_at, read_as_ask, answer_fits, is_answer, answer_at, read_as_answer}
use Rattle.paper.specs.Limits.{most_coordinates}
use Rattle.paper.proofs.Tests.{and_both, refuted, never}
use Rattle.lines.proofs.WritersReaders.{holds}
use Rattle.lines.proofs.QueryTests.{QueryFits}
use Rattle.lines.proofs.AskTests.{ask_fits_lem, any_ask}
use Rattle.lines.proofs.AnswerTests.{answer_fits_lem, any_answer}

-- ---- what a writer is given

-- a probe that has no slots is refused by whoever writes
module _ (q : Query) (h : (eqb (length q.probe) q.d && leb q.d most_coordinates) ≡ false) where
  misplaced : QueryFits q → ⊥
  misplaced w = never _ (and_both _ _ (eq-eqb _ _ w.count) (le-leb q.d most_coordinates w.range.narrow)) h

  pub ask_misplaced : (p : Scope) (s : ℕ) → ask_fits q p s ≡ false
  ask_misplaced p s = refuted (ask_fits q p s) (λ e. misplaced (ask_fits_lem q p s e).query)

  pub answer_misplaced : (p : Scope) (last n : ℕ) (ns : List ℕ) → answer_fits q p last n ns ≡ false
  answer_misplaced p last n ns = refuted (answer_fits q p last n ns) (λ e. misplaced (answer_fits_lem q p last n ns e).query)

-- ---- what a reader gives

-- what a result tells of its value
told_ok : {A : Type 0} (r : Result A Refusal) (o : Outcome A) (P : A → Type 0) → told r ≡ o → ((a : A) → o ≡ gives a → P a) → IfOk r P
told_ok (Ok a) o P e h = h a (sym e)
told_ok (Err why) o P e h = tt

-- what a reader gives has at most eight coordinates
pub ask_narrow : (l : List ℕ) (r : Result Ask Refusal) → told r ≡ read_as_ask l → IfOk r (λ a. a.query.d ≤ most_coordinates)
unfolding read_as_ask ask_at query_at
ask_narrow l r e = told_ok r _ _ e (λ a q. let p = holds is_ask ask_at l a q in rw p.1 (any_ask (frame_of l) p.0).headed.range.narrow)

pub answer_narrow : (l : List ℕ) (r : Result Answer Refusal) → told r ≡ read_as_answer l → IfOk r (λ y. y.query.d ≤ most_coordinates)
unfolding read_as_answer answer_at query_at
answer_narrow l r e = told_ok r _ _ e (λ y q. let p = holds is_answer answer_at l y q in rw p.1 (any_answer (frame_of l) p.0).headed.range.narrow)
