-- `nearby_batch::answer_all` meets its contract: 12, 1, 2, and then line after line. Assumes nothing.
use mathlib.Core.Path.{refl}
use Rattle.paper.proofs.Outcomes.{err_number, ok_number, told_on, numbered}
use Rattle.nearby_batch.proofs.Whole.{all_12, all_refused, all_answered}
use Rattle.nearby_batch.proofs.answer_all.Goals as goal

pub returns-then-out-lt-LONGEST_ANSWER : goal.returns-then-out-lt-LONGEST_ANSWER
returns-then-out-lt-LONGEST_ANSWER c = all_12 _ _ _ _ c.if-out-lt-LONGEST_ANSWER.true

pub returns-in_err-test_table : goal.returns-in_err-test_table
returns-in_err-test_table c =
    rw (told_on _ _ c.from_residual.ensures.1)
    (all_refused _ _ _ _ c.if-out-lt-LONGEST_ANSWER.false _ (err_number _ _ c.test_table.ensures _ c.in_err-test_table.was) (numbered _))

pub returns : goal.returns
returns c =
    all_answered _ _ _ _ c.if-out-lt-LONGEST_ANSWER.false _ (ok_number _ _ c.test_table.ensures _ c.in_ok-test_table.was) refl _ _ _ c.answer_lines.ensures
