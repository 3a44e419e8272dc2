-- `nearby::office::answer` meets its contract: 12, 1, 2, and then the office's end. Assumes nothing.
use mathlib.Core.Path.{refl}
use Rattle.paper.proofs.Outcomes.{err_number, ok_number, told_on, numbered}
use Rattle.nearby.proofs.QuestionsAndLists.{office_12, office_refused, office_open, office_answers}
use Rattle.nearby.proofs.office.answer.Goals as goal

pub returns-then-out-lt-LONGEST_ANSWER : goal.returns-then-out-lt-LONGEST_ANSWER
returns-then-out-lt-LONGEST_ANSWER c = office_12 c.args.table.now _ _ c.if-out-lt-LONGEST_ANSWER.true

pub returns-in_err-test_table : goal.returns-in_err-test_table
returns-in_err-test_table c =
    let args = c.args in
    rw (told_on _ _ c.from_residual.ensures.1)
    (office_refused args.table.now args.out.now args.line.now c.if-out-lt-LONGEST_ANSWER.false _ (err_number _ _ c.test_table.ensures _ c.in_err-test_table.was) (numbered _))

pub answer_line-requires : goal.answer_line-requires
answer_line-requires c =
    let args = c.args in
    office_open args.table.now args.out.now args.line.now c.if-out-lt-LONGEST_ANSWER.false _ (ok_number _ _ c.test_table.ensures _ c.in_ok-test_table.was) refl

pub returns : goal.returns
returns c =
    let args = c.args in
    let if1 = c.if-out-lt-LONGEST_ANSWER in
    office_answers args.table.now args.out.now args.line.now if1.false _ (ok_number _ _ c.test_table.ensures _ c.in_ok-test_table.was) refl _ _ c.answer_line.ensures
