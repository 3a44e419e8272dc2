-- `end_tablet::taking::take_line` meets its contract: a line that does not read, an answer of the other order, or an answer taken. Assumes
-- nothing.
use Rattle.paper.proofs.Outcomes.{err_told, ok_told, told_on}
use Rattle.end_tablet.proofs.EndLaws.{take_unread, take_other, take_read, read_few, taken_same}
use Rattle.end_tablet.proofs.TakeLaws.{takes_refused}
use Rattle.end_tablet.proofs.taking.take_line.Goals as goal

pub returns-in_err-y : goal.returns-in_err-y
returns-in_err-y c =
    rw (told_on _ _ c.from_residual.ensures.1)
    (takes_refused c.args.l _ _ _ (take_unread _ c.requires _ _ (err_told _ _ c.read_answer.ensures _ c.in_err-y.was)))

pub returns-then-not-same_order : goal.returns-then-not-same_order
returns-then-not-same_order c =
    takes_refused c.args.l _ _ _ (take_other _ c.requires _ _ (ok_told _ _ c.read_answer.ensures _ c.in_ok-y.was) _ c.same_order.ensures c.if-not-same_order.true)

pub take_answer-requires : goal.take_answer-requires
take_answer-requires c = (c.requires, read_few _ _ (ok_told _ _ c.read_answer.ensures _ c.in_ok-y.was))

pub returns : goal.returns
returns c =
    taken_same c.args.l _ _ _ (take_read _ c.requires _ _ (ok_told _ _ c.read_answer.ensures _ c.in_ok-y.was) _ c.same_order.ensures c.if-not-same_order.false)
    c.take_answer.ensures
