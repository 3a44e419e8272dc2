-- `end_office::answers::answer_line` meets its contract: the reader's number, or the answer to its ask. Assumes nothing.
use Rattle.paper.proofs.Outcomes.{err_told, ok_told, told_on}
use Rattle.end_office.proofs.AnswerToAsk.{line_given, line_refused, line_answered_lem}
use Rattle.end_office.proofs.answers.answer_line.Goals as goal

pub returns-in_err-ask : goal.returns-in_err-ask
returns-in_err-ask c =
    let a = c.args in
    rw (told_on _ _ c.from_residual.ensures.1)
    (line_refused a.line.now a.table.now _ _ (err_told _ _ c.read_ask.ensures _ c.in_err-ask.was))

pub answer_ask-requires : goal.answer_ask-requires
answer_ask-requires c =
    record { is_open = c.requires; ask = line_given c.args.line.now _ (ok_told _ _ c.read_ask.ensures _ c.in_ok-ask.was) }

pub returns : goal.returns
returns c =
    let a = c.args in
    line_answered_lem a.line.now a.table.now _ _ _ _ (ok_told _ _ c.read_ask.ensures _ c.in_ok-ask.was)
    c.answer_ask.ensures
