-- `end_office::answers::answer_ask` meets its contract: 11, or the answer to an ask that is about this table. Assumes nothing.
use Rattle.end_office.proofs.AnswerToAsk.{ask_11, ask_here, ask_ready}
use Rattle.end_office.proofs.answers.answer_ask.Goals as goal

pub returns-then-not-is_ours : goal.returns-then-not-is_ours
returns-then-not-is_ours c =
    let a = c.args in
    ask_11 a.table.now a.ask _ (rw (← c.table.view_is) c.is_ours.ensures) _ c.if-not-is_ours.true

pub answer_here-requires : goal.answer_here-requires
answer_here-requires c =
    let a = c.args in
    ask_ready a.table.now a.ask _ (rw (← c.table.view_is) c.is_ours.ensures) c.if-not-is_ours.false _ c.requires

pub returns : goal.returns
returns c =
    let a = c.args in
    ask_here a.table.now a.ask _ (rw (← c.table.view_is) c.is_ours.ensures) c.if-not-is_ours.false _ _ _ c.answer_here.ensures
