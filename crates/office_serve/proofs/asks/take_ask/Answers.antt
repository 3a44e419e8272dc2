-- `office_serve::asks::take_ask` meets its contract: 11 before any claim, else the office's answer or its refusal. Assumes nothing.
use mathlib.Core.Path.{refl}
use native.Mathlib.Omega.{arith}
use Rattle.office_serve.proofs.AskServed.{ask_none, line_inside, refuse_ready, ask_line_lem, ask_refused}
use Rattle.office_serve.proofs.asks.take_ask.Goals as goal

pub returns-then-table-eq0 : goal.returns-then-table-eq0
returns-then-table-eq0 c = ask_none c.args.table.now _ _ _ _ _ (rw (← c.table.view_is) c.if-table-eq0.true) c.refuse.ensures

pub overflow_add-result : goal.overflow_add-result
overflow_add-result c =
    let a = c.args in
    let h = line_inside a.table.now _ _ a.at (rw (← c.table.view_is) c.if-table-eq0.false) _ refl c.requires.serving.room _ _ c.in-Ok.ensures c.answer_ask.auto.out in
    omega arith

pub refuse-requires-in-Err : goal.refuse-requires-in-Err
refuse-requires-in-Err c =
    let a = c.args in
    refuse_ready a.table.now _ _ _ (rw (← c.table.view_is) c.if-table-eq0.false) _ refl c.requires.serving.room _ _ c.in-Err.ensures

pub returns-in-Ok : goal.returns-in-Ok
returns-in-Ok c = ask_line_lem c.args.table.now _ _ _ (rw (← c.table.view_is) c.if-table-eq0.false) _ refl c.requires.serving.room _ _ c.in-Ok.ensures c.answer_ask.auto.out

pub returns-in-Err : goal.returns-in-Err
returns-in-Err c = ask_refused c.args.table.now _ _ _ (rw (← c.table.view_is) c.if-table-eq0.false) _ refl c.requires.serving.room _ _ c.in-Err.ensures _ _ c.refuse-in-Err.ensures
