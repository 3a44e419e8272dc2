-- `nearby::questions::page` meets its contract: 1, 2, 5, 6, and then what a tested table gives. Assumes nothing.
use lib.ListN.{length}
use mathlib.Core.Path.{refl}
use Rattle.paper.proofs.Outcomes.{err_number, ok_number, told_on, numbered}
use Rattle.walk_tested.proofs.PageLaws.{page_refused, page_5, page_6, page_askable, page_refusal}
use Rattle.nearby.proofs.questions.page.Goals as goal

pub returns-in_err-test_table : goal.returns-in_err-test_table
returns-in_err-test_table c =
    let a = c.args in
    let s = a.table.now in
    rw (told_on _ _ c.from_residual.ensures.1)
    (page_refusal a.order s a.probe.now a.reach a.place a.size a.room.now _ (page_refused a.order s a.probe.now a.reach a.place a.size (length a.room.now) _ (err_number _ _ c.test_table.ensures _ c.in_err-test_table.was) (numbered _)))

pub returns-then-probe-table : goal.returns-then-probe-table
returns-then-probe-table c =
    let a = c.args in
    let s = a.table.now in
    page_refusal a.order s a.probe.now a.reach a.place a.size a.room.now _
    (page_5 a.order s a.probe.now a.reach a.place a.size (length a.room.now) _ (ok_number _ _ c.test_table.ensures _ c.in_ok-test_table.was) refl (rw (← c.table.view_is) c.if-probe-table.true))

pub returns-then-not-size_holds : goal.returns-then-not-size_holds
returns-then-not-size_holds c =
    let a = c.args in
    let s = a.table.now in
    page_refusal a.order s a.probe.now a.reach a.place a.size a.room.now _
    (page_6 a.order s a.probe.now a.reach a.place a.size (length a.room.now) _ (ok_number _ _ c.test_table.ensures _ c.in_ok-test_table.was) refl (rw (← c.table.view_is) c.if-probe-table.false) _ c.size_holds.ensures c.if-not-size_holds.true)

pub page_here-requires : goal.page_here-requires
page_here-requires c =
    let a = c.args in
    page_askable a.order a.table.now a.probe.now a.reach a.place a.size
    (length a.room.now) _ (ok_number _ _ c.test_table.ensures _ c.in_ok-test_table.was) refl (rw (← c.table.view_is) c.if-probe-table.false) _ c.size_holds.ensures
    c.if-not-size_holds.false

pub returns : goal.returns
returns c = c.page_here.ensures
