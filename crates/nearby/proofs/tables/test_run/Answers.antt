-- `nearby::tables::test_run` meets its contract: one law for each way through it. Assumes nothing.
use Prim.Native.Nat.{◌≤◌}
use mathlib.Core.Path.{refl, sym, subst}
use lib.ListN.{length}
use Rattle.paper.specs.Tree.{Store}
use Rattle.paper.proofs.Outcomes.{err_number, ok_number, told_on, numbered}
use Rattle.nearby.proofs.TablesAndRuns.{run_refused, run_wide, run_stored, run_count, run_5, run_17, run_3, run_0}
use Rattle.nearby.proofs.tables.test_run.Goals as goal

pub returns-in_err-test_table : goal.returns-in_err-test_table
returns-in_err-test_table c =
    let a = c.args in
    rw (told_on _ _ c.from_residual.ensures.1)
    (run_refused a.table.now a.given.now a.points.now _ (err_number _ _ c.test_table.ensures _ c.in_err-test_table.was) (numbered _))

pub is_whole-requires : goal.is_whole-requires
is_whole-requires c =
    let a = c.args in
    subst (λ (s : Store). 1 ≤ s.table.d) (sym c.table.view_is)
    (run_wide a.table.now a.given.now a.points.now _ (ok_number _ _ c.test_table.ensures _ c.in_ok-test_table.was) refl)

pub returns-then-not-is_whole : goal.returns-then-not-is_whole
returns-then-not-is_whole c =
    let a = c.args in
    run_5 a.table.now a.given.now a.points.now _ (ok_number _ _ c.test_table.ensures _ c.in_ok-test_table.was) refl _ (rw (← c.table.view_is) c.is_whole.ensures) c.if-not-is_whole.true

pub are_new-requires : goal.are_new-requires
are_new-requires c =
    let a = c.args in
    subst (λ (s : Store). s.table.count ≤ length s.references) (sym c.table.view_is)
    (run_stored a.table.now a.given.now a.points.now _ (ok_number _ _ c.test_table.ensures _ c.in_ok-test_table.was) refl)

pub returns-then-not-are_new : goal.returns-then-not-are_new
returns-then-not-are_new c =
    let a = c.args in
    run_17 a.table.now a.given.now a.points.now _ (ok_number _ _ c.test_table.ensures _ c.in_ok-test_table.was) refl _
    (rw (← c.table.view_is) c.is_whole.ensures) c.if-not-is_whole.false _ (rw (← c.table.view_is) c.are_new.ensures) c.if-not-are_new.true

pub overflow_sub-t : goal.overflow_sub-t
overflow_sub-t c =
    let a = c.args in
    subst (λ (s : Store). s.table.count ≤ s.table.capacity) (sym c.table.view_is)
    (run_count a.table.now a.given.now a.points.now _ (ok_number _ _ c.test_table.ensures _ c.in_ok-test_table.was) refl)

pub returns-then-t-given : goal.returns-then-t-given
returns-then-t-given c =
    let a = c.args in
    run_3 a.table.now a.given.now a.points.now _ (ok_number _ _ c.test_table.ensures _ c.in_ok-test_table.was) refl _
    (rw (← c.table.view_is) c.is_whole.ensures) c.if-not-is_whole.false _ (rw (← c.table.view_is) c.are_new.ensures) c.if-not-are_new.false (rw (← c.table.view_is) c.if-t-given.true)

pub returns : goal.returns
returns c =
    let a = c.args in
    run_0 a.table.now a.given.now a.points.now _ (ok_number _ _ c.test_table.ensures _ c.in_ok-test_table.was) refl _
    (rw (← c.table.view_is) c.is_whole.ensures) c.if-not-is_whole.false _ (rw (← c.table.view_is) c.are_new.ensures) c.if-not-are_new.false (rw (← c.table.view_is) c.if-t-given.false)
