-- `nearby_many::counts::test_many` meets its contract: the table's refusal, then 5. Assumes nothing.
use Prim.Native.Nat.{◌≤◌}
use mathlib.Core.Path.{sym, subst}
use Rattle.paper.specs.Tree.{Store}
use Rattle.paper.proofs.Outcomes.{err_number, ok_number, told_on, numbered}
use Rattle.nearby_many.proofs.FirstsOfMany.{many_table, many_wide, many_left}
use Rattle.nearby_many.proofs.counts.test_many.Goals as goal

pub returns-in_err-test_table : goal.returns-in_err-test_table
returns-in_err-test_table c =
    rw (told_on _ _ c.from_residual.ensures.1)
    (many_table c.args.table.now _ _ _ (err_number _ _ c.test_table.ensures _ c.in_err-test_table.was) (numbered _))

pub is_whole-requires : goal.is_whole-requires
is_whole-requires c =
    subst (λ (s : Store). 1 ≤ s.table.d) (sym c.table.view_is)
    (many_wide c.args.table.now c.args.probes c.args.n (ok_number _ _ c.test_table.ensures _ c.in_ok-test_table.was))

pub returns-then-not-is_whole : goal.returns-then-not-is_whole
returns-then-not-is_whole c =
    let left = many_left _ c.args.probes c.args.n (ok_number _ _ c.test_table.ensures _ c.in_ok-test_table.was) in
    rw (left, ← c.table.view_is, ← c.is_whole.ensures, c.if-not-is_whole.true)

pub returns : goal.returns
returns c =
    let left = many_left _ c.args.probes c.args.n (ok_number _ _ c.test_table.ensures _ c.in_ok-test_table.was) in
    rw (left, ← c.table.view_is, ← c.is_whole.ensures, c.if-not-is_whole.false)
