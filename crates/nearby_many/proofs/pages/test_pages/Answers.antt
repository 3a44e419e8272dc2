-- `nearby_many::pages::test_pages` meets its contract: the table and the probes, then 5, 6, 12. Assumes nothing.
use Prim.Native.Nat.{◌≤◌}
use mathlib.Core.Path.{sym, ◌∙◌}
use native.Mathlib.Omega.{arith}
use Rattle.paper.specs.Limits.{most_page}
use Rattle.paper.proofs.Outcomes.{err_number, ok_number, told_on, numbered}
use Rattle.nearby_many.proofs.PagesOfMany.{pages_many, pages_left, size_some, size_few}
use Rattle.nearby_many.proofs.pages.test_pages.Goals as goal

pub returns-in_err-test_many : goal.returns-in_err-test_many
returns-in_err-test_many c =
    let a = c.args in
    rw (told_on _ _ c.from_residual.ensures.1)
    (pages_many a.table.now a.probes a.n a.places a.size a.outcomes a.items _ (err_number _ _ c.test_many.ensures _ c.in_err-test_many.was) (numbered _))

pub returns-then-not-is_whole : goal.returns-then-not-is_whole
returns-then-not-is_whole c =
    let a = c.args in
    let left = pages_left a.table.now a.probes a.n a.places a.size a.outcomes a.items (ok_number _ _ c.test_many.ensures _ c.in_ok-test_many.was) in
    rw (left, ← c.is_whole.ensures, c.if-not-is_whole.true)

pub returns-then-not-size_holds : goal.returns-then-not-size_holds
returns-then-not-size_holds c =
    let a = c.args in
    let left = pages_left a.table.now a.probes a.n a.places a.size a.outcomes a.items (ok_number _ _ c.test_many.ensures _ c.in_ok-test_many.was) in
    rw (left, ← c.is_whole.ensures, c.if-not-is_whole.false, ← c.size_holds.ensures, c.if-not-size_holds.true)

pub overflow_mul-size : goal.overflow_mul-size
overflow_mul-size c =
    let few : c.args.size ≤ most_page = size_few _ (sym c.size_holds.ensures ∙ c.if-not-size_holds.false) in
    omega arith

pub has_rows-requires-2 : goal.has_rows-requires-2
has_rows-requires-2 c =
    let some : 1 ≤ c.args.size = size_some _ (sym c.size_holds.ensures ∙ c.if-not-size_holds.false) in
    omega arith

pub returns-then-not-has_rows : goal.returns-then-not-has_rows
returns-then-not-has_rows c =
    let a = c.args in
    let left = pages_left a.table.now a.probes a.n a.places a.size a.outcomes a.items (ok_number _ _ c.test_many.ensures _ c.in_ok-test_many.was) in
    rw (left, ← c.is_whole.ensures, c.if-not-is_whole.false, ← c.size_holds.ensures, c.if-not-size_holds.false, ← c.has_rows.ensures, c.if-not-has_rows.true)

pub returns-then-not-has_rows-2 : goal.returns-then-not-has_rows-2
returns-then-not-has_rows-2 c =
    let a = c.args in
    let left = pages_left a.table.now a.probes a.n a.places a.size a.outcomes a.items (ok_number _ _ c.test_many.ensures _ c.in_ok-test_many.was) in
    rw (left, ← c.is_whole.ensures, c.if-not-is_whole.false, ← c.size_holds.ensures, c.if-not-size_holds.false, ← c.has_rows.ensures, c.if-not-has_rows.false, ← c.has_rows-2.ensures, c.if-not-has_rows-2.true)

pub returns : goal.returns
returns c =
    let a = c.args in
    let left = pages_left a.table.now a.probes a.n a.places a.size a.outcomes a.items (ok_number _ _ c.test_many.ensures _ c.in_ok-test_many.was) in
    rw (left, ← c.is_whole.ensures, c.if-not-is_whole.false, ← c.size_holds.ensures, c.if-not-size_holds.false, ← c.has_rows.ensures, c.if-not-has_rows.false, ← c.has_rows-2.ensures, c.if-not-has_rows-2.false)
