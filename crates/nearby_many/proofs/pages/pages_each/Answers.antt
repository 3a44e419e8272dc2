-- `nearby_many::pages::pages_each` meets its contract: refused before anything is written, or answered question after question. Assumes nothing.
use Prim.Native.Nat.{◌*◌}
use mathlib.Core.Path.{◌≡◌}
use native.Mathlib.Omega.{arith}
use lib.ListN.{length}
use Rattle.paper.proofs.Outcomes.{err_number, ok_number, told_on, numbered}
use Rattle.nearby_many.specs.Pages.{page_at, put_outcome, put_page_items, both_rooms}
use Rattle.nearby_many.proofs.FirstsOfMany.{each_none, each_next}
use Rattle.nearby_many.proofs.PagesOfMany.{pages_refused, pages_all, pages_done, one_page, outcome_room}
use Rattle.nearby_many.proofs.pages.pages_each.Goals as goal

pub returns-in_err-test_pages : goal.returns-in_err-test_pages
returns-in_err-test_pages c =
    let a = c.args in
    rw (told_on _ _ c.from_residual.ensures.1)
    (pages_refused a.table.now a.probes.now a.reaches.now a.places.now a.size (both_rooms a.outcomes.now a.items.now) _ (err_number _ _ c.test_pages.ensures _ c.in_err-test_pages.was) (numbered _))

pub loop-i-init : goal.loop-i-init
loop-i-init c = (each_none _ _, each_none _ _)

pub page_at-page-requires : goal.page_at-page-requires
page_at-page-requires c =
    let a = c.args in
    let all = pages_all a.table.now a.probes.now a.reaches.now a.places.now a.size (both_rooms a.outcomes.now a.items.now) (ok_number _ _ c.test_pages.ensures _ c.in_ok-test_pages.was) in
    rw c.loop-i.auto.items (one_page _ _ _ _ _ _ _ all _ c.loop-i-test.true)

pub put_page-requires : goal.put_page-requires
put_page-requires c =
    let a = c.args in
    let all = pages_all a.table.now a.probes.now a.reaches.now a.places.now a.size (both_rooms a.outcomes.now a.items.now) (ok_number _ _ c.test_pages.ensures _ c.in_ok-test_pages.was) in
    rw c.loop-i.auto.outcomes (outcome_room _ _ _ _ _ _ _ all _ c.loop-i-test.true)

pub loop-i-preserved : goal.loop-i-preserved
loop-i-preserved c =
    let a = c.args in
    let page = page_at a.table.now a.probes.now a.reaches.now a.places.now a.size in (
      each_next (put_outcome page) _ _ _ _ c.loop-i.invariant.0 (rw (← c.page_at-page.ensures.shown) c.put_page.ensures),
      each_next (put_page_items page (a.size * 3)) _ _ _ _ c.loop-i.invariant.1 c.page_at-page.ensures.filled,
    )

pub returns : goal.returns
returns c =
    let a = c.args in
    let last : length a.reaches.now ≡ c.loop-i.i = omega (arith, c.loop-i-test.false, c.loop-i.auto.i-end) in
    pages_done a.table.now a.probes.now a.reaches.now a.places.now a.size (both_rooms a.outcomes.now a.items.now) (ok_number _ _ c.test_pages.ensures _ c.in_ok-test_pages.was)
    _ _ (rw last c.loop-i.invariant.0) (rw last c.loop-i.invariant.1)
