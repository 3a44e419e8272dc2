-- `end_office::pages::write_page` meets its contract: the page fits a line, and its line is written. Assumes nothing.
use Prim.Native.Nat.{◌<◌}
use mathlib.Core.Path.{refl, sym}
use native.Mathlib.Omega.{arith}
use lib.Dec.{lit≤}
use lib.ListN.{length, take}
use lib.Seq.{length-take-le}
use Rattle.end_office.proofs.PageLines.{scope_from_lem, aimed, pageable, page_count, page_written}
use Rattle.walk.proofs.Answers.{good_answerable}
use borrow.Author.Rules.{rules}
use Rattle.end_office.proofs.pages.write_page.Goals as goal

pub slice_bounds-probe-end : goal.slice_bounds-probe-end
slice_bounds-probe-end c =
    let long : 7 < length c.args.q.probe = search (rules, c.well_formed.1.1.1.1.0) in
    omega (arith, c.requires.asking.ask.narrow)

pub slice_bounds-find_page-end : goal.slice_bounds-find_page-end
slice_bounds-find_page-end c =
    let long : 7 < length c.args.q.probe = search (rules, c.well_formed.1.1.1.1.0) in
    sym (length-take-le _ c.args.q.probe (omega (arith, c.requires.asking.ask.narrow)))

pub find_page-paged-requires : goal.find_page-paged-requires
find_page-paged-requires c =
    let a = c.args in
    let s = a.table.now in
    let long : 7 < length a.q.probe = search (rules, c.well_formed.1.1.1.1.0) in
    record {
      answerable = good_answerable s c.requires.asking.is_open.good (take a.q.d a.q.probe) (aimed s a.q a.p a.size _ c.requires.asking long);
      pageable = pageable s a.q a.p a.size _ c.requires _ _ c.place_of-place.ensures (lit≤ tt);
    }

pub answer_scope-scope-requires : goal.answer_scope-scope-requires
answer_scope-scope-requires c = scope_from_lem c.args.p c.requires.asking.ask.scope

pub overflow_mul-n : goal.overflow_mul-n
overflow_mul-n c =
    let a = c.args in
    let s = a.table.now in
    let f = page_count s a.q a.p a.size _ c.requires _ _ _ c.place_of-place.ensures c.find_page-paged.ensures in
    omega arith

pub overflow_cast-count : goal.overflow_cast-count
overflow_cast-count c =
    let a = c.args in
    let s = a.table.now in
    let f = page_count s a.q a.p a.size _ c.requires _ _ _ c.place_of-place.ensures c.find_page-paged.ensures in
    omega arith

pub slice_bounds-scratch-end : goal.slice_bounds-scratch-end
slice_bounds-scratch-end c =
    let a = c.args in
    let s = a.table.now in
    let f = page_count s a.q a.p a.size _ c.requires _ _ _ c.place_of-place.ensures c.find_page-paged.ensures in
    let k = c.find_page-paged.auto.scratch in
    omega arith

pub slice_bounds-write_answer-end : goal.slice_bounds-write_answer-end
slice_bounds-write_answer-end c =
    let a = c.args in
    let s = a.table.now in
    let f = page_count s a.q a.p a.size _ c.requires _ _ _ c.place_of-place.ensures c.find_page-paged.ensures in
    let k = c.find_page-paged.auto.scratch in
    sym (length-take-le _ _ (omega arith))

pub returns : goal.returns
returns c =
    let a = c.args in
    let long : 7 < length a.q.probe = search (rules, c.well_formed.1.1.1.1.0) in
    page_written a.table.now a.q a.p a.size _ c.requires
    _ _ _ c.place_of-place.ensures c.find_page-paged.ensures
    _ (rw (← c.table.view_is) c.answer_scope-scope.ensures) _ c.flag.ensures
    _ refl (λ i. rw (← c.table.view_is) (c.table.invariant i)) long
    _ _ _ c.requires.asking.is_open.room c.write_answer.ensures
