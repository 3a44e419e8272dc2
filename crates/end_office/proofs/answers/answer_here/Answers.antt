-- `end_office::answers::answer_here` meets its contract: 7, 8, or the page. Assumes nothing.
use Prim.Native.Nat.{◌<◌}
use native.Mathlib.Omega.{arith}
use lib.ListN.{length}
use Rattle.end_office.proofs.PageLines.{markable}
use Rattle.end_office.proofs.AnswerToAsk.{stored_at, here_7, here_stored, here_8, here_page}
use borrow.Author.Rules.{rules}
use Rattle.end_office.proofs.answers.answer_here.Goals as goal

pub returns-then-not-snapshot_holds : goal.returns-then-not-snapshot_holds
returns-then-not-snapshot_holds c =
    let a = c.args in
    let holds = stored_at a.p a.table.now.table.count _ _ c.place_of-place.ensures (rw (← c.table.view_is) c.snapshot_holds.ensures) in
    here_7 a.table.now a.q a.p a.size _ holds _ c.if-not-snapshot_holds.true

pub slice_bounds-probe-end : goal.slice_bounds-probe-end
slice_bounds-probe-end c =
    let long : 7 < length c.args.q.probe = search (rules, c.well_formed.1.1.1.1.0) in
    omega (arith, c.requires.ask.narrow)

pub mark_holds-requires : goal.mark_holds-requires
mark_holds-requires c =
    let a = c.args in
    let s = a.table.now in
    let long : 7 < length a.q.probe = search (rules, c.well_formed.1.1.1.1.0) in
    let holds = stored_at a.p a.table.now.table.count _ _ c.place_of-place.ensures (rw (← c.table.view_is) c.snapshot_holds.ensures) in
    markable s a.q a.p a.size _ c.requires long _ c.place_of-place.ensures
    (here_stored s a.q a.p a.size _ holds c.if-not-snapshot_holds.false)

pub returns-then-not-mark_holds : goal.returns-then-not-mark_holds
returns-then-not-mark_holds c =
    let a = c.args in
    let holds = stored_at a.p a.table.now.table.count _ _ c.place_of-place.ensures (rw (← c.table.view_is) c.snapshot_holds.ensures) in
    here_8 a.table.now a.q a.p a.size _ holds
    _ c.requires _ _ c.place_of-place.ensures
    (c.mark_holds.ensures a.q.order _) c.if-not-snapshot_holds.false _ c.if-not-mark_holds.true

pub write_page-requires : goal.write_page-requires
write_page-requires c =
    let a = c.args in
    let s = a.table.now in
    let holds = stored_at a.p a.table.now.table.count _ _ c.place_of-place.ensures (rw (← c.table.view_is) c.snapshot_holds.ensures) in
    record {
      asking = c.requires;
      stored = here_stored s a.q a.p a.size _ holds c.if-not-snapshot_holds.false;
    }

pub returns : goal.returns
returns c =
    let a = c.args in
    let holds = stored_at a.p a.table.now.table.count _ _ c.place_of-place.ensures (rw (← c.table.view_is) c.snapshot_holds.ensures) in
    here_page a.table.now a.q a.p a.size _ holds
    _ c.requires _ _ c.place_of-place.ensures
    (c.mark_holds.ensures a.q.order _) c.if-not-snapshot_holds.false _ _ _ c.if-not-mark_holds.false c.write_page.ensures
