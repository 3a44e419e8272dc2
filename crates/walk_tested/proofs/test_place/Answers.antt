-- `walk_tested::test_place` meets its contract: 7, 8, 12. Assumes nothing.
use Rattle.walk_tested.proofs.PageLaws.{page_7, page_markable, page_8, page_12, page_0}
use Rattle.walk_tested.proofs.test_place.Goals as goal

pub returns-then-not-snapshot_holds : goal.returns-then-not-snapshot_holds
returns-then-not-snapshot_holds c =
    let a = c.args in
    page_7 a.order a.table.now a.probe.now a.reach a.place a.size a.room c.requires _
    (rw (← c.table.view_is) c.snapshot_holds.ensures) c.if-not-snapshot_holds.true

pub mark_holds-requires : goal.mark_holds-requires
mark_holds-requires c =
    let a = c.args in
    page_markable a.order a.table.now a.probe.now a.reach a.place a.size a.room c.requires _
    (rw (← c.table.view_is) c.snapshot_holds.ensures) c.if-not-snapshot_holds.false

pub returns-then-not-mark_holds : goal.returns-then-not-mark_holds
returns-then-not-mark_holds c =
    let a = c.args in
    page_8 a.order a.table.now a.probe.now a.reach a.place a.size a.room c.requires _
    (rw (← c.table.view_is) c.snapshot_holds.ensures) c.if-not-snapshot_holds.false _ (c.mark_holds.ensures a.order _) c.if-not-mark_holds.true

pub returns-then-room-size : goal.returns-then-room-size
returns-then-room-size c =
    let a = c.args in
    page_12 a.order a.table.now a.probe.now a.reach a.place a.size a.room c.requires _
    (rw (← c.table.view_is) c.snapshot_holds.ensures) c.if-not-snapshot_holds.false _ (c.mark_holds.ensures a.order _) c.if-not-mark_holds.false c.if-room-size.true

pub returns : goal.returns
returns c =
    let a = c.args in
    page_0 a.order a.table.now a.probe.now a.reach a.place a.size a.room c.requires _
    (rw (← c.table.view_is) c.snapshot_holds.ensures) c.if-not-snapshot_holds.false _ (c.mark_holds.ensures a.order _) c.if-not-mark_holds.false c.if-room-size.false
