-- `end_tablet::taking::take_answer` meets its contract, a law for each way. Assumes nothing.
use Prim.Native.Nat.{◌/◌, ◌≤◌}
use native.Mathlib.Omega.{arith}
use mathlib.Core.Path.{refl}
use lib.ListN.{length}
use Rattle.end_tablet.proofs.TakeLaws.{sound_few, sound_asks, takes_refused, take_16, take_13, take_14, take_15, take_joined, joined_is}
use Rattle.end_tablet.proofs.taking.take_answer.Goals as goal

pub returns-then-l : goal.returns-then-l
returns-then-l c = takes_refused c.args.l _ _ _ (take_16 c.args.l c.args.room.now c.args.y.now c.if-l.true)

pub to_present-requires : goal.to_present-requires
to_present-requires c = sound_asks c.args.l c.args.room.now c.requires.0 c.if-l.false

pub returns-then-not-to_present : goal.returns-then-not-to_present
returns-then-not-to_present c =
    let g = c.args in
    takes_refused g.l _ _ _ (take_13 g.l g.room.now g.y.now c.if-l.false _ c.to_present.ensures c.if-not-to_present.true)

pub returns-then-not-page_holds : goal.returns-then-not-page_holds
returns-then-not-page_holds c =
    let g = c.args in
    takes_refused g.l _ _ _ (take_14 g.l g.room.now g.y.now c.if-l.false _ c.to_present.ensures c.if-not-to_present.false _ c.page_holds.ensures c.if-not-page_holds.true)

pub overflow_sub-room : goal.overflow_sub-room
overflow_sub-room c =
    let g = c.args in
    let few : g.l.count ≤ length g.room.now / 3 = sound_few g.l g.room.now c.requires.0 in
    omega arith

pub returns-then-room-l : goal.returns-then-room-l
returns-then-room-l c =
    let g = c.args in
    takes_refused g.l _ _ _
    (take_15 g.l g.room.now g.y.now c.if-l.false _ c.to_present.ensures c.if-not-to_present.false _ c.page_holds.ensures c.if-not-page_holds.false (sound_few g.l g.room.now c.requires.0) c.if-room-l.true)

pub join_page-requires : goal.join_page-requires
join_page-requires c =
    let g = c.args in
    let few : g.l.count ≤ length g.room.now / 3 = sound_few g.l g.room.now c.requires.0 in
    (omega arith, c.requires.1)

pub returns : goal.returns
returns c =
    let g = c.args in
    let few : g.l.count ≤ length g.room.now / 3 = sound_few g.l g.room.now c.requires.0 in
    joined_is g.l g.room.now g.y.now _ _ _
    (take_joined g.l g.room.now g.y.now c.if-l.false _ c.to_present.ensures c.if-not-to_present.false _ c.page_holds.ensures c.if-not-page_holds.false few c.if-room-l.false)
    (omega arith) (omega (arith, c.join_page.ensures.1, c.requires.1)) refl c.join_page.ensures.0
