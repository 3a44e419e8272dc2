-- `end_tablet::lists::fields_hold` meets its contract, a law for each way. Assumes nothing.
use Prim.Native.Nat.{◌<◌, ◌≤◌}
use native.Mathlib.Omega.{arith}
use lib.ListN.{length}
use Rattle.end_tablet.proofs.ListLaws.{range_d, way_range, way_unused, way_most_snapshot, way_room, way_started}
use borrow.Author.Rules.{rules}
use Rattle.end_tablet.proofs.lists.fields_hold.Goals as goal

pub returns-then-not-in_range : goal.returns-then-not-in_range
returns-then-not-in_range c = (way_range _ _ _ c.in_range.ensures c.if-not-in_range.true, search rules)

pub unused_zero-requires : goal.unused_zero-requires
unused_zero-requires c =
    let long : 7 < length c.args.l.query.probe = search rules in
    let l = c.args.l in
    let small : l.query.d ≤ 8 =
    range_d l 0 _ c.in_range.ensures c.if-not-in_range.false in
    omega arith

pub returns-then-not-unused_zero : goal.returns-then-not-unused_zero
returns-then-not-unused_zero c = (
  way_unused _ _ _ c.in_range.ensures
      c.if-not-in_range.false _ c.unused_zero.ensures c.if-not-unused_zero.true,
  search rules,
)

pub returns-then-l-gt-MOST_SNAPSHOT : goal.returns-then-l-gt-MOST_SNAPSHOT
returns-then-l-gt-MOST_SNAPSHOT c = (
  way_most_snapshot _ _ _
      c.in_range.ensures c.if-not-in_range.false _ c.unused_zero.ensures c.if-not-unused_zero.false
      c.if-l-gt-MOST_SNAPSHOT.true,
  search rules,
)

pub returns-then-room-l : goal.returns-then-room-l
returns-then-room-l c = (
  way_room _ _ _ c.in_range.ensures
      c.if-not-in_range.false _ c.unused_zero.ensures c.if-not-unused_zero.false
      c.if-l-gt-MOST_SNAPSHOT.false c.if-room-l.true,
  search rules,
)

pub returns : goal.returns
returns c = (
  way_started _ _ _ c.in_range.ensures
      c.if-not-in_range.false _ c.unused_zero.ensures
      c.if-not-unused_zero.false c.if-l-gt-MOST_SNAPSHOT.false c.if-room-l.false _
      c.started_well.ensures,
  search (rules, c.well_formed.0.1.1.0),
)
