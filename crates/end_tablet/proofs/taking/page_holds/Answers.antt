-- `end_tablet::taking::page_holds` meets its contract: its items in one pass, and none only as the last. Assumes nothing.
use Prim.Native.Nat.{◌-◌, ◌<◌}
use native.Mathlib.Omega.{arith}
use lib.ListN.{length}
use Rattle.end_tablet.proofs.TakeLaws.{page_items, page_some, page_none}
use Rattle.paper.specs.Limits.{item_room}
use borrow.Author.Rules.{rules}
use borrow.Author.Tests.{le-leb}
use Rattle.end_tablet.proofs.taking.page_holds.Goals as goal

pub items_hold-requires : goal.items_hold-requires
items_hold-requires c = let long : item_room - 1 < length c.args.y.now.items = search rules in omega arith

pub returns-else-items_hold : goal.returns-else-items_hold
returns-else-items_hold c = rw c.if-items_hold.false (page_items c.args.y.now _ c.place_of-place.ensures _ c.items_hold.ensures c.if-items_hold.false)

pub returns-then-n-ge1 : goal.returns-then-n-ge1
returns-then-n-ge1 c = rw (le-leb 1 _ c.if-n-ge1.true) (page_some c.args.y.now _ c.place_of-place.ensures _ c.items_hold.ensures c.if-items_hold.true c.if-n-ge1.true)

pub returns-else-n-ge1 : goal.returns-else-n-ge1
returns-else-n-ge1 c = page_none _ _ c.place_of-place.ensures _ c.items_hold.ensures c.if-items_hold.true c.if-n-ge1.false
