-- `end_tablet::taking::join_page` meets its contract: the page has room for sixteen items. Assumes nothing.
use Prim.Native.Nat.{◌-◌, ◌<◌}
use native.Mathlib.Omega.{arith}
use lib.ListN.{length}
use borrow.Author.Rules.{rules}
use Rattle.paper.specs.Limits.{item_room}
use Rattle.end_tablet.proofs.taking.join_page.Goals as goal

pub join-requires : goal.join-requires
join-requires c =
    let long : item_room - 1 < length c.args.y.now.items = search rules in
    (omega arith, omega arith)

pub returns : goal.returns
returns c = (c.join.ensures, search rules)
