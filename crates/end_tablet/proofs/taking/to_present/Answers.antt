-- `end_tablet::taking::to_present` meets its contract: the same query, and the same place. Assumes nothing.
use Rattle.paper.proofs.Ranges.{range_is}
use Rattle.end_tablet.proofs.PresentAsk.{present_query, present_place_lem}
use Rattle.end_tablet.proofs.taking.to_present.Goals as goal

pub same_query-requires : goal.same_query-requires
same_query-requires c = (range_is _ _ c.requires.range).narrow

pub returns-else-same_query : goal.returns-else-same_query
returns-else-same_query c = rw c.if-same_query.false (present_query c.args.l c.args.room.now c.args.y.now _ c.same_query.ensures c.if-same_query.false)

pub returns-then-same_query : goal.returns-then-same_query
returns-then-same_query c =
    let args = c.args in
    present_place_lem args.l args.room.now args.y.now _ c.same_query.ensures c.if-same_query.true _ c.present.ensures _ c.same_place.ensures
