-- `nearby_many::firsts::farthest_at` meets its contract. Assumes nothing.
use Rattle.nearby_many.proofs.FirstsOfMany.{asked_answerable}
use Rattle.nearby_many.proofs.firsts.farthest_at.Goals as goal

pub farthest-requires : goal.farthest-requires
farthest-requires c = rw c.probe_at.ensures (asked_answerable _ _ _ c.requires)
