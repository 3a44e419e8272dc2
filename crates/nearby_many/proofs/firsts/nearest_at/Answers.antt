-- `nearby_many::firsts::nearest_at` meets its contract. Assumes nothing.
use Rattle.nearby_many.proofs.FirstsOfMany.{asked_answerable}
use Rattle.nearby_many.proofs.firsts.nearest_at.Goals as goal

pub nearest-requires : goal.nearest-requires
nearest-requires c = rw c.probe_at.ensures (asked_answerable _ _ _ c.requires.asked)
