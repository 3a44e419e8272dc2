-- `end_tablet::taking::same_place` meets its contract. Assumes nothing.
use Rattle.std.proofs.Common.{rules}
use Rattle.paper.specs.Ends.{same_place}
use Rattle.end_tablet.proofs.taking.same_place.Goals as goal

pub returns : goal.returns
unfolding same_place
returns c = search rules
