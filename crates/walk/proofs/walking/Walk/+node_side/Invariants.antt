-- The pair `node` and `side` meets its contracts: the two call each other, and each call leaves fewer nodes above the one that is
-- looked at. The measure is twice as many, and one more for `side`. Assumes nothing.
use Rattle.std.proofs.Common.{◌-◌, ◌*◌, length}
use Rattle.walk.proofs.Nodes.{left_above}
use Rattle.walk.proofs.walking.Walk.+node_side.Given as goal

abbrev pub decreases-node : goal.decreases-node
decreases-node l = (length l.self.now.nodes.now - l.m) * 2

abbrev pub decreases-side : goal.decreases-side
decreases-side l = left_above (length l.self.now.nodes.now) l.way
