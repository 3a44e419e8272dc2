-- `tree_repeats::index::lacks` meets its contract: the search along a bucket's chain passes every reference of the bucket. Assumes nothing.
use lib.ListN.{length}
use Rattle.tree_repeats.proofs.Chains.{Passed}
use Rattle.tree_repeats.proofs.index.lacks.Given as goal

abbrev pub invariant-loop-x : goal.invariant-loop-x
invariant-loop-x l = Passed l.indexed l.r (length l.indexed) l.x

abbrev pub decreases-loop-x : goal.decreases-loop-x
decreases-loop-x l = l.x
