-- `tree_repeats::index::fill` meets its contract: those so far are indexed, and each is none of those before it. Assumes nothing.
use Rattle.std.proofs.Common.{arith}
use Rattle.tree_repeats.specs.NewReferences.{Differ}
use Rattle.tree_repeats.proofs.EachTested.{tells_no, tells_yes}
use Rattle.tree_repeats.proofs.index.fill.Goals as goal

pub returns-then-not-lacks-clause-differ : goal.returns-then-not-lacks-clause-differ
unfolding Differ
returns-then-not-lacks-clause-differ c = tells_no (λ differ. c.lacks.ensures.no c.if-not-lacks.true (differ _ c.loop-i-test.true))

pub returns-clause-differ : goal.returns-clause-differ
unfolding Differ
returns-clause-differ c = tells_yes (λ j h. c.loop-i.invariant.differ j (omega arith))
