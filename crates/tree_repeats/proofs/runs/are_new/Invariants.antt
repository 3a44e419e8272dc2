-- `tree_repeats::runs::are_new` meets its contract: the rest of the run decides. Assumes nothing.
use mathlib.Core.Path.{◌≡◌}
use lib.ListN.{length}
use Rattle.paper.specs.References.{anew}
use Rattle.tree_repeats.proofs.runs.are_new.Given as goal

abbrev pub invariant-loop-known : goal.invariant-loop-known
invariant-loop-known l = anew l.known l.given ≡ anew l.known l.rest

abbrev pub decreases-loop-known : goal.decreases-loop-known
decreases-loop-known l = length l.rest
