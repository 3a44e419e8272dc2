-- `tree::entering::enter` meets its contract: the loop goes down as `entered_from` does. Assumes nothing.
use Prim.Native.Nat.{◌-◌}
use Rattle.paper.specs.Tree.{apart}
use Rattle.tree.proofs.OneEntering.{EnteringGoing}
use Rattle.tree.proofs.entering.enter.Given as goal

abbrev pub invariant-loop-nodes : goal.invariant-loop-nodes
invariant-loop-nodes l = EnteringGoing (apart l.measure l.d l.coordinates) l.used l.k l.initial.nodes l.nodes l.m

abbrev pub decreases-loop-nodes : goal.decreases-loop-nodes
decreases-loop-nodes l = l.used - l.m
