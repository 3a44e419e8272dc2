-- `tree::soundness::rebuild` meets its contract. Assumes nothing.
use mathlib.Core.Path.{◌≡◌}
use Rattle.paper.specs.Tree.{grown, built, apart}
use Rattle.tree.proofs.soundness.rebuild.Given as goal

abbrev pub invariant-loop-k : goal.invariant-loop-k
invariant-loop-k l = grown l.nodes l.used ≡ built (apart l.measure l.d l.coordinates) l.k l.initial.nodes
