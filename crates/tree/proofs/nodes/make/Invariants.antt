-- `tree::nodes::make` meets its contract: a store, and one for each further field. Assumes nothing.
use Prim.Native.Nat.{◌-◌}
use mathlib.Core.Path.{◌≡◌}
use Rattle.paper.specs.Tree.{cleared}
use Rattle.tree.proofs.nodes.make.Given as goal

abbrev pub invariant-loop-f : goal.invariant-loop-f
invariant-loop-f l = l.nodes ≡ cleared l.initial.nodes l.w (l.f - 1)
