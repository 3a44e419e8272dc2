-- `tree::runs::add_run` meets its contract. Assumes nothing.
use Prim.Native.Nat.{ℕ, ◌-◌}
use mathlib.Core.Path.{◌≡◌}
use mathlib.Core.List.{List}
use lib.IntN.{ℤ}
use lib.ListN.{length}
use Rattle.paper.specs.Tree.{Store, store}
use Rattle.paper.specs.Runs.{added_run}
use Rattle.tree.specs.Soundness.{Roomy}
use Rattle.tree.proofs.runs.add_run.Given as goal

-- after i claims of the run
pub record Running (given : List ℕ) (points : List ℤ) (s x : Store) (i : ℕ) : Type 0 where
  pub roomy : Roomy x (length given - i)
  pub d : x.table.d ≡ s.table.d
  pub same : x ≡ added_run given points i s

abbrev pub invariant-loop-i : goal.invariant-loop-i
invariant-loop-i l =
    Running l.given l.points (store l.initial.held l.initial.references l.initial.coordinates l.initial.nodes) (store l.held l.references l.coordinates l.nodes) l.i
