-- `tree::runs::copy` meets its contract. Assumes nothing.
use mathlib.Core.Path.{◌≡◌}
use lib.ListN.{length, drop}
use lib.Seq.{paste}
use Rattle.tree.proofs.runs.copy.Given as goal

abbrev pub invariant-loop-i : goal.invariant-loop-i
invariant-loop-i l = (length l.coordinates ≡ length l.initial.coordinates) × (l.coordinates ≡ paste l.initial.coordinates l.at (drop l.from l.points) l.i)
