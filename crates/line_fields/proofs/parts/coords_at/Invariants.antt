use Prim.Native.Nat.{◌-◌}
use mathlib.Core.Path.{◌≡◌}
use mathlib.Core.List.{◌++◌}
use lib.ListN.{drop, replicate}
use lib.IntN.{pos}
use Rattle.paper.specs.Frames.{frame_of}
use Rattle.paper.specs.Fields.{coords_in}
use Rattle.line_fields.proofs.parts.coords_at.Given as goal

abbrev pub invariant-loop-i : goal.invariant-loop-i
invariant-loop-i l = l.found ≡ coords_in l.i (drop l.at (frame_of l.line)) ++ replicate (8 - l.i) (pos 0)
