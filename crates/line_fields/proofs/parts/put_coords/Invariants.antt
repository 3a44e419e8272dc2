use Prim.Native.Nat.{◌+◌, ◌*◌}
use mathlib.Core.Path.{◌≡◌}
use lib.ListN.{drop}
use Rattle.line_digits.specs.FrameBytes.{overlaid}
use Rattle.paper.specs.Fields.{coord_bytes}
use Rattle.line_fields.proofs.parts.put_coords.Given as goal

abbrev pub invariant-loop-i : goal.invariant-loop-i
invariant-loop-i l = overlaid l.out (l.at + 4 * l.i) (coord_bytes (drop l.i l.coords)) ≡ overlaid l.initial.out l.at (coord_bytes l.coords)
