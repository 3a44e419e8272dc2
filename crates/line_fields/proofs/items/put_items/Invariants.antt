use Prim.Native.Nat.{◌+◌, ◌*◌}
use mathlib.Core.Path.{◌≡◌}
use lib.ListN.{drop}
use Rattle.line_digits.specs.FrameBytes.{overlaid}
use Rattle.paper.specs.Fields.{item_bytes}
use Rattle.line_fields.proofs.items.put_items.Given as goal

abbrev pub invariant-loop-i : goal.invariant-loop-i
invariant-loop-i l = overlaid l.out (l.at + 14 * l.i) (item_bytes (drop (3 * l.i) l.items)) ≡ overlaid l.initial.out l.at (item_bytes l.items)
