use Prim.Native.Nat.{◌-◌, ◌*◌}
use mathlib.Core.Path.{◌≡◌}
use mathlib.Core.List.{◌++◌}
use lib.ListN.{drop, replicate}
use Rattle.paper.specs.Frames.{frame_of}
use Rattle.paper.specs.Fields.{item_numbers}
use Rattle.paper.specs.Limits.{item_room}
use Rattle.line_fields.proofs.items.items_at.Given as goal

abbrev pub invariant-loop-i : goal.invariant-loop-i
invariant-loop-i l = l.found ≡ item_numbers l.i (drop l.at (frame_of l.line)) ++ replicate (item_room - 3 * l.i) 0
