use Prim.Native.Nat.{◌*◌}
use native.Mathlib.Omega.{arith}
use mathlib.Core.Path.{◌≡◌}
use lib.ListN.{drop}
use lib.Seq.{drop-drop}
use mir.Syntax.{w32}
use mir.Val.{of_z, to_z}
use mir.Facts.{to_z-of_z}
use Rattle.paper.specs.Frames.{num, frame_of}
use Rattle.line_fields.proofs.PartLaws.{place_step}
use Rattle.line_fields.proofs.parts.coords_at.Goals as goal

pub loop-i-preserved : goal.loop-i-preserved
loop-i-preserved c =
    let i = c.loop-i.i in
    let f = drop c.args.at (frame_of c.args.line.now) in
    let e : to_z w32 (of_z w32 c.signed.result) ≡ to_z w32 (num 4 (drop (4 * i) f)) =
    rw (to_z-of_z {w = w32} {z = c.signed.result} (record { sfits = c.signed.type_inv }), c.signed.ensures, c.number.ensures.value, drop-drop) in
    rw (e, c.loop-i.invariant) (place_step f i (omega arith))
