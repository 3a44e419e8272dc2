use Prim.Native.Nat.{◌+◌, ◌*◌}
use native.Mathlib.Omega.{arith}
use mathlib.Core.Path.{◌≡◌, ◌∙◌}
use lib.ListN.{drop}
use lib.Seq.{drop-drop}
use Rattle.paper.specs.Frames.{num, frame_of}
use Rattle.line_fields.proofs.ItemLaws.{slots_step}
use Rattle.line_fields.proofs.items.items_at.Goals as goal

pub loop-i-preserved : goal.loop-i-preserved
loop-i-preserved c =
    let i = c.loop-i.i in
    let at = c.args.at in
    let f = drop at (frame_of c.args.line.now) in
    let e1 : c.number.result ≡ num 2 (drop (14 * i) f) = c.number.ensures.value ∙ rw drop-drop in
    let q2 : at + 14 * i + 2 ≡ at + (14 * i + 2) = omega arith in
    let q3 : at + 14 * i + 6 ≡ at + (14 * i + 6) = omega arith in
    let e2 : c.number-in-loop-i.result ≡ num 4 (drop (14 * i + 2) f) = c.number-in-loop-i.ensures.value ∙ rw (q2, drop-drop) in
    let e3 : c.number-in-loop-i-2.result ≡ num 8 (drop (14 * i + 6) f) = c.number-in-loop-i-2.ensures.value ∙ rw (q3, drop-drop) in
    rw (e1, e2, e3, c.loop-i.invariant) (slots_step f i (omega arith))
