use Prim.Native.Nat.{◌+◌, ◌*◌}
use native.Mathlib.Omega.{arith}
use mathlib.Core.Path.{◌≡◌, sym, ◌∙◌}
use lib.ListN.{length}
use Rattle.paper.specs.Fields.{head}
use Rattle.paper.specs.Lines.{claim_frame}
use Rattle.line_digits.specs.FrameBytes.{overlaid}
use Rattle.line_digits.proofs.LinesAndFrames.{length_line}
use Rattle.line_fields.proofs.PartLaws.{over_be, over_to, length_head}
use Rattle.lines.proofs.WritersReaders.{finish}
use Rattle.lines.proofs.ClaimTests.{length_claim}
use Rattle.lines.proofs.claims.fill_claim.Goals as goal

pub returns : goal.returns
unfolding claim_frame
returns c =
    let a = c.args in
    let cs = a.coords.now in
    let p1 = c.put_head in
    let p2 = c.put in
    let f = claim_frame a.table a.measure a.d a.reference cs in
    let lh = length_head 3 a.table a.measure a.d in
    let l = length_claim a.table a.measure a.d a.reference cs in
    let ll = length_line f in
    let e : c.put_coords.new.out ≡ overlaid a.out.now 0 f =
    c.put_coords.ensures
    ∙ sym (
    over_to a.out.now p1.new.out 0 7 (head 3 a.table a.measure a.d) _ (omega arith) (omega arith) p1.ensures
    ∙ over_be p1.new.out p2.new.out 7 11 4 a.reference _ (omega arith) (omega arith) p2.ensures
    ) in
    (omega arith, rw e (finish a.out.now f (22 + 8 * length cs) (omega arith) (omega arith)))
