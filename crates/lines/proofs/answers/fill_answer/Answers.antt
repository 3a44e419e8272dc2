use Prim.Native.Nat.{ℕ, ◌+◌, ◌*◌, ◌≤◌, ◌<◌}
use native.Mathlib.Omega.{arith}
use mathlib.Core.Path.{◌≡◌, sym, ap, ◌∙◌}
use lib.ListN.{length}
use lib.Seq.{length-take-le}
use Rattle.paper.specs.Orders.{query_in}
use Rattle.paper.specs.Fields.{front}
use Rattle.paper.specs.Lines.{answer_kind, answer_frame}
use Rattle.line_digits.specs.FrameBytes.{overlaid}
use Rattle.line_digits.proofs.LinesAndFrames.{length_line}
use Rattle.line_fields.proofs.PartLaws.{over_to, length_front}
use Rattle.lines.proofs.WritersReaders.{finish}
use Rattle.lines.proofs.AnswerTests.{length_answer}
use borrow.Author.Rules.{rules}
use Rattle.lines.proofs.answers.fill_answer.Goals as goal

pub returns : goal.returns
unfolding answer_frame
returns c =
    let a = c.args in
    let q = query_in a.q in
    let d = a.q.d in
    let long : 7 < length a.q.probe = search (rules, c.well_formed.0) in
    let pre = c.requires in
    let put_front = c.put_front in
    let narrow : a.q.d ≤ 8 = pre.0 in
    let ld : length q.probe ≡ a.q.d = length-take-le a.q.d a.q.probe (omega arith) in
    let b = front (answer_kind a.q.order) q a.p in
    let f = answer_frame q a.p a.last a.count a.items.now in
    let lb = length_front (answer_kind a.q.order) q a.p in
    let l = length_answer q a.p a.last a.count a.items.now pre.1.0 in
    let ll = length_line f in
    let w : put_front.new.out ≡ overlaid a.out.now 0 b =
    put_front.ensures ∙ ap (λ (k : ℕ). overlaid a.out.now 0 (front k q a.p)) c.answer_kind.ensures in
    let e : c.put_tail.new.out ≡ overlaid a.out.now 0 f =
    c.put_tail.ensures ∙ sym (over_to a.out.now put_front.new.out 0 (28 + 4 * a.q.d) b _ (omega arith) (omega arith) w) in
    (omega arith, rw e (finish a.out.now f (60 + 8 * a.q.d + 28 * a.count) (omega arith) (omega arith)))
