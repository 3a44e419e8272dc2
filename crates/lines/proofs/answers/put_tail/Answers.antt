use Prim.Native.Nat.{◌+◌}
use native.Mathlib.Omega.{arith}
use mathlib.Core.Path.{sym, ◌∙◌}
use Rattle.line_fields.proofs.PartLaws.{over_be}
use Rattle.lines.proofs.answers.put_tail.Goals as goal

pub returns : goal.returns
returns c =
    let a = c.args in
    let p1 = c.put in
    let p2 = c.put-2 in
    c.put_items.ensures
    ∙ sym (
    over_be a.out.now p1.new.out a.at (a.at + 1) 1 a.last _ (omega arith) (omega arith) p1.ensures
    ∙ over_be p1.new.out p2.new.out (a.at + 1) (a.at + 2) 1 a.count _ (omega arith) (omega arith) p2.ensures
    )
