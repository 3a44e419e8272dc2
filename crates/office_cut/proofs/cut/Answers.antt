-- `office_cut::cut` meets its contract. Assumes nothing.
use Rattle.std.proofs.Common.{◌≡◌, ◌∙◌, arith, drop, length-drop, ap, length}
use Rattle.office_cut.specs.Cut.{line_in, has_end}
use Rattle.office_cut.proofs.LinesCut.{rest_from, line_short, cut_done}
use Rattle.office_cut.proofs.cut.Goals as goal

pub overflow_add-result : goal.overflow_add-result
overflow_add-result c =
    let e : c.first_line-whole.result.0.now ≡ line_in (drop c.args.from c.args.chunk.now) = c.first_line-whole.ensures.line ∙ ap line_in (rest_from _ _ _ c.min.ensures) in
    omega (arith, ap length e, line_short (drop c.args.from c.args.chunk.now), length-drop c.args.from c.args.chunk.now)

pub returns : goal.returns
returns c =
    let e = rest_from c.args.chunk.now _ _ c.min.ensures in
    let f = c.first_line-whole.ensures in
    cut_done _ _ _ _ _ _ _ _ c.keep.ensures (f.line ∙ ap line_in e) (f.end ∙ ap has_end e) c.grow.ensures
