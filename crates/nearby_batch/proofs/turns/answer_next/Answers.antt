-- `nearby_batch::turns::answer_next` meets its contract: the line is cut, answered, and its row put. Assumes nothing.
use mathlib.Core.Path.{refl}
use native.Mathlib.Omega.{arith}
use Rattle.nearby_batch.proofs.Steps.{has, end_inside, line_open, given_inside, next_stands}
use Rattle.nearby_batch.proofs.turns.answer_next.Goals as goal

pub line_end-end-requires : goal.line_end-end-requires
line_end-end-requires c = (has c.requires).unread

pub slice_bounds-answer_line-end : goal.slice_bounds-answer_line-end
slice_bounds-answer_line-end c = end_inside c.requires _ c.line_end-end.ensures

pub slice_bounds-answer_line-start-2 : goal.slice_bounds-answer_line-start-2
slice_bounds-answer_line-start-2 c = omega (arith, has c.requires)

pub slice_bounds-answer_line-count-2 : goal.slice_bounds-answer_line-count-2
slice_bounds-answer_line-count-2 c = omega (arith, has c.requires)

pub answer_line-wrote-requires : goal.answer_line-wrote-requires
answer_line-wrote-requires c = line_open c.requires _ c.line_end-end.ensures _ refl

pub put_row-requires : goal.put_row-requires
put_row-requires c = (has c.requires).row

pub overflow_add-result : goal.overflow_add-result
overflow_add-result c = omega (arith, has c.requires)

pub overflow_add-result-2 : goal.overflow_add-result-2
overflow_add-result-2 c =
    let wrote = c.answer_line-wrote in
    omega (arith, given_inside c.requires _ c.line_end-end.ensures _ refl wrote.result _ wrote.ensures _ c.unwrap_or.ensures wrote.auto.out)

pub returns : goal.returns
returns c =
    let wrote = c.answer_line-wrote in
    next_stands c.requires _ c.line_end-end.ensures _ refl wrote.result _ wrote.ensures _ c.unwrap_or.ensures _ c.put_row.ensures
