use Rattle.paper.specs.Lines.{answer_fits}
use Rattle.lines.proofs.answers.answer_fits.Goals as goal

pub returns-then-answer_ranges : goal.returns-then-answer_ranges
unfolding answer_fits
returns-then-answer_ranges c = rw (← c.query_fits.ensures, c.if-query_fits.true, ← c.answer_ranges.ensures, c.if-answer_ranges.true) c.items_fit.ensures

pub returns-else-answer_ranges : goal.returns-else-answer_ranges
unfolding answer_fits
returns-else-answer_ranges c = rw (← c.query_fits.ensures, c.if-query_fits.true, ← c.answer_ranges.ensures, c.if-answer_ranges.false)

pub returns-else-query_fits : goal.returns-else-query_fits
unfolding answer_fits
returns-else-query_fits c = rw (← c.query_fits.ensures, c.if-query_fits.false)
