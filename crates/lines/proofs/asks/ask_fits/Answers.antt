use Rattle.paper.specs.Lines.{ask_fits}
use Rattle.lines.proofs.asks.ask_fits.Goals as goal

pub returns-then-query_fits : goal.returns-then-query_fits
unfolding ask_fits
returns-then-query_fits c = rw (← c.query_fits.ensures, c.if-query_fits.true) c.ask_ranges.ensures

pub returns : goal.returns
unfolding ask_fits
returns c = rw (← c.query_fits.ensures, c.if-query_fits.false)
