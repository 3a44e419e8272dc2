use Rattle.paper.specs.Lines.{claim_fits}
use Rattle.lines.proofs.claims.claim_fits.Goals as goal

pub returns-then-in_range : goal.returns-then-in_range
unfolding claim_fits
returns-then-in_range c = rw (← c.in_range.ensures, c.if-in_range.true)

pub returns : goal.returns
unfolding claim_fits
returns c = rw (← c.in_range.ensures, c.if-in_range.false)
