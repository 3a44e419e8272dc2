-- `office_serve::one_line::serve_cut` meets its contract: a longer line is refused as its front would be. Assumes nothing.
use native.Mathlib.Omega.{arith}
use Rattle.office_serve.proofs.OneLineServed.{cut_long, cut_line}
use Rattle.office_serve.proofs.one_line.serve_cut.Goals as goal

pub returns-then-size-line : goal.returns-then-size-line
returns-then-size-line c = cut_line _ _ _ c.requires.1 _ _ _ _ _ _ c.if-size-line.true (omega arith) c.serve_line.ensures

pub returns-else-size-line : goal.returns-else-size-line
returns-else-size-line c = cut_long _ _ _ c.requires.1 _ _ _ _ c.requires.0.ready c.if-size-line.false c.refuse.ensures
