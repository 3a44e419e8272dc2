use Rattle.line_digits.proofs.NumbersAndFrames.{field_more}
use Rattle.line_digits.proofs.numbers.number.Goals as goal

pub loop-i-preserved : goal.loop-i-preserved
loop-i-preserved c = field_more _ _ _ _ _ c.loop-i.invariant c.byte.ensures.0 c.byte.ensures.1
