use Rattle.line_digits.specs.FrameBytes.{Field}
use Rattle.line_digits.proofs.numbers.number.Given as goal

abbrev pub invariant-loop-i : goal.invariant-loop-i
invariant-loop-i l = Field l.line l.at l.i l.acc
