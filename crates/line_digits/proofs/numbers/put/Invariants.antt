use mathlib.Core.Path.{◌≡◌}
use Rattle.paper.specs.Frames.{be}
use Rattle.line_digits.specs.FrameBytes.{overlaid}
use Rattle.line_digits.proofs.numbers.put.Given as goal

abbrev pub invariant-loop-i : goal.invariant-loop-i
invariant-loop-i l = overlaid l.out l.at (be l.i l.rest) ≡ overlaid l.initial.out l.at (be l.w l.n)
