-- `end_tablet::asking::present` meets its contract: from the start, or after the last item. Assumes nothing.
use native.Mathlib.Omega.{arith}
use Rattle.end_tablet.proofs.PresentAsk.{present_after, present_start}
use Rattle.end_tablet.proofs.asking.present.Goals as goal

pub overflow_sub-result : goal.overflow_sub-result
overflow_sub-result c = omega (arith, c.requires.some c.if-l.true)

pub bounds-room-n : goal.bounds-room-n
bounds-room-n c = omega (arith, c.requires.some c.if-l.true, c.requires.few)

pub overflow_sub-result-then-l : goal.overflow_sub-result-then-l
overflow_sub-result-then-l c = omega (arith, c.requires.some c.if-l.true)

pub bounds-room-n-then-l : goal.bounds-room-n-then-l
bounds-room-n-then-l c = omega (arith, c.requires.some c.if-l.true, c.requires.few)

pub overflow_cast-result-then-l : goal.overflow_cast-result-then-l
overflow_cast-result-then-l c = record { fits = omega (arith, c.requires.below c.if-l.true, c.requires.snapshot) }

pub returns-then-l : goal.returns-then-l
returns-then-l c = present_after _ _ c.if-l.true (c.requires.some c.if-l.true)

pub returns : goal.returns
returns c = present_start _ _ c.if-l.false
