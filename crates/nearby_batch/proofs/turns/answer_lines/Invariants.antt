-- `nearby_batch::turns::answer_lines` meets its contract: steps add up, and the bytes bound them. Assumes nothing.
use Prim.Native.Nat.{◌-◌}
use lib.ListN.{length}
use Rattle.nearby_batch.specs.Batch.{batch_start, batch_of}
use Rattle.nearby_batch.proofs.Loops.{BatchGoing}
use Rattle.nearby_batch.proofs.turns.answer_lines.Given as goal

abbrev pub invariant-loop-outcomes : goal.invariant-loop-outcomes
invariant-loop-outcomes l = BatchGoing (l.table) l.asks (batch_start l.initial.outcomes l.initial.out) (batch_of l.done l.outcomes l.out)

abbrev pub decreases-loop-outcomes : goal.decreases-loop-outcomes
decreases-loop-outcomes l = length l.asks - l.done.used
