-- `measure::pairs::apart` meets its contract: the sum is the distance over the coordinates so far. Assumes nothing.
use lib.ListN.{length}
use Rattle.measure.specs.Measured.{DistanceIs}
use Rattle.measure.proofs.pairs.apart.Given as goal

abbrev pub invariant-loop-x : goal.invariant-loop-x
invariant-loop-x g l = DistanceIs g.M.Metric.measure (length l.yielded) l.a l.at l.b l.bt l.sum
