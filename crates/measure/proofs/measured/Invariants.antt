-- `measure::measured` meets its contract: the sum is the distance over the coordinates so far. Assumes nothing.
use Prim.Native.Nat.{◌≤◌}
use mathlib.Core.Path.{◌≡◌}
use lib.ListN.{length, drop}
use Rattle.paper.specs.Points.{distance, greatest_of}
use Rattle.measure.proofs.measured.Given as goal

abbrev pub invariant-loop-x : goal.invariant-loop-x
invariant-loop-x l = record {
  exact : l.sum ≡ distance l.m (length l.yielded) (drop l.at l.a) (drop l.bt l.b);
  bounded : l.sum ≤ greatest_of l.m (length l.yielded);
}
