-- What holds at each turn of `pump`, and the bytes that are left of its chunk.
use Rattle.std.proofs.Common.{◌-◌, length}
use Rattle.office_stream.proofs.ProgramLoops.{Pumping}
use Rattle.office_stream.proofs.Program.pump.Given as goal

abbrev pub invariant-loop-self : goal.invariant-loop-self
invariant-loop-self g l = Pumping l.chunk l.fn.self l.self

abbrev pub decreases-loop-self : goal.decreases-loop-self
decreases-loop-self g l = length l.chunk - l.self.sitting.at
