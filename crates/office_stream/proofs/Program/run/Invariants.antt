-- What holds at each turn of `run`.
use Rattle.office_stream.proofs.ProgramLoops.{Running}
use Rattle.office_stream.proofs.Program.run.Given as goal

abbrev pub invariant-loop : goal.invariant-loop
invariant-loop g l = Running l.self
