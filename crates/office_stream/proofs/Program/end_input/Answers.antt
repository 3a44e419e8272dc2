-- All that `finish` wrote is handed over. Assumes nothing.
use Rattle.office_stream.proofs.ProgramLoops.{ended_says}
use Rattle.office_stream.proofs.Program.end_input.Goals as goal

pub returns : goal.returns
returns g c =
    let f = c.finish-written in
    ended_says _ _ _ _ _ c.anew.ensures f.ensures.done f.ensures.short f.auto.out c.hand_over.ensures
