-- The chunk is read to its end, or no line is left. Assumes nothing.
use Rattle.office_stream.proofs.ProgramLoops.{pumping_start, pumping_more}
use Rattle.office_stream.proofs.Program.pump.Goals as goal

pub loop-self-init : goal.loop-self-init
loop-self-init g c = pumping_start _ _ _ c.anew-self.ensures c.requires

pub loop-self-preserved : goal.loop-self-preserved
loop-self-preserved g c =
    let f = c.feed-self.ensures in
    pumping_more _ _ _ _ _ c.loop-self.invariant (record { moved = f.moved; short = f.short; stops = f.stops }) f.ready c.emptied-self.ensures
