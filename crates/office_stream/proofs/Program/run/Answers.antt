-- At every read a session from the first byte stands in the memory. Assumes nothing.
use borrow.Author.Rules.{rules}
use Rattle.office_stream.proofs.ProgramLoops.{Running, running_start, running_more, ran}
use Rattle.office_stream.proofs.Program.run.Goals as goal
use Rattle.office_stream.proofs.Program.run.Goals.{else-loop-test, then-loop-test+then-got-eq0}

pub loop-init : goal.loop-init
loop-init g c = running_start c.args.self.now c.requires (search rules) (search rules) (search rules) (search rules)

pub loop-preserved : goal.loop-preserved
loop-preserved g c = let o = c.once-got.ensures in running_more _ _ _ c.loop.invariant o.ready o.answered

pub returns : goal.returns
returns g c =
    let ended : Running c.loop-test.self =
    elim c.loop-test.branch [
      | else-loop-test w ↦ rw w.self-is c.loop.invariant
      | then-loop-test+then-got-eq0 w ↦ let o = w.once-got.ensures in rw w.self-is (running_more _ _ _ c.loop.invariant o.ready o.answered)
    ] in
    ran _ ended _ _ c.end_input.ensures
