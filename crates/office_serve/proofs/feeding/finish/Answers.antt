-- `office_serve::feeding::finish` meets its contract: nothing is left to say, or the last line is served. Assumes nothing.
use Rattle.office_serve.proofs.Moves.{ended_early, ended_line}
use Rattle.office_serve.proofs.feeding.finish.Goals as goal

pub returns-then-sit-eq0-clause-done : goal.returns-then-sit-eq0-clause-done
returns-then-sit-eq0-clause-done c = λ o st. ended_early _ _ _ o st _ c.then-sit-eq0.either

pub returns-clause-done : goal.returns-clause-done
returns-clause-done c = λ o st. ended_line _ _ _ o st _ c.if-sit-eq0.false c.if-sit-eq0-2.false _ _ _ c.serve_cut.ensures.served
