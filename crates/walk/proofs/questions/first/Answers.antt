-- `walk::questions::first` meets its contract. Assumes nothing.
use Rattle.walk.proofs.Answers.{first_none, first_some}
use Rattle.walk.proofs.questions.first.Goals as goal

pub returns-then-count-eq0-clause-found : goal.returns-then-count-eq0-clause-found
returns-then-count-eq0-clause-found c =
    let a = c.args in
    first_none a.table.now a.order a.probe.now a.reach _ _ _ c.fill-count.ensures.filled c.if-count-eq0.true

pub returns-clause-found : goal.returns-clause-found
returns-clause-found c =
    let a = c.args in
    first_some a.table.now a.order a.probe.now a.reach _ _ _ c.fill-count.ensures.filled c.if-count-eq0.false
