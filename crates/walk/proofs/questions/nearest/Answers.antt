-- `walk::questions::nearest` meets its contract. Assumes nothing.
use Rattle.walk.proofs.Answers.{nearest_is}
use Rattle.walk.proofs.questions.nearest.Goals as goal

pub returns : goal.returns
returns c = let a = c.args in nearest_is a.table.now a.probe.now _ a.reach c.first.ensures.found
