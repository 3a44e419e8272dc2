-- `beside::checked::Checked::farthest` is safe. Assumes nothing.
use Rattle.beside.proofs.CheckedTables.{answerable}
use Rattle.beside.proofs.checked.Checked.farthest.Goals as goal

pub farthest-requires : goal.farthest-requires
farthest-requires c = answerable c.args.self.now
