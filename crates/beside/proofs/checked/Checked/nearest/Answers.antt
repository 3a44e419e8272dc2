-- `beside::checked::Checked::nearest` is safe. Assumes nothing.
use Rattle.beside.proofs.CheckedTables.{answerable}
use Rattle.beside.proofs.checked.Checked.nearest.Goals as goal

pub nearest-requires : goal.nearest-requires
nearest-requires c = answerable c.args.self.now
