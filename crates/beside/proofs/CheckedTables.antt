-- What a checked table can be asked. Assumes nothing.
use Rattle.std.proofs.Common.{refl}
use Rattle.walk.proofs.Answers.{good_answerable}
use Rattle.walk.specs.Asking.{Answerable}
use Rattle.walk_tested.proofs.TableLaws.{table_good}
use Rattle.beside.specs.declared.checked.Checked.{Checked}

pub answerable : (a : Checked) → Answerable a.table a.scan.probe.now
answerable a = good_answerable _ (table_good _ 0 a.tested refl) _ a.aimed
