-- `beside::drawn` is safe: a checked table has few claims. Assumes nothing.
use Rattle.std.proofs.Common.{arith, ap}
use Rattle.beside.specs.declared.checked.Checked.{Checked}
use Rattle.beside.proofs.CheckedTables.{answerable}
use Rattle.beside.proofs.drawn.Goals as goal

pub overflow_add-count : goal.overflow_add-count
overflow_add-count c = omega (arith, ap (λ (a : Checked). a.table.table.count) c.asked.view_is, (answerable c.args.asked.now).tree.few)
