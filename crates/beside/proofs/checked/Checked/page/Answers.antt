-- `beside::checked::Checked::page` is safe. Assumes nothing.
use Rattle.std.proofs.Common.{arith}
use Rattle.beside.proofs.CheckedTables.{answerable}
use Rattle.beside.proofs.checked.Checked.page.Goals as goal

pub mark_holds-requires : goal.mark_holds-requires
mark_holds-requires c =
    record { measurable = (answerable c.args.self.now).measurable; stored = c.place-start.ensures _ c.requires.stored }

pub page_of-requires-clause-answerable : goal.page_of-requires-clause-answerable
page_of-requires-clause-answerable c = answerable c.args.self.now

pub page_of-requires-clause-pageable : goal.page_of-requires-clause-pageable
page_of-requires-clause-pageable c =
    record { stored = c.place-start.ensures _ c.requires.stored; some = c.requires.some; few = omega arith; long = omega arith }
