-- `checks::slots::padded` meets its contract: what is not copied over stays 0. Assumes nothing.
use borrow.Author.Rules.{rules}
use Rattle.std.proofs.lemmas.List.{drop-replicate}
use Rattle.paper.specs.Fields.{in_slots}
use Rattle.checks.proofs.slots.padded.Goals as goal

pub returns : goal.returns
unfolding in_slots
returns c = rw c.copy_from_slice.ensures.after (search (rules, drop-replicate))
