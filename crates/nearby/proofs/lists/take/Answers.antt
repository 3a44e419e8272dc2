-- `nearby::lists::take` meets its contract: 2, and then the tablet's end. Assumes nothing.
use mathlib.Core.Path.{sym, ◌∙◌}
use Rattle.paper.specs.Lists.{held}
use Rattle.nearby.proofs.QuestionsAndLists.{take_unsound}
use Rattle.nearby.proofs.lists.take.Goals as goal

pub returns-then-not-is_sound : goal.returns-then-not-is_sound
returns-then-not-is_sound c = take_unsound (held c.args.l c.args.room.now) _ c.is_sound.ensures c.if-not-is_sound.true _

pub take_line-requires : goal.take_line-requires
take_line-requires c = sym c.is_sound.ensures ∙ c.if-not-is_sound.false
