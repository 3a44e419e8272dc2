-- `nearby::lists::write_ask` meets its contract: 2, and then the tablet's end. Assumes nothing.
use mathlib.Core.Path.{sym, ◌∙◌}
use Rattle.paper.specs.Lists.{held}
use Rattle.nearby.proofs.QuestionsAndLists.{ask_unsound}
use Rattle.nearby.proofs.lists.write_ask.Goals as goal

pub returns-then-not-is_sound : goal.returns-then-not-is_sound
returns-then-not-is_sound c = ask_unsound (held c.args.l c.args.room.now) _ c.is_sound.ensures c.if-not-is_sound.true _ _

pub write_ask-requires : goal.write_ask-requires
write_ask-requires c = sym c.is_sound.ensures ∙ c.if-not-is_sound.false

pub returns : goal.returns
returns c = c.write_ask.ensures
