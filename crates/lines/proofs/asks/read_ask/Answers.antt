-- `lines::asks::read_ask` meets its contract: 9, or what a sound line holds. Assumes nothing.
use mathlib.Core.Path.{sym, ◌∙◌}
use Rattle.lines.proofs.WritersReaders.{reads_9}
use Rattle.paper.specs.Lines.{is_ask, ask_at, read_as_ask}
use Rattle.lines.proofs.asks.read_ask.Goals as goal

pub ask_in-requires : goal.ask_in-requires
ask_in-requires c = sym c.is_sound.ensures ∙ c.if-not-is_sound.false

pub returns-then-not-is_sound : goal.returns-then-not-is_sound
unfolding read_as_ask
returns-then-not-is_sound c = sym (reads_9 is_ask ask_at _ (sym c.is_sound.ensures ∙ c.if-not-is_sound.true))
