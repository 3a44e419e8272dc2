-- `lines::answers::read_answer` meets its contract: 9, or what a sound line holds. Assumes nothing.
use mathlib.Core.Path.{sym, ◌∙◌}
use Rattle.lines.proofs.WritersReaders.{reads_9}
use Rattle.paper.specs.Lines.{is_answer, answer_at, read_as_answer}
use Rattle.lines.proofs.answers.read_answer.Goals as goal

pub answer_in-requires : goal.answer_in-requires
answer_in-requires c = sym c.is_sound.ensures ∙ c.if-not-is_sound.false

pub returns-then-not-is_sound : goal.returns-then-not-is_sound
unfolding read_as_answer
returns-then-not-is_sound c = sym (reads_9 is_answer answer_at _ (sym c.is_sound.ensures ∙ c.if-not-is_sound.true))
