-- `office_serve::one_line::serve_line` meets its contract: 9, or what a sound line leads to. Assumes nothing.
use mathlib.Core.Path.{sym, ◌∙◌}
use Rattle.office_serve.proofs.OneLineServed.{line_9}
use Rattle.office_serve.proofs.one_line.serve_line.Goals as goal

pub returns-else-is_sound : goal.returns-else-is_sound
returns-else-is_sound c = line_9 _ _ _ _ _ _ c.requires.ready (sym c.is_sound.ensures ∙ c.if-is_sound.false) c.refuse.ensures
