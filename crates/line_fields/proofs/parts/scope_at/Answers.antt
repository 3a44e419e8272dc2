use lib.Seq.{drop-drop}
use Rattle.paper.specs.Fields.{scope_in}
use Rattle.line_fields.proofs.parts.scope_at.Goals as goal

-- a place behind `at`, from the start
pub returns : goal.returns
unfolding scope_in
returns c =
    rw (c.number.ensures.value, c.number-2.ensures.value, c.number-3.ensures.value, c.number-4.ensures.value)
    (simp drop-drop)
