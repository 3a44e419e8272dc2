-- `Walk::way_down` meets its contract. Assumes nothing.
use mathlib.Core.Path.{◌∙◌}
use Rattle.walk.proofs.Sides.{way_passed, way_beyond, way_open}
use Rattle.walk.proofs.walking.Walk.way_down.Goals as goal

pub returns-then-x-saturating_sub : goal.returns-then-x-saturating_sub
returns-then-x-saturating_sub c = way_passed _ _ _ _ _ _ _ _ c.field-far.ensures (rw c.saturating_sub.ensures at c.if-x-saturating_sub.true)

pub returns-then-wanted-key : goal.returns-then-wanted-key
returns-then-wanted-key c =
    way_beyond _ _ _ _ _ _ _ _ c.field-far.ensures (rw c.saturating_sub.ensures at c.if-x-saturating_sub.false) _
    (rw (c.max-bound.ensures, c.saturating_sub-2.ensures, c.field.ensures) at c.key.ensures) (rw c.wanted.ensures at c.if-wanted-key.true)

pub returns : goal.returns
returns c =
    c.link.ensures
    ∙ way_open _ _ _ _ _ _ _ _ c.field-far.ensures (rw c.saturating_sub.ensures at c.if-x-saturating_sub.false) _
    (rw (c.max-bound.ensures, c.saturating_sub-2.ensures, c.field.ensures) at c.key.ensures) (rw c.wanted.ensures at c.if-wanted-key.false)
