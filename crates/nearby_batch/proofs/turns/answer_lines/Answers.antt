-- `nearby_batch::turns::answer_lines` meets its contract: steps add up, and the bytes bound them. Assumes nothing.
use mathlib.Core.Path.{sym, ◌∙◌}
use Rattle.nearby_batch.proofs.Loops.{going_start, going_on, going_less, going_done}
use Rattle.nearby_batch.proofs.turns.answer_lines.Goals as goal

pub loop-outcomes-init : goal.loop-outcomes-init
loop-outcomes-init c = going_start _ _

pub answer_next-done-requires : goal.answer_next-done-requires
answer_next-done-requires c = record { sound = c.requires; more = sym c.goes_on.ensures ∙ c.loop-outcomes-test.true }

pub loop-outcomes-smaller : goal.loop-outcomes-smaller
loop-outcomes-smaller c =
    going_less c.loop-outcomes.invariant (sym c.goes_on.ensures ∙ c.loop-outcomes-test.true) _ c.answer_next-done.ensures

pub loop-outcomes-preserved : goal.loop-outcomes-preserved
loop-outcomes-preserved c =
    going_on c.loop-outcomes.invariant (sym c.goes_on.ensures ∙ c.loop-outcomes-test.true) _ c.answer_next-done.ensures c.answer_next-done.auto.outcomes c.answer_next-done.auto.out

pub returns : goal.returns
returns c = going_done c.loop-outcomes.invariant (sym c.goes_on.ensures ∙ c.loop-outcomes-test.false)
