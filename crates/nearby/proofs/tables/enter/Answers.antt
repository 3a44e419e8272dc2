-- `nearby::tables::enter` meets its contract: refused before anything is written, or entered whole. Assumes nothing.
use mathlib.Core.Path.{refl, ap, ◌∙◌}
use Rattle.paper.specs.Outcomes.{number}
use Rattle.paper.specs.Runs.{enter_call}
use Rattle.paper.specs.Tree.{Store, store}
use Rattle.paper.proofs.Outcomes.{err_number, ok_number, told_on, numbered}
use Rattle.tree.proofs.RunLaws.{enters_roomy}
use Rattle.nearby.proofs.TablesAndRuns.{enter_refused, enter_done}
use Rattle.nearby.proofs.tables.enter.Goals as goal

pub returns-in_err-test_run : goal.returns-in_err-test_run
returns-in_err-test_run c =
    let a = c.args in
    rw (told_on _ _ c.from_residual.ensures.1)
    (enter_refused (store a.t a.references.now a.coordinates.now a.nodes.now) a.given.now a.points.now
    _ (err_number _ _ (c.test_run.ensures ∙ ap (λ (s : Store). number (enter_call s a.given.now a.points.now)) c.new.ensures) _ c.in_err-test_run.was) (numbered _))

pub add_run-requires : goal.add_run-requires
add_run-requires c =
    let a = c.args in
    enters_roomy (store a.t a.references.now a.coordinates.now a.nodes.now) a.given.now a.points.now
    _ (ok_number _ _ (c.test_run.ensures ∙ ap (λ (s : Store). number (enter_call s a.given.now a.points.now)) c.new.ensures) _ c.in_ok-test_run.was) refl

pub returns : goal.returns
returns c =
    let a = c.args in
    enter_done (store a.t a.references.now a.coordinates.now a.nodes.now) a.given.now a.points.now
    _ (ok_number _ _ (c.test_run.ensures ∙ ap (λ (s : Store). number (enter_call s a.given.now a.points.now)) c.new.ensures) _ c.in_ok-test_run.was) refl _ _ _ _ c.add_run.ensures
