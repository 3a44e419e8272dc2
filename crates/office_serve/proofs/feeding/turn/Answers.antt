-- `office_serve::feeding::turn` meets its contract: a line that goes on, or one that is served. Assumes nothing.
use mathlib.Core.Path.{◌∙◌}
use borrow.Author.Tests.{not-true, not-false}
use Rattle.office_serve.proofs.Moves.{turn_on, moved_part, moved_line}
use Rattle.office_serve.proofs.feeding.turn.Goals as goal

pub returns-then-not-c-clause-moved : goal.returns-then-not-c-clause-moved
returns-then-not-c-clause-moved c =
    let p = c.requires in
    λ o st. moved_part _ _ _ _ _ _ p.0.line c.cut-c.ensures o p.1.left (not-true _ c.if-not-c.true) _ st

pub returns-clause-moved : goal.returns-clause-moved
returns-clause-moved c =
    let p = c.requires in
    let k = c.cut-c in
    λ o st. moved_line _ _ _ _ _ _ p.0.line k.ensures o p.1.left (not-false _ c.if-not-c.false) _ _ _ _ c.serve_cut-written.ensures.served (k.auto.line ∙ p.0.line) st

pub returns-then-not-c-clause-on : goal.returns-then-not-c-clause-on
returns-then-not-c-clause-on c = let p = c.requires in turn_on _ _ _ _ _ _ c.cut-c.ensures p.1.unread

pub returns-clause-on : goal.returns-clause-on
returns-clause-on c = let p = c.requires in turn_on _ _ _ _ _ _ c.cut-c.ensures p.1.unread
