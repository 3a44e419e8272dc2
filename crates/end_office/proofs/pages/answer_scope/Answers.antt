-- `end_office::pages::answer_scope` meets its contract. Assumes nothing.
use Rattle.end_office.proofs.PageLines.{scope_start, scope_after}
use Rattle.end_office.proofs.pages.answer_scope.Goals as goal

pub returns-then-p-eq0 : goal.returns-then-p-eq0
returns-then-p-eq0 c = scope_start c.args.p c.args.count c.if-p-eq0.true

pub returns : goal.returns
returns c = scope_after c.args.p c.args.count c.requires c.if-p-eq0.false
