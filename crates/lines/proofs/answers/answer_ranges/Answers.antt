use mathlib.Core.Path.{sym, ◌∙◌}
use borrow.Author.Tests.{le-leb, lt-leb}
use Rattle.paper.specs.Lines.{answer_ranges}
use Rattle.lines.proofs.answers.answer_ranges.Goals as goal

pub returns-then-last-gt1 : goal.returns-then-last-gt1
unfolding answer_ranges
returns-then-last-gt1 c = rw (sym c.scope_ok.ensures ∙ c.if-scope_ok.true, lt-leb _ 1 c.if-last-gt1.true)

pub returns-then-scope_ok : goal.returns-then-scope_ok
unfolding answer_ranges
returns-then-scope_ok c = rw (sym c.scope_ok.ensures ∙ c.if-scope_ok.true, le-leb _ 1 c.if-last-gt1.false)

pub returns : goal.returns
unfolding answer_ranges
returns c = rw (sym c.scope_ok.ensures ∙ c.if-scope_ok.false)
