-- `lines::asks::ask_ranges` meets its contract, a law for each way. Assumes nothing.
use mathlib.Core.Path.{sym, ◌∙◌}
use Rattle.paper.specs.Lines.{ask_ranges}
use Rattle.lines.proofs.AskTests.{page_out, placed, unplaced}
use Rattle.lines.proofs.asks.ask_ranges.Goals as goal

pub returns-then-not-size_holds : goal.returns-then-not-size_holds
returns-then-not-size_holds c = sym (page_out c.args.p c.args.size (sym c.scope_ok.ensures ∙ c.if-scope_ok.true) _ c.size_holds.ensures c.if-not-size_holds.true)

pub returns-then-p-eq1 : goal.returns-then-p-eq1
returns-then-p-eq1 c =
    let args = c.args in
    sym (placed args.p args.size (sym c.scope_ok.ensures ∙ c.if-scope_ok.true) _ c.size_holds.ensures c.if-not-size_holds.false c.if-p-eq1.true)

pub returns-then-scope_ok : goal.returns-then-scope_ok
returns-then-scope_ok c =
    let args = c.args in
    let if1 = c.if-scope_ok in
    sym (unplaced args.p args.size (sym c.scope_ok.ensures ∙ if1.true) _ c.size_holds.ensures c.if-not-size_holds.false c.if-p-eq1.false)

pub returns : goal.returns
unfolding ask_ranges
returns c = rw (sym c.scope_ok.ensures ∙ c.if-scope_ok.false)
