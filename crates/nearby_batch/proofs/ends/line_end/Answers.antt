-- `nearby_batch::ends::line_end` meets its contract: the first 0A ends the line, or all that there is. Assumes nothing.
use Rattle.std.proofs.Common.{◌==◌, rules, tests, sym, ◌∙◌, Some, None}
use Rattle.std.proofs.lemmas.Iterator.{YieldsList-from_slice}
use Rattle.std.proofs.lemmas.Iterator.Search.{position_from_yields_List}
use Rattle.nearby_batch.proofs.Cutting.{line_found}
use Rattle.nearby_batch.proofs.ends.line_end.Goals as goal

pub returns-in-Some : goal.returns-in-Some
returns-in-Some c =
    let e = position_from_yields_List (λ b. b == 10) _ _ c.position.result c.position.ensures.ran (YieldsList-from_slice _ c.iter.ensures.rest) (λ x b q k. search (rules, tests)) in
    line_found c.args.asks.now c.args.at c.requires (Some c.in-Some.k) (sym c.in-Some.is ∙ e)

pub returns-in-None : goal.returns-in-None
returns-in-None c =
    let e = position_from_yields_List (λ b. b == 10) _ _ c.position.result c.position.ensures.ran (YieldsList-from_slice _ c.iter.ensures.rest) (λ x b q k. search (rules, tests)) in
    line_found c.args.asks.now c.args.at c.requires None (sym c.in-None.is ∙ e)
