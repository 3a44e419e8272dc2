-- `office_cut::first_line` meets its contract. Assumes nothing.
use Rattle.std.proofs.Common.{◌≡◌, ◌==◌, rules, tests, sym, ◌∙◌, Some, None}
use Rattle.std.specs.List.{position}
use Rattle.std.proofs.lemmas.Iterator.{YieldsList-from_slice}
use Rattle.std.proofs.lemmas.Iterator.Search.{position_from_yields_List}
use Rattle.office_cut.proofs.LinesCut.{line_at}
use Rattle.office_cut.proofs.first_line.Goals as goal

pub returns-in-Some : goal.returns-in-Some
returns-in-Some c =
    let e : c.position.result ≡ position (λ b. b == 10) c.args.bytes.now = position_from_yields_List (λ b. b == 10) _ _ c.position.result c.position.ensures.ran (YieldsList-from_slice c.args.bytes.now c.iter.ensures.rest) (λ x b q k. search (rules, tests)) in
    let h = line_at c.args.bytes.now (Some c.in-Some.k) (sym c.in-Some.is ∙ e) in
    record { line = h.0; end = h.1 }

pub returns-in-None : goal.returns-in-None
returns-in-None c =
    let e : c.position.result ≡ position (λ b. b == 10) c.args.bytes.now = position_from_yields_List (λ b. b == 10) _ _ c.position.result c.position.ensures.ran (YieldsList-from_slice c.args.bytes.now c.iter.ensures.rest) (λ x b q k. search (rules, tests)) in
    let h = line_at c.args.bytes.now None (sym c.in-None.is ∙ e) in
    record { line = h.0; end = h.1 }
