use native.Mathlib.Omega.{arith}
use borrow.Author.Rules.{rules}
use borrow.Author.Tests.{tests}
use mathlib.Core.Path.{refl, ◌∙◌}
use Rattle.std.proofs.lemmas.Iterator.{YieldsList-from_range}
use Rattle.std.proofs.lemmas.Iterator.Search.{all_from_yields_List}
use Rattle.end_tablet.proofs.ItemLaws.{holds_at, pass_all}
use Rattle.end_tablet.proofs.items.items_hold.Goals as goal

pub returns : goal.returns
returns c =
    let a = c.args in
    all_from_yields_List (holds_at a.order a.place a.reach a.snapshot a.room.now a.count) _ _ _ c.all.ensures.ran (YieldsList-from_range 0 a.count a.count refl (omega arith)) (λ x b q k. search (rules, tests))
    ∙ pass_all _ _ _ _ _ _
