use borrow.Author.Rules.{rules}
use borrow.Author.Tests.{tests}
use mathlib.Core.Path.{◌∙◌}
use lib.IntN.{pos}
use lib.ListN.{drop}
use Rattle.std.specs.Ordering.{int_eq}
use Rattle.std.proofs.lemmas.List.{take_rest}
use Rattle.std.proofs.lemmas.Iterator.{YieldsList-from_slice}
use Rattle.std.proofs.lemmas.Iterator.Search.{all_from_yields_List}
use Rattle.paper.specs.Lists.{unused_zero}
use Rattle.end_tablet.proofs.ListLaws.{all_zero}
use Rattle.end_tablet.proofs.probes.unused_zero.Goals as goal

pub returns : goal.returns
unfolding unused_zero
returns c =
    all_from_yields_List (λ z. int_eq z (pos 0)) _ _ _ c.all.ensures.ran (YieldsList-from_slice (drop c.args.d c.args.probe.now) (c.iter.ensures.rest ∙ take_rest c.args.probe.now c.args.d)) (λ x b q k. search (rules, tests))
    ∙ all_zero _
