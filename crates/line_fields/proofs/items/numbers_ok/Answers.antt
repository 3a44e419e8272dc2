use Prim.Native.Nat.{◌+◌, ◌*◌}
use native.Mathlib.Omega.{arith}
use mathlib.Core.Path.{refl, ◌∙◌}
use borrow.Author.Rules.{rules}
use borrow.Author.Tests.{tests}
use lib.Dec.{leb}
use lib.ListN.{drop}
use Rattle.std.proofs.lemmas.Iterator.{YieldsList-from_range}
use Rattle.std.proofs.lemmas.Iterator.Search.{all_from_yields_List}
use Rattle.std.proofs.iter.Serving.{serving}
use Rattle.paper.specs.Frames.{num, frame_of}
use Rattle.paper.specs.Limits.{most_number}
use Rattle.line_digits.proofs.LinesAndFrames.{frame_le}
use Rattle.line_fields.proofs.ItemLaws.{numbers_all}
use Rattle.line_fields.proofs.items.numbers_ok.Goals as goal

pub all-requires-clause-callable : goal.all-requires-clause-callable
all-requires-clause-callable c = grind (serving, arith, frame_le)

pub returns : goal.returns
returns c =
    let a = c.args in
    let f = frame_of a.line.now in
    all_from_yields_List (λ i. leb (num 2 (drop (a.at + 14 * i) f)) most_number) _ _ _ c.all.ensures.ran (YieldsList-from_range 0 a.k a.k refl (omega arith)) (λ x b q k. search (rules, tests))
    ∙ numbers_all a.k a.at f
