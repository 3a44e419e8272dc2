use Prim.Native.Nat.{◌/◌}
use native.Mathlib.Omega.{arith}
use mathlib.Core.Path.{◌≡◌, ◌∙◌}
use mathlib.Core.Bool.{◌&&◌}
use borrow.Author.Rules.{rules}
use borrow.Author.Tests.{tests, eq-eqb}
use lib.Dec.{leb, ltb}
use lib.ListN.{length, get_or}
use Rattle.std.specs.Simd.{first_chunks}
use Rattle.std.proofs.lemmas.Iterator.{YieldsList-from_slice}
use Rattle.std.proofs.lemmas.Iterator.Search.{all_from_yields_List}
use Rattle.paper.specs.Limits.{most_number}
use Rattle.line_fields.proofs.ItemLaws.{fit_all}
use Rattle.line_fields.proofs.items.items_fit.Goals as goal

pub returns-then-items-k : goal.returns-then-items-k
returns-then-items-k c =
    let ns = c.args.items.now in
    let k : length ns / 3 ≡ c.args.k = omega arith in
    all_from_yields_List (λ t. leb (get_or t 0 0) most_number && ltb (get_or t 1 0) 4294967296) _ _ _ c.all.ensures.ran (YieldsList-from_slice (first_chunks 3 (length ns / 3) ns) cc) (λ x b q k. search (rules, tests))
    ∙ rw k (fit_all c.args.k ns c.if-items-k.true ∙ rw (eq-eqb _ _ c.if-items-k.true))
