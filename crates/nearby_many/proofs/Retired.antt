-- 4 is retired: the calls for many tell it neither of the whole nor of a row. Assumes nothing.
use Prim.Native.Nat.{ℕ}
use mathlib.Core.List.{List}
use lib.IntN.{ℤ}
use Rattle.std.specs.Prelude.{Option}
use Rattle.paper.specs.declared.orders.Item.{Item}
use Rattle.paper.specs.Tree.{Store}
use Rattle.paper.proofs.Outcomes.{Untold, untold}
use Rattle.paper.proofs.Retired.{four_is_retired}
use Rattle.nearby_many.specs.Many.{firsts_call}
use Rattle.nearby_many.specs.Pages.{PageRooms, page_at, pages_each}

-- [8.4] the firsts as a whole: their rows have an item or none, and no refusal
pub firsts_without_4 : (s : Store) (probes n : ℕ) (answer : ℕ → Option Item) (out : List ℕ) → Untold 4 (firsts_call s probes n answer out)
unfolding firsts_call
firsts_without_4 s probes n answer out = search untold depth 10

-- [8.4] the pages as a whole, and each row
module _ (s : Store) (probes : List ℤ) (reaches places : List ℕ) (size : ℕ) where
  pub pages_without_4 : (before : PageRooms) → Untold 4 (pages_each s probes reaches places size before)
  unfolding pages_each
  pages_without_4 before = search untold depth 10

  pub rows_without_4 : (i : ℕ) → Untold 4 (page_at s probes reaches places size i)
  rows_without_4 i = four_is_retired.page s _ _ _ _ size _
