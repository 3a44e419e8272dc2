-- 4 is retired: a batch tells it neither of the whole nor of a line. Assumes nothing.
use Prim.Native.Nat.{ℕ}
use mathlib.Core.List.{List}
use Rattle.paper.specs.Tree.{Store}
use Rattle.paper.proofs.Outcomes.{Untold, untold}
use Rattle.paper.proofs.Retired.{four_is_retired}
use Rattle.nearby_batch.specs.Batch.{batch_call, alone}

-- [8.4] the batch as a whole, and each line that it answers
module _ (s : Store) (asks : List ℕ) where
  pub batch_without_4 : (outcomes out : List ℕ) → Untold 4 (batch_call s asks outcomes out)
  unfolding batch_call
  batch_without_4 outcomes out = search untold depth 10

  pub lines_without_4 : (k : ℕ) → Untold 4 (alone s asks k)
  unfolding alone
  lines_without_4 k = four_is_retired.answer s _ _
