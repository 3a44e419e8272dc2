-- What is asked behind the checks that calls on a table share. Definitions only.
use Rattle.std.specs.Prelude.{ℕ, ◌≡◌, true}
use Rattle.paper.specs.Tree.{Store}
use Rattle.paper.specs.Ends.{size_holds}
use Rattle.paper.specs.Calls.{table_refusal}

-- a page of n items may be asked for, but for its place and its room: the table was tested, and the probe has d coordinates
pub record Askable (s : Store) (probe n : ℕ) : Type 0 where
  pub tested : 0 ≡ table_refusal s
  pub aimed : probe ≡ s.table.d
  pub size : size_holds n ≡ true
