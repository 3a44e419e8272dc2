-- The office over chunks of input: how its memory stands for the office of paper/specs, and how it moves on. Definitions only.
use Rattle.std.specs.Prelude.{ℕ, ◌+◌, ◌<◌, ◌≤◌, ◌≡◌, List, ◌++◌, length, drop}
use Rattle.paper.specs.Tree.{Store}
use Rattle.paper.specs.Program.{OfficeState, fed, input_done}
use Rattle.office_cut.specs.Cut.{LineHeld}
use Rattle.office_serve.specs.declared.feeding.Sitting.{Sitting}
use Rattle.office_serve.specs.Serving.{out_with, books_of, Ready}
use Rattle.paper.specs.Limits.{longest_answer}

-- the memory stands for the office o
pub record Stands (s : Store) (l : List ℕ) (sit : Sitting) (o : OfficeState) : Type 0 where
  pub books : books_of s ≡ o.books
  pub line : LineHeld longest_answer l sit.size o.held
  pub left : sit.left ≡ o.left

-- what a turn needs of the memory
pub record Set (s : Store) (l : List ℕ) : Type 0 where
  pub ready : Ready s
  pub line : length l ≡ longest_answer

-- [10.10] and that there is a byte to read, a line left and room to write
pub record Turning (sit : Sitting) (chunk out : ℕ) : Type 0 where
  pub unread : sit.at < chunk
  pub left : 0 < sit.left
  pub room : sit.written + longest_answer ≤ out

-- [10.11] the office o, at the sitting `sit₀`, read on in the chunk to where the sitting `sit` is, and what it said is written
pub record Moved (o : OfficeState) (chunk : List ℕ) (sit₀ : Sitting) (out₀ : List ℕ) (s : Store) (l : List ℕ) (sit : Sitting) (b : List ℕ) : Type 0 where
  pub after : OfficeState
  pub stands : Stands s l sit after
  pub same : fed after (drop sit.at chunk) ≡ fed o (drop sit₀.at chunk)
  pub more : List ℕ
  pub printed : after.printed ≡ o.printed ++ more
  pub out : b ≡ out_with out₀ sit₀.written more
  pub written : sit.written ≡ sit₀.written + length more

-- [10.9] the input is over for the office o, and what it then said is written
pub record Ended (o : OfficeState) (out₀ : List ℕ) (w : ℕ) (b : List ℕ) (v : ℕ) : Type 0 where
  pub more : List ℕ
  pub printed : (input_done o).printed ≡ o.printed ++ more
  pub out : b ≡ out_with out₀ w more
  pub written : v ≡ w + length more
