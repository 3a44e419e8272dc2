-- Rows of a room, answered one after another. Definitions only.
use Rattle.std.specs.Prelude.{ℕ, zero, suc, ◌*◌, List, take, drop, Option}
use Rattle.std.proofs.lemmas.List.Edits.{sets}
use Rattle.paper.specs.declared.orders.Item.{Item}
use Rattle.rows.specs.Answers.{found_row}

-- row i of a room with w numbers to a row
abbrev pub row : ℕ → ℕ → List ℕ → List ℕ
row w i l = take w (drop (i * w) l)

-- [4.16] rows 0 to n - 1, where `f i` writes row i
unfoldable pub each : (ℕ → List ℕ → List ℕ) → ℕ → List ℕ → List ℕ
each f zero l = l
each f (suc i) l = f i (each f i l)

-- what these calls give is what their rooms then hold
abbrev pub instead : {M : Type 0} → M → M → M
instead after before = after

-- row i is what was found for question i
abbrev pub put_found : (ℕ → Option Item) → ℕ → List ℕ → List ℕ
put_found answer i l = sets l (i * 4) (found_row (answer i))
