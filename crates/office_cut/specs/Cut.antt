-- Lines of an input that comes in chunks: what one cut leaves, and what that means. Definitions only.
use Rattle.std.specs.Prelude.{ℕ, ◌+◌, ◌-◌, ◌≤◌, min, ◌≡◌, List, [], ◌∷◌, ◌++◌, Bool, true, false, cond, length, set, take, drop, leb, eqb}
use Rattle.office_cut.specs.declared.Piece.{Piece}

-- [10.8] the size of a line of n bytes with one more, where every size over `most` counts as the next one: `most` + 1 stands for any
-- longer line
unfoldable pub one_more : ℕ → ℕ → ℕ
one_more most n = cond (leb n most) (n + 1) n

-- [10.8] the same with k more bytes
abbrev pub grown : ℕ → ℕ → ℕ → ℕ
grown most n k = cond (leb n most) (min (n + k) (most + 1)) n

-- [10.8] the room l with the bytes ys behind the n bytes of its line, as far as there is room
abbrev pub kept_of : List ℕ → ℕ → List ℕ → List ℕ
kept_of l n ys = take n l ++ (take (length l - n) ys ++ drop (n + length ys) l)

-- what is left when a line is cut: the room, how far the chunk was read, the line's size, and whether the line is whole
pub record CutLine : Type 0 where
  pub line : List ℕ
  pub piece : Piece

abbrev pub cut_with : List ℕ → Piece → CutLine
cut_with l p = record { line = l; piece = p }

-- [10.8] the bytes xs, which start at i in the chunk, are added to a line of size n in the room l
unfoldable pub cut_of : ℕ → List ℕ → ℕ → ℕ → List ℕ → CutLine
cut_of most l n i [] = cut_with l (record { at = i; size = n; whole = false })
cut_of most l n i (x ∷ xs) =
    cond (eqb x 10) (cut_with (set l n x) (record { at = i + 1; size = one_more most n; whole = true }))
    (cut_of most (set l n x) (one_more most n) (i + 1) xs)

-- ---- what that means

-- [10.8] the bytes up to the first 0A, which is the last of them
unfoldable pub line_in : List ℕ → List ℕ
line_in [] = []
line_in (x ∷ xs) = x ∷ cond (eqb x 10) [] (line_in xs)

-- what comes after
unfoldable pub rest_in : List ℕ → List ℕ
rest_in [] = []
rest_in (x ∷ xs) = cond (eqb x 10) xs (rest_in xs)

unfoldable pub has_end : List ℕ → Bool
has_end [] = false
has_end (x ∷ xs) = cond (eqb x 10) true (has_end xs)

-- the room l with the size n stands for the bytes h
pub record LineHeld (most : ℕ) (l : List ℕ) (n : ℕ) (h : List ℕ) : Type 0 where
  pub room : length l ≡ most
  pub size : n ≡ min (length h) (most + 1)
  pub front : n ≤ most → take n l ≡ h
