-- Frames and lines. A frame is a list of bytes, and a line is a frame's digits with the byte that ends it. Assumes nothing.
use Rattle.std.specs.Prelude.{ℕ, zero, suc, ◌+◌, ◌-◌, ◌*◌, ◌/◌, ◌%◌, Bool, false, cond, ◌&&◌, List, [], ◌∷◌, ◌++◌, length, get_or, drop, ltb, leb, eqb}
use Rattle.paper.specs.Limits.{longest_answer}

-- [5.2] the number n in w bytes, the highest first
unfoldable pub be : ℕ → ℕ → List ℕ
be zero n = []
be (suc w) n = be w (n / 256) ++ (n % 256 ∷ [])

-- [5.2] and the number that the first w bytes of a frame are
unfoldable pub num : ℕ → List ℕ → ℕ
num zero f = 0
num (suc w) f = num w f * 256 + get_or f w 0

-- [5.1] the character of a number below 16, 0 to 9 and then a to f
unfoldable pub glyph : ℕ → ℕ
glyph n = cond (ltb n 10) (48 + n) (87 + n)

-- [5.1] the number of a character, and 16 for one that is no digit
unfoldable pub digit : ℕ → ℕ
digit b = cond (ltb b 48) 16 (cond (ltb b 58) (b - 48) (cond (ltb b 97) 16 (cond (ltb b 103) (b - 87) 16)))

-- [5.1] a frame's digits: two for each byte
unfoldable pub hexes : List ℕ → List ℕ
hexes [] = []
hexes (b ∷ f) = glyph (b / 16) ∷ glyph (b % 16) ∷ hexes f

-- [5.1] the line of a frame: its digits, and then the byte 0A
unfoldable pub line_of : List ℕ → List ℕ
line_of f = hexes f ++ (10 ∷ [])

-- [5.1] the frame of a line, a byte for every two characters. (A character that is no digit counts 0 here, and its line is not sound.)
unfoldable pub frame_of : List ℕ → List ℕ
frame_of [] = []
frame_of (a ∷ []) = []
frame_of (a ∷ b ∷ l) = (digit a % 16 * 16 + digit b % 16) ∷ frame_of l

-- [8.9] pairs of digits with 0A behind them
unfoldable pub pairs_ended : List ℕ → Bool
pairs_ended [] = false
pairs_ended (a ∷ []) = eqb a 10
pairs_ended (a ∷ b ∷ l) = ltb (digit a) 16 && (ltb (digit b) 16 && pairs_ended l)

-- [8.9] 9 is given just where this is false: there is a pair at least, and the characters are not too many
unfoldable pub is_line : List ℕ → Bool
is_line l = ltb 1 (length l) && (leb (length l) longest_answer && pairs_ended l)

-- [5.12] the room o with the line of the frame f at its front, and the rest as it was
unfoldable pub written : List ℕ → List ℕ → List ℕ
written f o = line_of f ++ drop (length (line_of f)) o
