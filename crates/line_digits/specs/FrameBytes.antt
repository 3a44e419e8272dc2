-- Where things stand while a line is written or read: places are counted in bytes of the frame. Assumes nothing.
use Rattle.std.specs.Prelude.{ℕ, ◌+◌, ◌*◌, ◌^◌, ◌≤◌, ◌<◌, ◌≡◌, true, List, ◌++◌, length, take, drop}
use Rattle.paper.specs.Frames.{num, hexes, frame_of, is_line}

-- the characters o, with the frame f written as digits from byte `at` on, and everything else kept
unfoldable pub overlaid : List ℕ → ℕ → List ℕ → List ℕ
overlaid o at f = take (2 * at) o ++ (hexes f ++ drop (2 * at + 2 * length f) o)

-- a sound line whose frame has n bytes at least: from such a line the first n are read
abbrev pub HasBytes : List ℕ → ℕ → Type 0
HasBytes line n = (is_line line ≡ true) × (n ≤ length (frame_of line))

-- the field of w bytes at byte `at` of a line's frame
pub record Field (line : List ℕ) (at w r : ℕ) : Type 0 where
  pub value : r ≡ num w (drop at (frame_of line))
  pub small : r < 256 ^ w
