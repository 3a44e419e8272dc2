-- The layout of a frame: how it begins, and how long it is. Assumes nothing.
use Rattle.std.specs.Prelude.{ℕ, ◌+◌, ◌*◌, Bool, ◌&&◌, List, eqb, length, drop}
use Rattle.paper.specs.Frames.{num}
use Rattle.paper.specs.Lines.{head_ok}

-- a frame that begins with a head of kind k, and has n + 4d bytes
unfoldable pub laid_out : ℕ → ℕ → List ℕ → Bool
laid_out k n f = head_ok k f && eqb (length f) (n + 4 * num 1 (drop 6 f))
