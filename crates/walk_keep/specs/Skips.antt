-- When a branch may be skipped, by a question. Definitions only.
use Rattle.std.specs.Prelude.{ℕ, ◌+◌, ◌-◌, ◌/◌, max, Bool, List, ltb, leb, get_or}
use Rattle.paper.specs.Limits.{most_claims}
use Rattle.walk_keep.specs.declared.sought.Sought.{Sought}
use Rattle.walk_keep.specs.Numbers.{key_at}

-- [4.15] every claim within `far` of one at rank x comes before `first`, the first rank wanted
unfoldable pub passed_at : ℕ → ℕ → ℕ → Bool
passed_at first x far = ltb x (first - far)

-- [4.13] [4.14] no claim below a side whose claim is at rank x, numbered from f on and at rank `least` or behind, comes before the last key kept
unfoldable pub beyond_at : Sought → ℕ → ℕ → ℕ → ℕ → List ℕ → Bool
beyond_at sought x far least f o = leb (get_or o (sought.size - 1) 0) (key_at (max (x - far) least) f)

-- [4.13] how far the claim of a side may rank, where `last` is the last key kept: as far as that, and by the far distance more
abbrev pub limit_at : ℕ → ℕ → ℕ
limit_at last far = last / most_claims + far

unfoldable pub beyond_limit : ℕ → ℕ → ℕ → Bool
beyond_limit last far x = ltb (limit_at last far) x
