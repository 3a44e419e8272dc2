-- New references, position by position: what the tests of this crate tell. Definitions only.
use Rattle.std.specs.Prelude.{ℕ, ◌<◌, ◌≡◌, Bool, true, false, List, length, get_or, take}

-- r is none of some references
unfoldable pub Lacks : List ℕ → ℕ → Type 0
Lacks some r = (i : ℕ) → i < length some → get_or some i 0 ≡ r → ⊥

-- each is none of those before it
unfoldable pub Differ : List ℕ → Type 0
Differ some = (j : ℕ) → j < length some → Lacks (take j some) (get_or some j 0)

-- [8.17] reference i of a run is none of those that are known, and none of those behind it
pub record NewAt (known run : List ℕ) (i : ℕ) : Type 0 where
  pub free : Lacks known (get_or run i 0)
  pub once : (j : ℕ) → i < j → j < length run → get_or run i 0 ≡ get_or run j 0 → ⊥

-- a test tells whether something is so
pub record Decides (P : Type 0) (b : Bool) : Type 0 where
  pub yes : b ≡ true → P
  pub no : b ≡ false → P → ⊥
