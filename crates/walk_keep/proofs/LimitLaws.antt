-- The limit of a side: a claim beyond it is not kept, and nothing below the side is. Assumes nothing.
use Prim.Native.Nat.{ℕ, ◌-◌, ◌/◌, min, max}
use mathlib.Core.Path.{◌≡◌, refl}
use mathlib.Core.Bool.{Bool, true, false, ◌&&◌}
use mathlib.Core.List.{List}
use native.Mathlib.Omega.{arith}
use lib.Dec.{ltb}
use lib.ListN.{get_or}
use borrow.Author.Tests.{ltb-true, ltb-false, lt-ltb, le-ltb, le-leb}
use Rattle.paper.specs.Limits.{most_claims}
use Rattle.walk_keep.specs.declared.sought.Sought.{Sought}
use Rattle.walk_keep.specs.Numbers.{key_at}
use Rattle.walk_keep.specs.Kept.{late, KeepIs}
use Rattle.walk_keep.specs.Skips.{beyond_at, limit_at, beyond_limit}

module _ (sought : Sought) (o : List ℕ) (far x : ℕ) (beyond : beyond_limit (get_or o (sought.size - 1) 0) far x ≡ true) where
  abbrev Last : ℕ
  Last = get_or o (sought.size - 1) 0

  -- the step of the claim is none
  pub limit_kept : (k : ℕ) → KeepIs sought k (key_at x k) o o
  unfolding beyond_limit
  limit_kept k =
      let h = ltb-true (limit_at Last far) x beyond in
      record { put = λ _. late (omega arith) refl; left = λ _. refl }

  -- and its side is skipped, whatever the other tests say
  pub limit_beyond : (least f : ℕ) → beyond_at sought x far least f o ≡ true
  unfolding beyond_limit beyond_at
  limit_beyond least f =
      let h = ltb-true (limit_at Last far) x beyond in
      le-leb Last (key_at (max (x - far) least) f) (omega arith)

-- one comparison tells it of two sides
pub both_limits : (last x xfar y yfar r : ℕ) → r ≡ min (x - xfar) (y - yfar) → ltb (last / most_claims) r ≡ (beyond_limit last xfar x && beyond_limit last yfar y)
unfolding beyond_limit
both_limits last x xfar y yfar r is = go (ltb (limit_at last xfar) x) (ltb (limit_at last yfar) y) refl refl
  where
    go : (u v : Bool) → ltb (limit_at last xfar) x ≡ u → ltb (limit_at last yfar) y ≡ v → ltb (last / most_claims) r ≡ (u && v)
    go true true p q = lt-ltb (last / most_claims) r (omega (arith, ltb-true (limit_at last xfar) x p, ltb-true (limit_at last yfar) y q))
    go true false p q = le-ltb (last / most_claims) r (omega (arith, ltb-false (limit_at last yfar) y q))
    go false v p q = le-ltb (last / most_claims) r (omega (arith, ltb-false (limit_at last xfar) x p))
