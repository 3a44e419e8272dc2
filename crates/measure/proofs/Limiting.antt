-- Distances as far as a limit. Assumes nothing.
use Prim.Native.Nat.{ℕ, ◌<◌, ◌≤◌}
use mathlib.Core.Path.{◌≡◌, refl}
use mathlib.Core.Bool.{Bool, true, false}
use mathlib.Core.List.{List}
use native.Mathlib.Omega.{arith}
use lib.Dec.{leb}
use lib.IntN.{ℤ}
use borrow.Author.Tests.{le-leb, lt-leb, leb-true, leb-false}
use Rattle.paper.specs.Points.{distance}
use Rattle.paper.specs.declared.points.Measure.{Measure}
use Rattle.std.proofs.Common.{Some, None}
use Rattle.measure.specs.Measured.{PairIs}
use Rattle.measure.specs.Limited.{limited, UpTo, NearerIs}
use Rattle.measure.proofs.Metric.{distance_grows}

-- all coordinates measured, and the limit kept
pub limited_at : {limit x s : ℕ} → s ≡ x → s ≤ limit → Some s ≡ limited limit x
unfolding limited
limited_at {limit} {x} {s} e h = rw (← e, le-leb s limit h)

-- the first i coordinates are over the limit already
pub limited_beyond : {limit i d : ℕ} (m : Measure) (p q : List ℤ) {s : ℕ} → s ≡ distance m i p q → limit < s → i ≤ d → None ≡ limited limit (distance m d p q)
unfolding limited
limited_beyond {limit} {i} {d} m p q {s} e h k =
    rw (lt-leb (distance m d p q) limit (omega (arith, distance_grows m i d p q k)))

-- ---- a number that stands for a distance as far as a limit

-- at the limit or above it, the distance is so too
pub at_limit : {limit x r : ℕ} → UpTo limit x r → limit ≤ r → limit ≤ x
at_limit {limit} {x} u h = go (leb x limit) refl
  where
    go : (t : Bool) → leb x limit ≡ t → limit ≤ x
    go true k = omega (arith, u.exact (leb-true x limit k))
    go false k = omega (arith, leb-false x limit k)

-- below the limit, it is the distance
pub below_limit : {limit x r : ℕ} → UpTo limit x r → r < limit → r ≡ x
below_limit {limit} {x} {r} u h = go (leb x limit) refl
  where
    go : (t : Bool) → leb x limit ≡ t → r ≡ x
    go true k = u.exact (leb-true x limit k)
    go false k = absurd (omega (arith, u.above (leb-false x limit k)))

-- a pair of exact distances serves whatever the limit is
pub nearer : {m : Measure} {d : ℕ} {a b : List ℤ} {left right bt x y : ℕ} → PairIs m d a left right b bt x y → NearerIs m d a left right b bt x y
nearer p =
    let e = p.right_is.exact in
    record { left_is = p.left_is; right_is = record { exact = λ h. e; above = λ h. omega arith } }
