-- A distance of the first i coordinates, and the next one. Assumes nothing.
use Prim.Native.Nat.{ℕ, ◌+◌, ◌≤◌, ◌<◌, ◌^◌}
use mathlib.Core.Path.{◌≡◌, ◌∙◌}
use mathlib.Core.List.{List}
use native.Mathlib.Omega.{arith}
use native.Mathlib.Numerals.{add-one}
use lib.IntN.{ℤ, pos}
use lib.ListN.{get_or}
use mir.Syntax.{w32}
use mir.Val.{SFits}
use Rattle.measure.proofs.Away.{B, same_args}
use Rattle.measure.proofs.Metric.{joined_most, weigh_most}
use Rattle.paper.specs.Points.{weigh, joined, distance, greatest_of}
use Rattle.paper.specs.declared.points.Measure.{Measure}
use Rattle.paper.specs.declared.points.Measure.TheVariants.{CityBlock, Maximum, Hamming}

-- the distance s of the first i coordinates, joined with what the next counts, x and y
module _ (m : Measure) (i : ℕ) (p q : List ℤ) {s r : ℕ} {x y : ℤ} (x_is : x ≡ get_or p i (pos 0)) (y_is : y ≡ get_or q i (pos 0)) (hx : SFits w32 x) (hy : SFits w32 y) (so_far : s ≡ distance m i p q)
    (joins : r ≡ joined m s (weigh m (B x) (B y))) where
  joins_them : r ≡ joined m s (weigh m x y)
  joins_them = joins ∙ same_args (λ (u v : ℤ). joined m s (weigh m u v)) hx hy

  pub one_more : r ≡ distance m (i + 1) p q
  unfolding distance
  one_more = joins_them ∙ rw (x_is, y_is, so_far, add-one i)

  pub bounded_more : s ≤ greatest_of m i → r ≤ greatest_of m (i + 1)
  bounded_more h = rw (joins_them, add-one i) (joined_most m i h (weigh_most m x y hx hy))

-- all but the last of eight coordinates leave room for it
pub room_for_one : (m : Measure) {i s : ℕ} → i < 8 → s ≤ greatest_of m i → s ≤ 30064771065
unfolding greatest_of
room_for_one CityBlock h k = omega arith
room_for_one Maximum h k = omega arith
room_for_one Hamming h k = omega arith

joined_small : (m : Measure) {i s w : ℕ} → i < 8 → s ≤ greatest_of m i → w ≤ greatest_of m 1 → joined m s w < 2 ^ 64
unfolding joined greatest_of
joined_small CityBlock h k l = omega arith
joined_small Maximum h k l = omega arith
joined_small Hamming h k l = omega arith

-- what the next one counts, w, can be joined to the distance of fewer than eight
pub joined_fits : (m : Measure) (x y : ℤ) {i s w : ℕ} → i < 8 → s ≤ greatest_of m i → w ≡ weigh m (B x) (B y) → SFits w32 x → SFits w32 y → joined m s w < 2 ^ 64
joined_fits m x y h k e hx hy = joined_small m h k (rw (e ∙ same_args (weigh m) hx hy) (weigh_most m x y hx hy))
