-- Section 1 of the rules: points, and how far they are apart. Definitions only.
use Rattle.std.specs.Prelude.{ℕ, zero, suc, ◌+◌, ◌*◌, ◌≤◌, min, max, Bool, cond, ◌&&◌, List, leb, eqb, ℤ, pos, ◌-ℤ◌, nat_abs, get_or, take, drop}
use Rattle.paper.specs.declared.points.Measure.{Measure}
use Rattle.paper.specs.declared.points.Measure.TheVariants.{CityBlock, Maximum, Hamming}
use Rattle.paper.specs.Limits.{most_coordinates, first_measure, last_measure}

-- [1.5] the measure of a number: 1 is city block, 2 maximum, 3 Hamming
unfoldable pub measure_of : ℕ → Measure
measure_of n = cond (eqb n 1) CityBlock (cond (eqb n 2) Maximum Hamming)

-- [1.5] [1.8] what one coordinate counts: how far it differs, taken exactly; for Hamming 1 where it is not the same
unfoldable pub weigh : Measure → ℤ → ℤ → ℕ
weigh CityBlock x y = nat_abs (x -ℤ y)
weigh Maximum x y = nat_abs (x -ℤ y)
weigh Hamming x y = min 1 (nat_abs (x -ℤ y))

-- [1.6] [1.7] [1.8] what coordinates count together: added up, the one that differs most, counted
unfoldable pub joined : Measure → ℕ → ℕ → ℕ
joined CityBlock a b = a + b
joined Maximum a b = max a b
joined Hamming a b = a + b

-- [1.6] [1.7] [1.8] the distance of two points of d coordinates
unfoldable pub distance : Measure → ℕ → List ℤ → List ℤ → ℕ
distance m zero p q = 0
distance m (suc d) p q = joined m (distance m d p q) (weigh m (get_or p d (pos 0)) (get_or q d (pos 0)))

-- [1.9] the greatest distance of two points of d coordinates
unfoldable pub greatest_of : Measure → ℕ → ℕ
greatest_of CityBlock d = d * 4294967295
greatest_of Maximum d = 4294967295
greatest_of Hamming d = d

-- [1.3] [1.5] there are such a measure and such a d: in tables, lists and lines alike
unfoldable pub in_range : ℕ → ℕ → Bool
in_range measure d = (leb first_measure measure && leb measure last_measure) && (leb 1 d && leb d most_coordinates)

-- the same as facts
pub record InRange (measure d : ℕ) : Type 0 where
  pub first : first_measure ≤ measure
  pub last : measure ≤ last_measure
  pub wide : 1 ≤ d
  pub narrow : d ≤ most_coordinates

-- [1.1] [1.2] a claim's reference and point; its number is its place in a list of claims
pub record Claim : Type 0 where
  pub reference : ℕ
  pub point : List ℤ

abbrev pub zero_claim : Claim
zero_claim = record { reference = 0; point = List.[] }

-- [1.4] the point of claim k, where the claims' coordinates stand one after another
unfoldable pub point : ℕ → List ℤ → ℕ → List ℤ
point d coordinates k = take d (drop (k * d) coordinates)
