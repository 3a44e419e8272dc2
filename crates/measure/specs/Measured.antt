-- What a distance that was measured in lent memory is. Definitions only.
use Rattle.std.specs.Prelude.{ℕ, ◌+◌, ◌≤◌, ◌≡◌, List, ℤ, length, drop}
use Rattle.paper.specs.Points.{distance, greatest_of}
use Rattle.paper.specs.declared.points.Measure.{Measure}

-- the d coordinates of two points stand at `at` of a and at `bt` of b
pub record PointsAt (d : ℕ) (a : List ℤ) (at : ℕ) (b : List ℤ) (bt : ℕ) : Type 0 where
  pub first : at + d ≤ length a
  pub second : bt + d ≤ length b

-- [1.9] r is how far these points are apart, exactly
pub record DistanceIs (m : Measure) (d : ℕ) (a : List ℤ) (at : ℕ) (b : List ℤ) (bt r : ℕ) : Type 0 where
  pub exact : r ≡ distance m d (drop at a) (drop bt b)
  pub bounded : r ≤ greatest_of m d

-- two points stand at `left` and at `right` of a
pub record TwoAt (d : ℕ) (a : List ℤ) (left right : ℕ) : Type 0 where
  pub left_at : left + d ≤ length a
  pub right_at : right + d ≤ length a

-- x and y are how far the points at `left` and at `right` of a are from the one at `bt` of b
pub record PairIs (m : Measure) (d : ℕ) (a : List ℤ) (left right : ℕ) (b : List ℤ) (bt x y : ℕ) : Type 0 where
  pub left_is : DistanceIs m d a left b bt x
  pub right_is : DistanceIs m d a right b bt y
