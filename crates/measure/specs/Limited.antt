-- What a distance that was measured as far as a limit is. Definitions only.
use Rattle.std.specs.Prelude.{ℕ, ◌≤◌, ◌<◌, ◌≡◌, Option, Some, None, cond, List, leb, ℤ, drop}
use Rattle.paper.specs.Points.{distance}
use Rattle.paper.specs.declared.points.Measure.{Measure}
use Rattle.measure.specs.Measured.{DistanceIs}

-- [1.9] distance x as far as a limit: x where it is at most the limit, and nothing where it is more
unfoldable pub limited : ℕ → ℕ → Option ℕ
limited limit x = cond (leb x limit) (Some x) None

-- r stands for distance x as far as a limit: it is x where that is at most the limit, and otherwise a number above the limit
pub record UpTo (limit x r : ℕ) : Type 0 where
  pub exact : x ≤ limit → r ≡ x
  pub above : limit < x → limit < r

-- x is how far the point at `left` of a is from the one at `bt` of b, and y how far the one at `right` is, as far as x
pub record NearerIs (m : Measure) (d : ℕ) (a : List ℤ) (left right : ℕ) (b : List ℤ) (bt x y : ℕ) : Type 0 where
  pub left_is : DistanceIs m d a left b bt x
  pub right_is : UpTo x (distance m d (drop right a) (drop bt b)) y
