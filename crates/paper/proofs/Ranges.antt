-- A measure and a d in range, as a test and as facts. Assumes nothing.
use Prim.Native.Nat.{ℕ}
use mathlib.Core.Path.{◌≡◌}
use mathlib.Core.Bool.{true, ◌&&◌}
use lib.Dec.{leb}
use borrow.Author.Tests.{leb-true, le-leb}
use Rattle.paper.specs.Limits.{most_coordinates, first_measure, last_measure}
use Rattle.paper.specs.Points.{in_range, InRange}
use Rattle.paper.proofs.Tests.{and_first, and_second}

module _ (measure d : ℕ) where
  pub range_is : in_range measure d ≡ true → InRange measure d
  unfolding in_range
  range_is h =
      let m = leb first_measure measure && leb measure last_measure in
      let a = and_first m (leb 1 d && leb d most_coordinates) h in
      let b = and_second m (leb 1 d && leb d most_coordinates) h in
      record {
        first = leb-true first_measure measure (and_first (leb first_measure measure) (leb measure last_measure) a);
        last = leb-true measure last_measure (and_second (leb first_measure measure) (leb measure last_measure) a);
        wide = leb-true 1 d (and_first (leb 1 d) (leb d most_coordinates) b);
        narrow = leb-true d most_coordinates (and_second (leb 1 d) (leb d most_coordinates) b);
      }

  pub is_range : InRange measure d → in_range measure d ≡ true
  unfolding in_range
  is_range h =
      rw (
        le-leb first_measure measure h.first,
        le-leb measure last_measure h.last,
        le-leb 1 d h.wide,
        le-leb d most_coordinates h.narrow,
      )
