-- The measures are metric, in what the walk uses: the triangle inequality of a symmetric measure. Assumes nothing.
use Prim.Native.Nat.{ℕ, ◌+◌, ◌≤◌}
use mathlib.Core.List.{List}
use lib.IntN.{ℤ}
use Rattle.paper.specs.declared.points.Measure.{Measure}
use Rattle.paper.specs.Points.{distance}
use Rattle.paper.specs.Tree.{apart}
use Rattle.measure.proofs.Metric.{distance_sym, distance_triangle}
use Rattle.walk_keep.specs.declared.asked.Asked.{Asked}
use Rattle.walk.specs.Walking.{dist_of, dist_by, apart_by, Metric}

-- the triangle inequality with symmetry, the three ways round
module _ (m : Measure) (d : ℕ) (p q r : List ℤ) where
  triangle_back : distance m d q r ≤ distance m d p q + distance m d p r
  triangle_back = rw (distance_sym m d p q) (distance_triangle m d q p r)

  triangle_between : distance m d p q ≤ distance m d p r + distance m d q r
  triangle_between = rw (distance_sym m d q r) (distance_triangle m d p r q)

-- the measures are metric, in what the walk uses
pub metric : (ask : Asked) (coordinates probe : List ℤ) → Metric (apart_by ask coordinates) (dist_by ask coordinates probe)
unfolding apart dist_of
metric ask coordinates probe =
    record {
      there = λ k j. distance_triangle _ _ _ _ _;
      back = λ k j. triangle_back _ _ _ _ _;
      between = λ k j. triangle_between _ _ _ _ _;
    }
