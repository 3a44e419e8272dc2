-- The steps of a node's two claims. Assumes nothing.
use Prim.Native.Nat.{ℕ, ◌+◌, ◌*◌, ◌<◌, ◌≤◌}
use mathlib.Core.Path.{◌≡◌, ap, ◌∙◌}
use mathlib.Core.Logic.{inl, inr, ⊎_elim}
use mathlib.Core.List.{List}
use native.Mathlib.Omega.{arith}
use native.Mathlib.Nat.{le_trans, eq-zero-or-pos}
use lib.Dec.{lit<}
use lib.IntN.{ℤ}
use lib.ListN.{length}
use Rattle.paper.specs.declared.points.Measure.{Measure}
use Rattle.paper.specs.declared.points.Measure.TheVariants.{CityBlock, Maximum, Hamming}
use Rattle.paper.specs.Limits.{most_claims, most_coordinates}
use Rattle.paper.specs.Points.{measure_of, greatest_of}
use Rattle.paper.specs.Tree.{field_at, side_claim}
use Rattle.measure.specs.Measured.{PairIs}
use Rattle.tree.proofs.PointsInMemory.{located_at}
use Rattle.walk_keep.specs.declared.asked.Asked.{Asked}
use Rattle.walk_keep.specs.Numbers.{most_distance, top, rank_at, key_at}
use Rattle.walk_keep.specs.Kept.{Walked, KeepIs}
use Rattle.walk_keep.proofs.Stepping.{claim_step}
use Rattle.walk_keep.proofs.Walks.{walked_then}
use Rattle.walk.specs.Walking.{dist_of, dist_by, On, ClaimsOf, Ranked, Visits, NodeAsk}
use Rattle.walk.proofs.Nodes.{stored_here, left_here}

-- [1.9] no measure's greatest distance is over the greatest of all
pub all_near : (m : Measure) (d : ℕ) → d ≤ most_coordinates → greatest_of m d ≤ most_distance
unfolding greatest_of
all_near CityBlock d h = omega arith
all_near Maximum d h = omega arith
all_near Hamming d h = omega arith

-- ---- the claims of a node

-- claim k can be measured
pub record Measurable (ask : Asked) (coordinates : List ℤ) (k : ℕ) : Type 0 where
  pub few : k < most_claims
  pub inside : k * ask.d + ask.d ≤ length coordinates

module _ {nodes : List ℕ} {coordinates : List ℤ} {ask : Asked} {m : ℕ} (h : NodeAsk nodes coordinates ask m) where
  pub left_some : 0 < field_at nodes m 0
  left_some = left_here nodes h.used h.claims m h.walk

  measurable : (k : ℕ) → k < h.claims → Measurable ask coordinates k
  measurable k few = record { few = omega (arith, h.lent.few); inside = located_at ask.d h.claims k coordinates h.lent.located few }

  module _ {k j : ℕ} (two : ClaimsOf nodes m k j) where
    left_stored : k < h.claims
    left_stored = omega (arith, two.left, left_some, stored_here nodes h.used h.claims m h.walk 0 (lit< tt))

    right_stored : j < h.claims
    right_stored =
        ⊎_elim (λ (z : field_at nodes m 1 ≡ 0). omega (arith, two.alone z, left_stored))
        (λ (l : 0 < field_at nodes m 1). omega (arith, two.right (λ z. omega arith), stored_here nodes h.used h.claims m h.walk 1 (lit< tt))) (eq-zero-or-pos (field_at nodes m 1))

    pub left_measurable : Measurable ask coordinates k
    left_measurable = measurable k left_stored

    pub right_measurable : Measurable ask coordinates j
    right_measurable = measurable j right_stored

    -- ---- and their steps

    module _ (probe : List ℤ) {x y : ℕ} (pair : PairIs (measure_of ask.measure) ask.d coordinates (k * ask.d) (j * ask.d) probe 0 x y) where
      abbrev D : ℕ → ℕ
      D = dist_by ask coordinates probe

      pub x_near : x ≤ most_distance
      x_near = le_trans pair.left_is.bounded (all_near (measure_of ask.measure) ask.d h.lent.located.narrow)

      pub y_near : y ≤ most_distance
      y_near = le_trans pair.right_is.bounded (all_near (measure_of ask.measure) ask.d h.lent.located.narrow)

      x_is : x ≡ D k
      unfolding dist_of
      x_is = pair.left_is.exact

      y_is : y ≡ D j
      unfolding dist_of
      y_is = pair.right_is.exact

      stepped : (k u r y : ℕ) (o o' : List ℕ) → k < most_claims → u ≡ D k → u ≤ most_distance → r ≡ rank_at ask.order u → y ≡ key_at r k → KeepIs ask.sought k y o o' → Walked ask D (λ j. j ≡ k) o o'
      stepped k u r y o o' few is near ranked py keep = claim_step ask D k y few (rw is at near) (py ∙ rw (ranked, is)) o o' keep

      ranked_at : (s k u r : ℕ) → k ≡ side_claim nodes m s → u ≡ D k → u ≤ greatest_of (measure_of ask.measure) ask.d → u ≤ most_distance → r ≡ rank_at ask.order u
          → Ranked ask coordinates probe nodes m s r
      ranked_at s k u r e is bounded near ranked =
          let f : u ≡ D (side_claim nodes m s) = is ∙ ap D e in
          record { rank = rw (← f) ranked; bounded = rw (← f) bounded; near = rw (← f) near }

      pub visited : {rx ry kx ky : ℕ} {o o₁ o₂ : List ℕ} → rx ≡ rank_at ask.order x → ry ≡ rank_at ask.order y → rx ≤ top → ry ≤ top → kx ≡ key_at rx k → ky ≡ key_at ry j
          → KeepIs ask.sought k kx o o₁ → KeepIs ask.sought j ky o₁ o₂ → Visits ask coordinates probe nodes m o o₂ rx ry
      visited {rx} {ry} {kx} {ky} {o} {o₁} {o₂} px py sx sy qx qy k₁ k₂ =
          record {
            walked = walked_then ask D (On nodes m) (λ i. i ≡ k) (λ i. i ≡ j) o o₁ o₂
                (stepped k x rx kx o o₁ left_measurable.few x_is x_near px qx k₁)
                (stepped j y ry ky o₁ o₂ right_measurable.few y_is y_near py qy k₂)
                (λ i c. ⊎_elim (λ e. inl (omega (arith, two.left))) (λ e. inr (omega (arith, two.right (λ z. omega arith)))) c);
            left_is = ranked_at 0 k x rx two.left x_is pair.left_is.bounded x_near px;
            right_is = λ some. ranked_at 1 j y ry (two.right some) y_is pair.right_is.bounded y_near py;
            left_small = sx;
            right_small = sy;
          }
