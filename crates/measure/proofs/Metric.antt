-- The laws of `distance`, each once over the measures: it is symmetric, obeys the triangle inequality, [1.9] is at most the greatest, and
-- grows with the coordinates.
-- That equal points are at distance zero is no law here: nothing above may lean on it. Assumes nothing.
use mathlib.Core.Path.{◌≡◌, refl, sym, ap, subst, ◌∙◌}
use mathlib.Core.List.{List}
use Prim.Native.Nat.{ℕ, zero, suc, ◌+◌, ◌-◌, ◌≤◌, min}
use native.Mathlib.Omega.{arith}
use native.Mathlib.Numerals.{unary_clauses}
use lib.ListN.{get_or}
use lib.IntN.{ℤ, pos, ◌-ℤ◌, nat_abs}
use mir.Syntax.{w32}
use mir.Val.{SFits}
use Rattle.paper.specs.Points.{weigh, joined, distance, greatest_of}
use Rattle.paper.specs.declared.points.Measure.{Measure}
use Rattle.paper.specs.declared.points.Measure.TheVariants.{CityBlock, Maximum, Hamming}
use Rattle.measure.proofs.Away.{abs_away, away_sym, away_triangle, away_bound}

abs_sym : (x y : ℤ) → nat_abs (x -ℤ y) ≡ nat_abs (y -ℤ x)
abs_sym x y = abs_away x y ∙ away_sym x y ∙ sym (abs_away y x)

abs_triangle : (x y z : ℤ) → nat_abs (x -ℤ z) ≤ nat_abs (x -ℤ y) + nat_abs (y -ℤ z)
abs_triangle x y z = omega (arith, away_triangle x y z, abs_away x z, abs_away x y, abs_away y z)

weigh_sym : (m : Measure) (x y : ℤ) → weigh m x y ≡ weigh m y x
unfolding weigh
weigh_sym CityBlock x y = abs_sym x y
weigh_sym Maximum x y = abs_sym x y
weigh_sym Hamming x y = ap (min 1) (abs_sym x y)

weigh_triangle : (m : Measure) (x y z : ℤ) → weigh m x z ≤ weigh m x y + weigh m y z
unfolding weigh
weigh_triangle CityBlock x y z = abs_triangle x y z
weigh_triangle Maximum x y z = abs_triangle x y z
weigh_triangle Hamming x y z = omega (arith, abs_triangle x y z)

joined_sub : (m : Measure) (p q r s : ℕ) {a b : ℕ} → a ≤ p + r → b ≤ q + s → joined m a b ≤ joined m p q + joined m r s
unfolding joined
joined_sub CityBlock p q r s h k = omega arith
joined_sub Maximum p q r s h k = omega arith
joined_sub Hamming p q r s h k = omega arith

pub distance_sym : (m : Measure) (d : ℕ) (p q : List ℤ) → distance m d p q ≡ distance m d q p
unfolding distance
distance_sym m zero p q = refl
distance_sym m (suc d) p q = rw (distance_sym m d p q, weigh_sym m (get_or p d (pos 0)) (get_or q d (pos 0)))

pub distance_triangle : (m : Measure) (d : ℕ) (p q r : List ℤ) → distance m d p r ≤ distance m d p q + distance m d q r
unfolding distance
distance_triangle m zero p q r = omega arith
distance_triangle m (suc d) p q r = joined_sub m
    (distance m d p q) (weigh m (get_or p d (pos 0)) (get_or q d (pos 0))) (distance m d q r) (weigh m (get_or q d (pos 0)) (get_or r d (pos 0)))
    (distance_triangle m d p q r) (weigh_triangle m (get_or p d (pos 0)) (get_or q d (pos 0)) (get_or r d (pos 0)))

abbrev pub In32 : List ℤ → Type 0
In32 p = (k : ℕ) → SFits w32 (get_or p k (pos 0))

pub joined_most : (m : Measure) (d : ℕ) {a b : ℕ} → a ≤ greatest_of m d → b ≤ greatest_of m 1 → joined m a b ≤ greatest_of m (suc d)
unfolding joined greatest_of
joined_most CityBlock d h k = omega arith
joined_most Maximum d h k = omega arith
joined_most Hamming d h k = omega arith

pub weigh_most : (m : Measure) (x y : ℤ) → SFits w32 x → SFits w32 y → weigh m x y ≤ greatest_of m 1
unfolding weigh greatest_of
weigh_most CityBlock x y h k = omega (arith, abs_away x y, away_bound x y h k)
weigh_most Maximum x y h k = omega (arith, abs_away x y, away_bound x y h k)
weigh_most Hamming x y h k = omega arith

pub distance_most : (m : Measure) (d : ℕ) (p q : List ℤ) → In32 p → In32 q → distance m d p q ≤ greatest_of m d
unfolding distance
distance_most m zero p q h k = omega arith
distance_most m (suc d) p q h k = joined_most m d (distance_most m d p q h k) (weigh_most m (get_or p d (pos 0)) (get_or q d (pos 0)) (h d) (k d))

joined_grows : (m : Measure) (a b : ℕ) → a ≤ joined m a b
unfolding joined
joined_grows CityBlock a b = omega arith
joined_grows Maximum a b = omega arith
joined_grows Hamming a b = omega arith

further : (m : Measure) (i e : ℕ) (p q : List ℤ) → distance m i p q ≤ distance m (i + e) p q
unfolding distance
further m i zero p q = simp unary_clauses (omega arith)
further m i (suc e) p q =
    simp unary_clauses
    (omega (arith, further m i e p q, joined_grows m (distance m (i + e) p q) (weigh m (get_or p (i + e) (pos 0)) (get_or q (i + e) (pos 0)))))

-- no coordinate more lessens the distance
pub distance_grows : (m : Measure) (i d : ℕ) (p q : List ℤ) → i ≤ d → distance m i p q ≤ distance m d p q
distance_grows m i d p q h =
    let e : i + (d - i) ≡ d = omega arith in
    subst (λ (n : ℕ). distance m i p q ≤ distance m n p q) e (further m i (d - i) p q)
