-- Claims in lent memory: distances and claims read the first coordinates and references alone, and a place put behind them changes none of them. Assumes nothing.
use Prim.Native.Nat.{ℕ, zero, suc, ◌+◌, ◌*◌, ◌<◌, ◌≤◌}
use mathlib.Core.Path.{◌≡◌, refl, sym, ap, ◌∙◌}
use mathlib.Core.List.{List, [], ◌∷◌, ◌++◌, append_assoc}
use native.Mathlib.Omega.{arith}
use lib.IntN.{ℤ, pos}
use lib.ListN.{length, get_or, take, drop, length-append, length-drop, take-append-drop, get_or-append}
use lib.Seq.{length-take-le, take-append-le, drop-append-le, take_at, drop_at, take-suc, get_or-take, get_or-drop, paste}
use Rattle.paper.specs.declared.points.Measure.{Measure}
use Rattle.paper.specs.Points.{measure_of, distance, Claim, point}
use Rattle.paper.specs.Tree.{apart, reference_at, claims_from}
use Rattle.paper.specs.References.{references_of}
use Rattle.tree.proofs.PointsInMemory.{before_next}

-- ---- distances

-- distances look at the d numbers of each point alone
distance_ext : (m : Measure) (d : ℕ) (p p' q q' : List ℤ) → ((i : ℕ) → i < d → get_or p i (pos 0) ≡ get_or p' i (pos 0))
    → ((i : ℕ) → i < d → get_or q i (pos 0) ≡ get_or q' i (pos 0)) → distance m d p q ≡ distance m d p' q'
unfolding distance
distance_ext m zero p p' q q' hp hq = refl
distance_ext m (suc d) p p' q q' hp hq =
    rw (distance_ext m d p p' q q' (λ i h. hp i (omega arith)) (λ i h. hq i (omega arith)), hp d (omega arith), hq d (omega arith))

-- where the coordinates of the first n claims are the same, so are their distances
pub apart_ext : (measure d n : ℕ) (l l' : List ℤ) → ((i : ℕ) → i < n * d → get_or l i (pos 0) ≡ get_or l' i (pos 0))
    → (j k : ℕ) → j < n → k < n → apart measure d l j k ≡ apart measure d l' j k
unfolding apart
apart_ext measure d n l l' same j k hj hk =
    distance_ext (measure_of measure) d (drop (j * d) l) (drop (j * d) l') (drop (k * d) l) (drop (k * d) l') (at j hj) (at k hk)
  where
    at : (x : ℕ) → x < n → (i : ℕ) → i < d → get_or (drop (x * d) l) i (pos 0) ≡ get_or (drop (x * d) l') i (pos 0)
    at x hx i hi =
        get_or-drop (x * d) l i (pos 0)
        ∙ same (x * d + i) (omega (arith, before_next d x n hx))
        ∙ sym (get_or-drop (x * d) l' i (pos 0))

-- ---- a place put into the coordinates

-- what a place put at `at` leaves of the coordinates before it, and what it makes of those there
module _ (l : List ℤ) (at : ℕ) (p : List ℤ) (d : ℕ) (inside : at ≤ length l) where
  len : length (take at l) ≡ at
  len = length-take-le at l inside

  pub put_before : (i : ℕ) → i < at → get_or (paste l at p d) i (pos 0) ≡ get_or l i (pos 0)
  put_before i h =
      get_or-append (take at l ++ take d p) (drop (at + d) l) (pos 0) i (omega (arith, len, length-append (take at l) (take d p)))
      ∙ get_or-append (take at l) (take d p) (pos 0) i (omega (arith, len))
      ∙ get_or-take at l i (pos 0) h

  front : (b : ℕ) (rest : List ℤ) → b + d ≤ at → take d (drop b (take at l ++ rest)) ≡ take d (drop b (take at l))
  front b rest h =
      ap (take d) (drop-append-le b (take at l) rest (omega (arith, len)))
      ∙ take-append-le d (drop b (take at l)) rest (omega (arith, len, length-drop b (take at l)))

  pub place_before : (b : ℕ) → b + d ≤ at → take d (drop b (paste l at p d)) ≡ take d (drop b l)
  place_before b h =
      ap (λ (x : List ℤ). take d (drop b x)) (append_assoc (take at l) (take d p) (drop (at + d) l))
      ∙ front b (take d p ++ drop (at + d) l) h
      ∙ sym (front b (drop at l) h)
      ∙ ap (λ (x : List ℤ). take d (drop b x)) (take-append-drop at l)

  pub place_new : d ≤ length p → take d (drop at (paste l at p d)) ≡ take d p
  place_new h =
      ap (λ (x : List ℤ). take d (drop at x)) (append_assoc (take at l) (take d p) (drop (at + d) l))
      ∙ ap (take d) (drop_at (take at l) (take d p ++ drop (at + d) l) at len)
      ∙ take_at (take d p) (drop (at + d) l) d (length-take-le d p h)

-- the same, of claims and their points

pub point_before : (l : List ℤ) (at : ℕ) (p : List ℤ) (d : ℕ) → at ≤ length l → (i : ℕ) → i * d + d ≤ at → point d (paste l at p d) i ≡ point d l i
unfolding point
point_before l at p d inside i h = place_before l at p d inside (i * d) h

pub point_new : (l : List ℤ) (n : ℕ) (p : List ℤ) (d : ℕ) → n * d ≤ length l → d ≤ length p → point d (paste l (n * d) p d) n ≡ take d p
unfolding point
point_new l n p d inside h = place_new l (n * d) p d inside h

-- ---- claims

pub claims_more : (d n : ℕ) (references : List ℕ) (coordinates : List ℤ)
    → claims_from d (suc n) references coordinates ≡ claims_from d n references coordinates ++ (record { reference = reference_at references n; point = point d coordinates n } ∷ [])
unfolding claims_from
claims_more d n references coordinates = refl

pub claim_eq : (a b : Claim) → a.reference ≡ b.reference → a.point ≡ b.point → a ≡ b
claim_eq a b p q = λ i. record { reference = p i; point = q i }

-- the first n claims are the same where their references and points are
pub claims_ext : (d n : ℕ) (r r' : List ℕ) (l l' : List ℤ) → ((i : ℕ) → i < n → get_or r i 0 ≡ get_or r' i 0)
    → ((i : ℕ) → i < n → point d l i ≡ point d l' i) → claims_from d n r l ≡ claims_from d n r' l'
unfolding claims_from
claims_ext d zero r r' l l' hr hp = refl
claims_ext d (suc n) r r' l l' hr hp =
    rw (claims_ext d n r r' l l' (λ i h. hr i (omega arith)) (λ i h. hp i (omega arith)), hr n (omega arith), hp n (omega arith))

-- [3.17] the references of the first n claims are the first n references
pub references_append : (a b : List Claim) → references_of (a ++ b) ≡ references_of a ++ references_of b
unfolding references_of
references_append [] b = refl
references_append (c ∷ a) b = ap (λ (l : List ℕ). c.reference ∷ l) (references_append a b)

pub references_are : (d n : ℕ) (references : List ℕ) (coordinates : List ℤ) → n ≤ length references
    → references_of (claims_from d n references coordinates) ≡ take n references
unfolding claims_from references_of
references_are d zero references coordinates h = refl
references_are d (suc n) references coordinates h =
    references_append (claims_from d n references coordinates) _
    ∙ ap (λ (l : List ℕ). l ++ (reference_at references n ∷ [])) (references_are d n references coordinates (omega arith))
    ∙ sym (take-suc references n 0 (omega arith))

-- a run's place has d numbers
pub point_length : (d : ℕ) (points : List ℤ) (i : ℕ) → i * d + d ≤ length points → length (point d points i) ≡ d
unfolding point
point_length d points i h = length-take-le d (drop (i * d) points) (omega (arith, length-drop (i * d) points))
