-- The parts of the ends' lines: points as scopes, queries and items as the fields of a line. Assumes nothing.
use Prim.Native.Nat.{ℕ, zero, suc, ◌^◌, ◌<◌, ◌≤◌}
use mathlib.Core.Path.{◌≡◌, refl, sym, ap}
use mathlib.Core.Bool.{Bool, true, false, cond, ◌||◌}
use mathlib.Core.List.{List, [], ◌∷◌, ◌++◌, Memᴰ}
use native.Mathlib.Omega.{arith}
use lib.Dec.{leb, eqb, lit<}
use lib.IntN.{ℤ}
use lib.ListN.{drop}
use lib.Signed.{mag}
use mir.Syntax.{w32}
use mir.Facts.{sfits_to_z}
use borrow.Author.Tests.{leb-true, le-leb, lt-ltb}
use Rattle.paper.specs.declared.lines.Scope.{Scope}
use Rattle.paper.specs.declared.orders.Place.{Place}
use Rattle.paper.specs.declared.orders.Place.TheVariants.{Start, After}
use Rattle.paper.specs.Frames.{num}
use Rattle.paper.specs.Fields.{coords_in, scope_ok, item_numbers, numbers_ok, references_ok}
use Rattle.paper.specs.declared.orders.Item.{Item}
use Rattle.paper.specs.Orders.{Query, snapshot_of, flat}
use Rattle.paper.specs.Lists as lists
use Rattle.paper.specs.Codec.{scope_of, place_in}
use Rattle.line_digits.proofs.NumbersAndFrames.{Bytes, bytes_drop, num_lt}
use Rattle.line_fields.proofs.Round.{Signed32, QueryFit, ScopeFit}
use Rattle.line_fields.proofs.ItemLaws.{Distances}
use Rattle.orders.specs.LawfulLines.{QueryInRange, PlaceInRange, ItemInRange}
use Rattle.paper.proofs.Tests.{and_first, and_second, and_both}
use Rattle.paper.proofs.Ranges.{range_is}
use Rattle.orders.proofs.Lists.{All}
use Rattle.paper.specs.Limits.{most_claims, most_number}

-- ---- slots and scopes

-- a place's scope, and the place of a scope
pub scope_place : (p : Place) (s : ℕ) → snapshot_of p s ≡ s → place_in (scope_of p s) ≡ p
unfolding scope_of place_in
scope_place Start s e = refl
scope_place (After n m) s e = ap (λ (k : ℕ). After k m) (sym e)

pub scope_snapshot : (p : Place) (s : ℕ) → (scope_of p s).snapshot ≡ s
unfolding scope_of
scope_snapshot Start s = refl
scope_snapshot (After n m) s = refl

-- the snapshot of an ask: its place's, or 0 from the start
pub asked_small : (p : Place) → PlaceInRange p → snapshot_of p 0 ≤ most_claims
asked_small Start ok = omega arith
asked_small (After n m) ok = ok.snapshot

pub asked_used : (p : Place) → snapshot_of p (snapshot_of p 0) ≡ snapshot_of p 0
asked_used Start = refl
asked_used (After n m) = refl

pub scope_ok_lem : (p : Place) (s : ℕ) → PlaceInRange p → s ≤ most_claims → scope_ok (scope_of p s) ≡ true
unfolding scope_of scope_ok
scope_ok_lem Start s ok h = rw (le-leb s most_claims h)
scope_ok_lem (After n m) s ok h =
    let k : m.number ≤ most_number = omega (arith, ok.number) in
    rw (le-leb s most_claims h, le-leb m.number most_number k)

pub scope_fit : (p : Place) (s : ℕ) → PlaceInRange p → s ≤ most_claims → ScopeFit (scope_of p s)
unfolding scope_of
scope_fit Start s ok h = record { from = lit< tt; snapshot = omega arith; distance = lit< tt; number = lit< tt }
scope_fit (After n m) s ok h = record { from = lit< tt; snapshot = omega arith; distance = ok.distance; number = omega (arith, ok.number) }

pub scope_asks : (p : Place) → (eqb (scope_of p (snapshot_of p 0)).from 1 || eqb (scope_of p (snapshot_of p 0)).snapshot 0) ≡ true
unfolding scope_of
scope_asks Start = refl
scope_asks (After n m) = refl

pub place_ok : (s : Scope) → scope_ok s ≡ true → s.distance < 2 ^ 64 → PlaceInRange (place_in s)
unfolding scope_ok place_in
place_ok s e far =
    let e1 = and_second (leb s.from 1) _ e in
    let e2 = and_second (leb s.snapshot most_claims) _ e1 in
    go (eqb s.from 0) (leb-true _ _ (and_first _ _ e1)) (leb-true _ _ (and_first _ _ e2))
  where
    go : (b : Bool) → s.snapshot ≤ most_claims → s.number ≤ most_number
        → PlaceInRange (cond b Start (After s.snapshot (record { distance = s.distance; number = s.number })))
    go true n k = tt
    go false n k = record { snapshot = n; distance = far; number = omega arith }

pub place_used : (s : Scope) → snapshot_of (place_in s) s.snapshot ≡ s.snapshot
unfolding place_in
place_used s = go (eqb s.from 0)
  where
    go : (b : Bool) → snapshot_of (cond b Start (After s.snapshot (record { distance = s.distance; number = s.number }))) s.snapshot ≡ s.snapshot
    go true = refl
    go false = refl

pub scope_small : (s : Scope) → scope_ok s ≡ true → s.snapshot ≤ most_claims
unfolding scope_ok
scope_small s e = leb-true _ _ (and_first _ _ (and_second (leb s.from 1) _ e))

-- ---- coordinates and queries

-- coordinates of 32 bits
probe_fit : (cs : List ℤ) → ((x : ℤ) → Memᴰ x cs → mag x < 2 ^ 31) → Signed32 cs
probe_fit [] f = tt
probe_fit (x ∷ cs) f = (record { sfits = f x (Memᴰ.head refl) }, probe_fit cs (λ y m. f y (Memᴰ.tail m)))

pub probe_read : (d : ℕ) (f : List ℕ) → Bytes f → All (λ x. mag x < 2 ^ 31) (coords_in d f)
unfolding coords_in
probe_read zero f b = tt
probe_read (suc d) f b = ((sfits_to_z {w = w32} {n = num 4 f} (record { fits = num_lt 4 f b })).sfits, probe_read d (drop 4 f) (bytes_drop 4 f b))

-- [1.3] [1.5] a query in range has the bits that a line gives it
pub query_fit : (q : Query) → QueryInRange q → QueryFit q
query_fit q ok =
    let r = range_is q.measure q.d ok.range in
    record {
      table = ok.typed.table;
      measure = omega (arith, r.last);
      dim = omega (arith, r.narrow);
      long = ok.long;
      probe = probe_fit q.probe ok.typed.probe;
      reach = ok.typed.reach;
    }

-- ---- items

-- items as numbers, three for each
pub flat_numbers : (l : List Item) → All ItemInRange l → numbers_ok (flat l) ≡ true
unfolding flat numbers_ok
flat_numbers [] h = refl
flat_numbers (x ∷ l) h = and_both _ _ (le-leb x.number most_number (omega (arith, h.0.number))) (flat_numbers l h.1)

pub flat_references : (l : List Item) → All ItemInRange l → references_ok (flat l) ≡ true
unfolding flat references_ok
flat_references [] h = refl
flat_references (x ∷ l) h = and_both _ _ (lt-ltb x.reference 4294967296 h.0.reference) (flat_references l h.1)

pub flat_distances : (l : List Item) → All ItemInRange l → Distances (flat l)
unfolding flat
flat_distances [] h = tt
flat_distances (x ∷ l) h = (h.0.distance, flat_distances l h.1)

-- the items of a frame are in range
pub items_ok : (k : ℕ) (g r : List ℕ) → Bytes g → numbers_ok (item_numbers k g) ≡ true → All ItemInRange (lists.items_in k (item_numbers k g ++ r))
unfolding item_numbers numbers_ok lists.items_in
items_ok zero g r b e = tt
items_ok (suc k) g r b e = (
  record {
    number = omega (arith, leb-true (num 2 g) most_number (and_first _ _ e));
    reference = num_lt 4 (drop 2 g) (bytes_drop 2 g b);
    distance = num_lt 8 (drop 6 g) (bytes_drop 6 g b);
  },
  items_ok k (drop 14 g) r (bytes_drop 14 g b) (and_second (leb (num 2 g) most_number) _ e),
)
