-- From the walk's claim numbers to the items of paper/specs. Assumes nothing.
use Prim.Native.Nat.{ℕ, zero, suc, ◌+◌, ◌*◌, ◌<◌, ◌≤◌}
use mathlib.Core.Path.{◌≡◌, refl, sym, ap, subst, ◌∙◌}
use mathlib.Core.Logic.{⊎_elim}
use mathlib.Core.Bool.{Bool, true, false, cond, ◌&&◌}
use mathlib.Core.List.{List, [], ◌∷◌, ◌++◌, map}
use native.Mathlib.Omega.{arith}
use native.Mathlib.Nat.{le_refl, eq-or-lt_of_le}
use lib.Dec.{ltb, leb, eqb}
use lib.IntN.{ℤ, pos}
use lib.ListN.{length, get_or, take, drop, length-map, get_or-append}
use lib.Seq.{get_or-take, get_or_at}
use borrow.Author.Tests.{lt-ltb, ne_eqb}
use Rattle.paper.specs.declared.orders.Order.{Order}
use Rattle.paper.specs.declared.orders.Place.{Place}
use Rattle.paper.specs.declared.points.Measure.{Measure}
use Rattle.paper.specs.declared.tables.Table.{Table}
use Rattle.paper.specs.Points.{measure_of, distance, Claim, zero_claim, point}
use Rattle.paper.specs.Fields.{in_slots}
use Rattle.paper.specs.Limits.{most_claims}
use Rattle.paper.specs.declared.orders.Item.{Item}
use Rattle.paper.specs.Orders.{Query, rank, before, earlier, item_of, listed, follows, rest, snapshot_of, following, page_of, flat, fronted}
use Rattle.paper.specs.Orders.{insert as put}
use Rattle.paper.specs.Tree.{claims_from, reference_at}
use Rattle.paper.specs.Calls.{table_query}
use Rattle.tree.proofs.PointsInMemory.{claims_length}
use Rattle.walk_keep.specs.Page.{ranks, ahead, sooner, insert_by, sorted_of, first_sorted, items, Filled}
use Rattle.walk_keep.specs.Kept.{key, RisingClaims, none, more}
use Rattle.walk_keep.proofs.Keeping.{sooner_true, sooner_false, key_sooner, key_differs, scan_rising}
use Rattle.walk.specs.Walking.{dist_of}
use Rattle.walk.specs.Asking.{Fills}
use Rattle.orders.proofs.Sorted.{rest_insert}

-- ---- claims as items

-- claim k as an item, where its reference is `ref k` and it is `dist k` away
abbrev pub item_at : (ℕ → ℕ) → (ℕ → ℕ) → ℕ → Item
item_at ref dist k = record { number = k; reference = ref k; distance = dist k }

-- [2.3] the order of items is the order of ranks
before_ranks : (order : Order) (x k y j : ℕ) → before order x k y j ≡ ahead (rank order x) k (rank order y) j
unfolding before ahead
before_ranks order x k y j = refl

-- of two claims, one comes first
sooner_turned : (rank : ℕ → ℕ) (j k : ℕ) (b : Bool) → j < most_claims → k < most_claims → (j ≡ k → ⊥) → sooner rank j k ≡ b → cond b (sooner rank k j ≡ false) (sooner rank k j ≡ true)
sooner_turned rank j k true hj hk ne p = go (sooner rank k j) refl
  where
    go : (u : Bool) → sooner rank k j ≡ u → u ≡ false
    go true q = absurd (omega (arith, sooner_true rank j k hj hk p, sooner_true rank k j hk hj q))
    go false q = refl
sooner_turned rank j k false hj hk ne p =
    key_sooner rank k j hk hj (omega (arith, sooner_false rank j k hj hk p, key_differs rank j k hj hk ne))

module _ (o : Order) (ref dist : ℕ → ℕ) where
  -- a claim behind all of l, put in its place among the numbers and among the items
  put_numbers : (ok : ℕ → Bool) (k s lo : ℕ) (l : List ℕ) → k < most_claims → RisingClaims (ranks o dist) ok k s lo l
      → put o (item_at ref dist k) (map (item_at ref dist) l) ≡ map (item_at ref dist) (insert_by (ranks o dist) k l)
  unfolding put insert_by
  put_numbers ok k s lo [] hk none = refl
  put_numbers ok k zero lo (x ∷ l) hk none' = elim none' [ ]
  put_numbers ok k (suc s) lo (x ∷ l) hk (more a b c d) =
      go (sooner (ranks o dist) x k) refl
      (sooner_turned (ranks o dist) x k (sooner (ranks o dist) x k) (omega arith) hk (λ e. omega arith) refl)
      (put_numbers ok k s (key (ranks o dist) x + 1) l hk d)
    where
      go : (u : Bool) → sooner (ranks o dist) x k ≡ u → cond u (sooner (ranks o dist) k x ≡ false) (sooner (ranks o dist) k x ≡ true)
          → put o (item_at ref dist k) (map (item_at ref dist) l) ≡ map (item_at ref dist) (insert_by (ranks o dist) k l)
          → cond (earlier o (item_at ref dist k) (item_at ref dist x)) (item_at ref dist k ∷ item_at ref dist x ∷ map (item_at ref dist) l) (item_at ref dist x ∷ put o (item_at ref dist k) (map (item_at ref dist) l))
          ≡ map (item_at ref dist) (cond u (x ∷ insert_by (ranks o dist) k l) (cond (eqb x k) (x ∷ l) (k ∷ x ∷ l)))
      go true p q ih = rw (before_ranks o (dist k) k (dist x) x, q, ih)
      go false p q ih = rw (before_ranks o (dist k) k (dist x) x, q, ne_eqb x k (λ e. omega arith))

-- ---- what follows a place

-- admitted by the query: within reach, and after the place
abbrev ok_in : Query → Place → (ℕ → ℕ) → (ℕ → ℕ) → ℕ → Bool
ok_in q p ref dist k = leb (dist k) q.reach && follows q.order p (item_at ref dist k)

-- what follows the place in the list of items, by number
module _ (q : Query) (cs : List Claim) (p : Place) (ref dist : ℕ → ℕ) (n : ℕ) (small : n ≤ most_claims) (agree : (k : ℕ) → k < n → item_of q cs k ≡ item_at ref dist k) where
  abbrev Sorted : ℕ → List ℕ
  Sorted s = sorted_of (ranks q.order dist) (ok_in q p ref dist) s

  listed_rest : (s : ℕ) → s ≤ n → rest q.order p (listed q cs s) ≡ map (item_at ref dist) (Sorted s)
  unfolding listed rest sorted_of
  listed_rest zero h = refl
  listed_rest (suc k) h =
      subst (λ (a : Item). rest q.order p (cond (leb a.distance q.reach) (put q.order a (listed q cs k)) (listed q cs k)) ≡ map (item_at ref dist) (cond (ok_in q p ref dist k) (insert_by (ranks q.order dist) k (Sorted k)) (Sorted k)))
      (sym (agree k h)) (go (leb (dist k) q.reach) (follows q.order p (item_at ref dist k)) refl refl (listed_rest k (omega arith)))
    where
      go : (u v : Bool) → leb (dist k) q.reach ≡ u → follows q.order p (item_at ref dist k) ≡ v
          → rest q.order p (listed q cs k) ≡ map (item_at ref dist) (Sorted k)
          → rest q.order p (cond u (put q.order (item_at ref dist k) (listed q cs k)) (listed q cs k)) ≡ map (item_at ref dist) (cond (u && v) (insert_by (ranks q.order dist) k (Sorted k)) (Sorted k))
      go true true a b ih =
          rest_insert q.order p (item_at ref dist k) (listed q cs k)
          ∙ rw (b, ih) (put_numbers q.order ref dist (ok_in q p ref dist) k k zero (Sorted k) (omega arith) (scan_rising (ranks q.order dist) (ok_in q p ref dist) k k (le_refl k) (omega arith)))
      go true false a b ih = rest_insert q.order p (item_at ref dist k) (listed q cs k) ∙ rw b ih
      go false v a b ih = ih

-- ---- claims that are admitted

-- filters that agree
sorted_alike : (rank : ℕ → ℕ) (f g : ℕ → Bool) (n : ℕ) → ((k : ℕ) → k < n → f k ≡ g k) → sorted_of rank f n ≡ sorted_of rank g n
unfolding sorted_of
sorted_alike rank f g zero h = refl
sorted_alike rank f g (suc n) h = rw (h n (omega arith), sorted_alike rank f g n (λ k l. h k (omega arith)))

-- ---- lists of items

take_items : (f : ℕ → Item) (n : ℕ) (l : List ℕ) → take n (map f l) ≡ map f (take n l)
take_items f zero l = refl
take_items f (suc n) [] = refl
take_items f (suc n) (x ∷ l) = ap (λ (r : List Item). f x ∷ r) (take_items f n l)

pub flat_items : (ref dist : ℕ → ℕ) (l : List ℕ) → flat (map (item_at ref dist) l) ≡ items ref dist l
unfolding flat items
flat_items ref dist [] = refl
flat_items ref dist (k ∷ l) = rw (flat_items ref dist l)

-- ---- the claims of the lent memory

pub claims_at : (d n : ℕ) (references : List ℕ) (coordinates : List ℤ) (k : ℕ) → k < n
    → get_or (claims_from d n references coordinates) k zero_claim ≡ record { reference = get_or references k 0; point = point d coordinates k }
unfolding claims_from
claims_at d zero references coordinates k h = absurd (omega arith)
claims_at d (suc n) references coordinates k h =
    ⊎_elim
    (λ e. let z : k ≡ n = omega arith in rw z (get_or_at (claims_from d n references coordinates) _ [] zero_claim n (claims_length d n references coordinates)))
    (λ l.
    let l' : k < n = omega arith in
    get_or-append (claims_from d n references coordinates) _ zero_claim k (rw (claims_length d n references coordinates) l')
    ∙ claims_at d n references coordinates k l')
    (eq-or-lt_of_le h)

-- ---- handed on: what the walk fills in is the page

-- a measure looks at no more than the first d coordinates
distance_front : (m : Measure) (d e : ℕ) (p q : List ℤ) → d ≤ e → distance m d (take e p) q ≡ distance m d p q
unfolding distance
distance_front m zero e p q h = refl
distance_front m (suc d) e p q h = rw (distance_front m d e p q (omega arith), get_or-take e p d (pos 0) h)

-- nor at more than the first d of a probe's slots
distance_behind : (m : Measure) (d : ℕ) (p q z : List ℤ) → d ≤ length q → distance m d p (q ++ z) ≡ distance m d p q
unfolding distance
distance_behind m zero p q z h = refl
distance_behind m (suc d) p q z h = rw (distance_behind m d p q z (omega arith), get_or-append q z (pos 0) d h)

pub slots_away : (measure d : ℕ) (coordinates probe slots : List ℤ) (k : ℕ) → length probe ≡ d → slots ≡ in_slots (length probe) probe → dist_of measure d coordinates slots k ≡ dist_of measure d coordinates probe k
unfolding dist_of in_slots
slots_away measure d coordinates probe slots k aimed padded = rw padded (distance_behind (measure_of measure) d (drop (k * d) coordinates) probe _ (omega arith))

module _ (t : Table) (order : Order) (reach : ℕ) (references : List ℕ) (coordinates probe : List ℤ) where
  -- claim k, measured
  pub item_is : (k : ℕ) → k < t.count
      → item_of (table_query t order probe reach) (claims_from t.d t.count references coordinates) k ≡ item_at (reference_at references) (dist_of t.measure t.d coordinates probe) k
  unfolding item_of dist_of point
  item_is k h =
      ap
      (λ (c : Claim). record { number = k; reference = c.reference; distance = distance (measure_of t.measure) t.d c.point probe })
      (claims_at t.d t.count references coordinates k h)
      ∙ ap
      (λ (x : ℕ). record { number = k; reference = get_or references k 0; distance = x })
      (distance_front (measure_of t.measure) t.d t.d (drop (k * t.d) coordinates) probe (le_refl t.d))

  module _ (place : Place) (small : t.count ≤ most_claims) (stored : snapshot_of place t.count ≤ t.count) (ok : ℕ → Bool)
      (oks : (k : ℕ) → ok k ≡ (ltb k (snapshot_of place t.count) && ok_in (table_query t order probe reach) place (reference_at references) (dist_of t.measure t.d coordinates probe) k)) where
    abbrev Q : Query
    Q = table_query t order probe reach

    abbrev Cs : List Claim
    Cs = claims_from t.d t.count references coordinates

    abbrev Ref : ℕ → ℕ
    Ref = reference_at references

    abbrev Dist : ℕ → ℕ
    Dist = dist_of t.measure t.d coordinates probe

    abbrev Seen : ℕ
    Seen = snapshot_of place t.count

    following_numbers : following Q Cs place ≡ map (item_at Ref Dist) (sorted_of (ranks order Dist) ok Seen)
    unfolding following
    following_numbers =
        let e : snapshot_of place (length Cs) ≡ Seen = ap (snapshot_of place) (claims_length t.d t.count references coordinates) in
        rw e
        (listed_rest Q Cs place Ref Dist t.count small item_is Seen stored
        ∙ ap (map (item_at Ref Dist)) (sorted_alike (ranks order Dist) (ok_in Q place Ref Dist) ok Seen (λ k h. sym (oks k ∙ rw (lt-ltb k Seen h)))))

    module _ (size : ℕ) where
      abbrev First : List ℕ
      First = first_sorted (ranks order Dist) ok Seen size

      page_numbers : page_of Q Cs place size ≡ map (item_at Ref Dist) First
      unfolding page_of first_sorted
      page_numbers = ap (take size) following_numbers ∙ take_items (item_at Ref Dist) size _

      -- what the walk fills in is the page
      pub filled_page : (o o' : List ℕ) (r : ℕ) → Filled order Ref Dist ok Seen size o o' r → Fills (page_of Q Cs place size) o o' r
      unfolding fronted
      filled_page o o' r h =
          let e = page_numbers in
          let len : length (map (item_at Ref Dist) First) ≡ length First = length-map First (item_at Ref Dist) in
          let w : 3 * length (map (item_at Ref Dist) First) ≡ length First * 3 = omega arith in
          record {
            room = h.room ∙ sym (ap (λ (l : List Item). flat l ++ drop (3 * length l) o) e ∙ rw (flat_items Ref Dist First, w));
            counts = h.counts ∙ sym len ∙ sym (ap length e);
          }
