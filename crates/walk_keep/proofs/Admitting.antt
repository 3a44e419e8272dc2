-- What a question admits, by its reach and place and by its numbers. Assumes nothing.
use Prim.Native.Nat.{ℕ, ◌+◌, ◌<◌, ◌≤◌, min}
use mathlib.Core.Path.{◌≡◌, refl, sym}
use mathlib.Core.Logic.{◌⊎◌, inl, inr}
use mathlib.Core.Bool.{Bool, true, false, ◌&&◌, ◌||◌}
use native.Mathlib.Omega.{arith}
use lib.Dec.{ltb, leb, eqb}
use borrow.Author.Tests.{ltb-true, ltb-false, leb-true, eqb-true, lt-ltb, le-leb, eq-eqb}
use Rattle.paper.specs.declared.orders.Order.{Order}
use Rattle.paper.specs.declared.orders.Order.TheVariants.{Near, Far}
use Rattle.paper.specs.Limits.{most_claims, most_number}
use Rattle.paper.specs.Orders.{rank, before, follows}
use Rattle.paper.proofs.Tests.{no_way}
use Rattle.paper.specs.declared.orders.Mark.{Mark}
use Rattle.paper.specs.declared.orders.Place.{Place}
use Rattle.paper.specs.declared.orders.Place.TheVariants.{Start, After}
use Rattle.walk_keep.specs.declared.asked.Asked.{Asked}
use Rattle.walk_keep.specs.Numbers.{most_distance, top, rank_at, key_at, front_at, behind_at, mark_at, low_at, end_at}
use Rattle.walk_keep.specs.Asked.{Wanted, wants, wanted_by}

-- ---- the order of ranks and numbers

module _ (o : Order) (x k y j : ℕ) where
  abbrev Comes : Type 0
  Comes = (rank o x < rank o y) ⊎ ((rank o x ≡ rank o y) × (k < j))

  comes : before o x k y j ≡ true → Comes
  unfolding before
  comes = go (ltb (rank o x) (rank o y)) (eqb (rank o x) (rank o y)) (ltb k j) refl refl refl
    where
      go : (u v w : Bool) → ltb (rank o x) (rank o y) ≡ u → eqb (rank o x) (rank o y) ≡ v → ltb k j ≡ w → (u || (v && w)) ≡ true → Comes
      go true v w p q r h = inl (ltb-true (rank o x) (rank o y) p)
      go false true true p q r h = inr (eqb-true (rank o x) (rank o y) q, ltb-true k j r)
      go false true false p q r h = absurd (no_way (sym h))
      go false false w p q r h = absurd (no_way (sym h))

  comes_before : Comes → before o x k y j ≡ true
  unfolding before
  comes_before (inl l) = rw (lt-ltb (rank o x) (rank o y) l)
  comes_before (inr e) = go (ltb (rank o x) (rank o y))
    where
      go : (u : Bool) → (u || (eqb (rank o x) (rank o y) && ltb k j)) ≡ true
      go true = refl
      go false = rw (eq-eqb (rank o x) (rank o y) e.0, lt-ltb k j e.1)

-- ---- an admitted claim

module _ (ask : Wanted) (x k : ℕ) where
  pub record Is : Type 0 where
    pub below : k < ask.snapshot
    pub within : x ≤ ask.reach
    pub after : (n : ℕ) (m : Mark) → ask.place ≡ After n m → Comes ask.order m.distance m.number x k

  abbrev F : Place → Bool
  F p = follows ask.order p (record { number = k; reference = 0; distance = x })

  pub admitted_is : wants ask x k ≡ true → Is
  unfolding wants follows
  admitted_is = go (ltb k ask.snapshot) (leb x ask.reach) refl refl
    where
      behind : F ask.place ≡ true → (n : ℕ) (m : Mark) → ask.place ≡ After n m → Comes ask.order m.distance m.number x k
      behind h n m is = comes ask.order m.distance m.number x k (rw is at h)

      go : (u v : Bool) → ltb k ask.snapshot ≡ u → leb x ask.reach ≡ v → (u && (v && F ask.place)) ≡ true → Is
      go false v p q h = absurd (no_way (sym h))
      go true false p q h = absurd (no_way (sym h))
      go true true p q h = record { below = ltb-true k ask.snapshot p; within = leb-true x ask.reach q; after = behind h }

  pub is_admitted : Is → wants ask x k ≡ true
  unfolding wants follows
  is_admitted h = rw (lt-ltb k ask.snapshot h.below, le-leb x ask.reach h.within) (go ask.place refl)
    where
      go : (p : Place) → ask.place ≡ p → F p ≡ true
      go Start is = refl
      go (After n m) is = comes_before ask.order m.distance m.number x k (h.after n m is)

-- ---- by the numbers: not before the first key wanted, and before the end

module _ (reach x k : ℕ) (near : x ≤ most_distance) (stored : k < most_claims) where
  in_reach : (o : Order) → x ≤ reach → (key_at (front_at o reach) 0 ≤ key_at (rank_at o x) k) × (key_at (rank_at o x) k < key_at (behind_at o reach) 0)
  unfolding rank_at front_at behind_at
  in_reach Near h = (omega arith, omega arith)
  in_reach Far h = (omega arith, omega arith)

  reach_in : (o : Order) → key_at (front_at o reach) 0 ≤ key_at (rank_at o x) k → key_at (rank_at o x) k < key_at (behind_at o reach) 0 → x ≤ reach
  unfolding rank_at front_at behind_at
  reach_in Near h g = omega arith
  reach_in Far h g = omega arith

module _ (mx mk x k : ℕ) (near : x ≤ most_distance) (stored : k < most_claims) where
  abbrev Behind : Order → Type 0
  Behind o = key_at (rank_at o (min mx top)) (min mk most_number) + 1 ≤ key_at (rank_at o x) k

  behind_mark : (o : Order) → Comes o mx mk x k → Behind o
  unfolding rank rank_at
  behind_mark Near (inl l) = omega arith
  behind_mark Near (inr e) = omega (arith, e.0, e.1)
  behind_mark Far (inl l) = omega arith
  behind_mark Far (inr e) = omega (arith, e.0, e.1)

  -- behind the mark and at no greater rank
  mark_at_lem : (o : Order) → Behind o → rank o x ≤ rank o mx → (rank o mx ≡ rank o x) × (mk < k)
  unfolding rank rank_at
  mark_at_lem Near h l = (omega arith, omega arith)
  mark_at_lem Far h l = (omega arith, omega arith)

  mark_behind : (o : Order) → Behind o → Comes o mx mk x k
  mark_behind o h = go (ltb (rank o mx) (rank o x)) refl
    where
      go : (u : Bool) → ltb (rank o mx) (rank o x) ≡ u → Comes o mx mk x k
      go true p = inl (ltb-true (rank o mx) (rank o x) p)
      go false p = inr (mark_at_lem o h (ltb-false (rank o mx) (rank o x) p))

module _ (ask : Wanted) (x k : ℕ) (near : x ≤ most_distance) (stored : k < most_claims) where
  abbrev Y : ℕ
  Y = key_at (rank_at ask.order x) k

  pub in_keys : Is ask x k → (low_at ask.order ask.reach ask.place ≤ Y) × (Y < end_at ask.order ask.reach)
  unfolding low_at end_at
  in_keys h = (go ask.place refl, reached.1)
    where
      reached : (key_at (front_at ask.order ask.reach) 0 ≤ Y) × (Y < key_at (behind_at ask.order ask.reach) 0)
      reached = in_reach ask.reach x k near stored ask.order h.within

      go : (p : Place) → ask.place ≡ p → low_at ask.order ask.reach p ≤ Y
      go Start is = reached.0
      go (After n m) is = omega (arith, reached.0, behind_mark m.distance m.number x k near stored ask.order (h.after n m is))

  pub keys_in : k < ask.snapshot → low_at ask.order ask.reach ask.place ≤ Y → Y < end_at ask.order ask.reach → Is ask x k
  unfolding low_at end_at
  keys_in below low end =
      record {
        below = below;
        within = reach_in ask.reach x k near stored ask.order (front ask.place low) end;
        after = λ n m is. mark_behind m.distance m.number x k near stored ask.order (marked n m (rw is at low));
      }
    where
      front : (p : Place) → low_at ask.order ask.reach p ≤ Y → key_at (front_at ask.order ask.reach) 0 ≤ Y
      front Start h = h
      front (After n m) h = omega arith

      marked : (n : ℕ) (m : Mark) → low_at ask.order ask.reach (After n m) ≤ Y → key_at (mark_at ask.order m) (min m.number most_number) + 1 ≤ Y
      marked n m h = omega arith

-- the same by the numbers of a question
module _ (ask : Asked) (x k : ℕ) (near : x ≤ most_distance) (stored : k < most_claims) where
  abbrev K : ℕ
  K = key_at (rank_at ask.order x) k

  pub in_numbers : Is (wanted_by ask) x k → (ask.sought.low ≤ K) × (K < ask.end)
  in_numbers h = let b = in_keys (wanted_by ask) x k near stored h in (rw ask.low_is b.0, rw ask.end_is b.1)

  pub numbers_in : k < ask.sought.snapshot → ask.sought.low ≤ K → K < ask.end → Is (wanted_by ask) x k
  numbers_in below low end = keys_in (wanted_by ask) x k near stored below (rw ask.low_is at low) (rw ask.end_is at end)
