-- Why a side may be skipped, by a question: from distances that obey the triangle inequality both ways round, whatever they
-- are. Claim k is measured, claim j is not. Assumes nothing.
use Prim.Native.Nat.{ℕ, zero, suc, ◌+◌, ◌-◌, ◌<◌, ◌≤◌, min, max}
use mathlib.Core.Path.{◌≡◌, refl, sym, ap}
use mathlib.Core.Logic.{⊎_elim}
use mathlib.Core.Bool.{Bool, true, false}
use mathlib.Core.List.{List}
use native.Mathlib.Omega.{arith}
use lib.Dec.{ltb}
use lib.ListN.{length, get_or}
use borrow.Author.Tests.{ltb-true, ltb-false, leb-true}
use Rattle.paper.specs.declared.orders.Order.{Order}
use Rattle.paper.specs.declared.orders.Order.TheVariants.{Near, Far}
use Rattle.paper.specs.Limits.{most_claims}
use Rattle.paper.specs.Orders.{is_far, rank}
use Rattle.paper.proofs.Tests.{no_way}
use Rattle.paper.specs.declared.orders.Mark.{Mark}
use Rattle.paper.specs.declared.orders.Place.{Place}
use Rattle.paper.specs.declared.orders.Place.TheVariants.{Start, After}
use Rattle.walk_keep.specs.declared.asked.Asked.{Asked}
use Rattle.walk_keep.specs.Numbers.{most_distance, top, rank_at, key_at, front_at, behind_at, mark_at, first_at, end_at, half_at}
use Rattle.walk_keep.specs.Asked.{Wanted, wants, wanted_by, admitted}
use Rattle.walk_keep.specs.Page.{ranks}
use Rattle.walk_keep.specs.Kept.{key, RisingClaims, Covered, ok_by, Holding}
use Rattle.walk_keep.specs.Skips.{passed_at, beyond_at}
use Rattle.walk_keep.proofs.Keeping.{rising_at, rising_few, rising_covers}
use Rattle.walk_keep.proofs.Admitting.{Is, admitted_is}

-- ---- in numbers

-- claim j is e from claim k, which is dk from the probe, and within `far` of it
module _ (dk dj e far : ℕ) (near : dk ≤ most_distance) (there : dk ≤ e + dj) (back : dj ≤ e + dk) (within : e ≤ far) where
  before_reach : (o : Order) (reach : ℕ) → rank_at o dk < front_at o reach - far → reach < dj
  unfolding rank_at front_at
  before_reach Near reach h = absurd (omega arith)
  before_reach Far reach h = omega arith

  before_mark : (o : Order) (mx : ℕ) → rank_at o dk < rank_at o (min mx top) - far → rank o dj < rank o mx
  unfolding rank rank_at
  before_mark Near mx h = omega arith
  before_mark Far mx h = omega arith

  -- [4.15] all below the side comes before the first rank wanted
  pub passed_none : (ask : Wanted) (x j : ℕ) → x ≡ rank_at ask.order dk → ltb x (first_at ask.order ask.reach ask.place - far) ≡ true → wants ask dj j ≡ true → ⊥
  unfolding first_at
  passed_none ask x j is test ok = go ask.place refl (rw is at (ltb-true x (first_at ask.order ask.reach ask.place - far) test))
    where
      i : Is ask dj j
      i = admitted_is ask dj j ok

      front : rank_at ask.order dk < front_at ask.order ask.reach - far → ⊥
      front h = omega (arith, before_reach ask.order ask.reach h, i.within)

      mark : (n : ℕ) (m : Mark) → ask.place ≡ After n m → rank_at ask.order dk < mark_at ask.order m - far → ⊥
      mark n m p h = let b = before_mark ask.order m.distance h in ⊎_elim (λ l. omega arith) (λ r. omega (arith, r.0)) (i.after n m p)

      go : (p : Place) → ask.place ≡ p → rank_at ask.order dk < first_at ask.order ask.reach p - far → ⊥
      go Start p h = front h
      go (After n m) p h = way (ltb (rank_at ask.order dk) (mark_at ask.order m - far)) refl
        where
          way : (u : Bool) → ltb (rank_at ask.order dk) (mark_at ask.order m - far) ≡ u → ⊥
          way true q = mark n m p (ltb-true (rank_at ask.order dk) (mark_at ask.order m - far) q)
          way false q = front (omega (arith, ltb-false (rank_at ask.order dk) (mark_at ask.order m - far) q))

  -- the same by the numbers of a question
  pub passed_by : (ask : Asked) (x j : ℕ) → x ≡ rank_at ask.order dk → passed_at ask.first x far ≡ true → admitted ask dj j ≡ true → ⊥
  unfolding passed_at
  passed_by ask x j is test ok = passed_none (wanted_by ask) x j is (rw ask.first_is at test) ok

  -- what is at rank `least` or behind in near order, and numbered from f on
  module _ (least f j : ℕ) (small : least ≤ most_distance) (later : f ≤ j) (stored : j < most_claims) where
    abbrev Bound : Order → ℕ
    Bound o = key_at (max (rank_at o dk - far) least) f

    abbrev Halfway : Order → Type 0
    Halfway o = (o ≡ Near → least ≤ dj) × (o ≡ Far → least ≡ 0)

    not_end : (o : Order) (reach : ℕ) → Halfway o → dj ≤ reach → key_at (behind_at o reach) 0 ≤ Bound o → ⊥
    unfolding rank_at behind_at
    not_end Near reach h r l = let b = h.0 refl in omega arith
    not_end Far reach h r l = let b = h.1 refl in omega arith

    not_before : (o : Order) (dc c : ℕ) → dc ≤ most_distance → c < most_claims → Halfway o → key_at (rank_at o dc) c ≤ Bound o → key_at (rank o dc) c ≤ key_at (rank o dj) j
    unfolding rank rank_at
    not_before Near dc c hc sc h l = let b = h.0 refl in omega arith
    not_before Far dc c hc sc h l = let b = h.1 refl in omega arith

-- ---- in a room

-- [4.14] the half of a side, whose claim is at distance dk and rank x, and the other's, nearer, at dn and rank y; in far order there is none
pub half_way : (o : Order) (dk dn dj e eo s x y : ℕ) → dk ≤ most_distance → x ≡ rank_at o dk → y ≡ rank_at o dn → y ≤ x → s < 2 → dk ≤ e + dj → eo ≤ dn + dj → e + s ≤ eo
    → (half_at o (x - y) s ≤ most_distance) × ((o ≡ Near → half_at o (x - y) s ≤ dj) × (o ≡ Far → half_at o (x - y) s ≡ 0))
unfolding half_at rank_at
half_way Near dk dn dj e eo s x y near px py closer hs there between side = (omega arith, ((λ _. omega arith), λ q. absurd (near_far q)))
  where
    near_far : ◌≡◌ {A = Order} Near Far → ⊥
    near_far q = no_way (ap is_far (sym q))
half_way Far dk dn dj e eo s x y near px py closer hs there between side = (omega arith, ((λ _. omega arith), λ _. refl))

module _ (ask : Asked) (dist : ℕ → ℕ) (o l : List ℕ) (h : Holding ask dist o l) (j : ℕ) (ok : ok_by ask dist j ≡ true) where
  abbrev R : ℕ → ℕ
  R = ranks ask.order dist

  stored : j < most_claims
  stored = omega (arith, (admitted_is (wanted_by ask) (dist j) j ok).below, ask.stored)

  -- so many claims, the last of which does not come behind j
  covered_last : (n : ℕ) → 0 < n → RisingClaims R (ok_by ask dist) ask.sought.snapshot n zero l → length l ≡ n → key R (get_or l (n - 1) 0) ≤ key R j → Covered R j n l
  covered_last zero some rising len last = absurd (omega arith)
  covered_last (suc n) some rising len last =
      let w : suc n - 1 ≡ n = omega arith in
      rising_covers R (ok_by ask dist) ask.sought.snapshot n zero j l ask.stored stored rising len (rw w at last)

  -- [4.13] [4.14] nothing below the side comes before the last key kept
  pub beyond_covered : (dk e far least f x : ℕ) → dk ≤ most_distance → dk ≤ e + dist j → dist j ≤ e + dk → e ≤ far → least ≤ most_distance
      → (ask.order ≡ Near → least ≤ dist j) × (ask.order ≡ Far → least ≡ 0) → f ≤ j → x ≡ rank_at ask.order dk → beyond_at ask.sought x far least f o ≡ true → Covered R j ask.sought.size l
  unfolding beyond_at end_at
  beyond_covered dk e far least f x near there back within small halfway later is test = go (ltb (length l) ask.sought.size) refl
    where
      last : get_or o (ask.sought.size - 1) 0 ≤ Bound dk (dist j) e far near there back within least f j small later stored ask.order
      last = rw is at (leb-true (get_or o (ask.sought.size - 1) 0) _ test)

      go : (u : Bool) → ltb (length l) ask.sought.size ≡ u → Covered R j ask.sought.size l
      go true q =
          let end = h.ends (ask.sought.size - 1) (omega (arith, ltb-true (length l) ask.sought.size q)) (omega (arith, ask.sought.some)) in
          absurd (not_end dk (dist j) e far near there back within least f j small later stored ask.order ask.reach halfway (admitted_is (wanted_by ask) (dist j) j ok).within (rw (end, ask.end_is) at last))
      go false q =
          let len : length l ≡ ask.sought.size = omega (arith, ltb-false (length l) ask.sought.size q, rising_few R (ok_by ask dist) ask.sought.snapshot ask.sought.size zero l h.rising) in
          let hi : ask.sought.size - 1 < length l = omega (arith, ask.sought.some) in
          let b = rising_at R (ok_by ask dist) ask.sought.snapshot ask.sought.size zero l (ask.sought.size - 1) h.rising hi in
          covered_last ask.sought.size ask.sought.some h.rising len
          (not_before dk (dist j) e far near there back within least f j small later stored ask.order (dist (get_or l (ask.sought.size - 1) 0)) (get_or l (ask.sought.size - 1) 0)
          (h.near (ask.sought.size - 1) hi) (omega (arith, b.1, ask.stored)) halfway (rw (h.keys (ask.sought.size - 1) hi) at last))
