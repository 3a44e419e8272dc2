-- The step of one claim: what putting its key in a room that holds claims makes of it. Assumes nothing.
use Prim.Native.Nat.{ℕ, zero, suc, ◌+◌, ◌-◌, ◌*◌, ◌<◌, ◌≤◌, ◌^◌, min}
use mathlib.Core.Path.{◌≡◌, refl, sym, ap, ◌∙◌}
use mathlib.Core.Logic.{⊎_elim}
use mathlib.Core.Bool.{Bool, true, false}
use mathlib.Core.List.{List, ◌∷◌, ◌++◌}
use native.Mathlib.Omega.{arith}
use native.Mathlib.Nat.{le_refl, eq-or-lt_of_le}
use lib.Dec.{ltb, leb, eqb}
use lib.ListN.{length, take, drop, get_or}
use lib.Seq.{take_all, take_at, take-length}
use borrow.Author.Tests.{ltb-true, ltb-false, leb-true, eqb-true, eqb-false, lt-ltb, le-leb}
use Rattle.paper.specs.declared.orders.Order.{Order}
use Rattle.paper.specs.declared.orders.Order.TheVariants.{Near, Far}
use Rattle.paper.specs.Limits.{most_claims}
use Rattle.paper.specs.Orders.{rank}
use Rattle.paper.proofs.Tests.{no_way}
use Rattle.walk_keep.specs.declared.asked.Asked.{Asked}
use Rattle.walk_keep.specs.Numbers.{most_distance, rank_at, key_at}
use Rattle.walk_keep.specs.Page.{ranks, sooner, insert_by}
use Rattle.walk_keep.specs.Kept.{key, RisingClaims, ok_by, key_by, Holding, WalkLeft, Walked, Pushed, put, held, late, KeepIs}
use Rattle.walk_keep.proofs.Keeping.{sooner_true, key_sooner, rising_at, rising_ok, rising_few, rising_take, insert_rising, one}
use Rattle.walk_keep.proofs.Insertion.{PositionIn, insert_at, insert_same, With, with_length, with_front, with_here, with_behind}
use Rattle.walk_keep.specs.Asked.{wanted_by}
use Rattle.walk_keep.proofs.Admitting.{Is, admitted_is, is_admitted, in_numbers, numbers_in}
use Rattle.walk_keep.proofs.Walks.{walked_still}

-- ---- a key of 48 bits is the order's key, less what far order's ranks have in common

unfoldable pub above : Order → ℕ
above Near = 0
above Far = (2 ^ 64 - 2 ^ 36) * most_claims

pub key_is : (ask : Asked) (dist : ℕ → ℕ) (k : ℕ) → dist k ≤ most_distance → key (ranks ask.order dist) k ≡ key_by ask dist k + above ask.order
unfolding rank rank_at above
key_is ask dist k h = go ask.order
  where
    go : (o : Order) → key (ranks o dist) k ≡ key_at (rank_at o (dist k)) k + above o
    go Near = omega arith
    go Far = omega arith

-- ---- a key put in a room that holds claims

module _ (ask : Asked) (dist : ℕ → ℕ) (k y : ℕ) (stored : k < most_claims) (near : dist k ≤ most_distance) (is : y ≡ key_by ask dist k) where
  abbrev R : ℕ → ℕ
  R = ranks ask.order dist

  -- at item i of a room is claim c, which was measured
  abbrev Has : ℕ → ℕ → Type 0
  Has v c = (v ≡ key_by ask dist c) × (dist c ≤ most_distance)

  own : key R k ≡ y + above ask.order
  own = key_is ask dist k near ∙ ap (λ (u : ℕ). u + above ask.order) (sym is)

  module _ (o l : List ℕ) (h : Holding ask dist o l) where
    stored_at : (i : ℕ) → i < length l → get_or l i 0 < most_claims
    stored_at i hi = omega (arith, (rising_at R (ok_by ask dist) ask.sought.snapshot ask.sought.size zero l i h.rising hi).1, ask.stored)

    key_at_lem : (i : ℕ) → i < length l → key R (get_or l i 0) ≡ get_or o i 0 + above ask.order
    key_at_lem i hi = key_is ask dist (get_or l i 0) (h.near i hi) ∙ ap (λ (u : ℕ). u + above ask.order) (sym (h.keys i hi))

    -- a place that is not at the end is a claim's
    claimed : (i : ℕ) → i < ask.sought.size → (get_or o i 0 ≡ ask.end → ⊥) → i < length l
    claimed i hi ne = go (ltb i (length l)) refl
      where
        go : (u : Bool) → ltb i (length l) ≡ u → i < length l
        go true p = ltb-true i (length l) p
        go false p = absurd (ne (h.ends i (ltb-false i (length l) p) hi))

    -- the claim that is at key y
    same_claim : (i : ℕ) → i < length l → get_or o i 0 ≡ y → get_or l i 0 ≡ k
    same_claim i hi e = omega (arith, key_at_lem i hi, own, stored_at i hi)

    module _ (ok : ok_by ask dist k ≡ true) where
      admits : Is (wanted_by ask) (dist k) k
      admits = admitted_is (wanted_by ask) (dist k) k ok

      ends_behind : y < ask.end
      ends_behind = rw is (in_numbers ask (dist k) k near stored admits).1

      abbrev After : List ℕ
      After = take ask.sought.size (insert_by R k l)

      rises : RisingClaims R (ok_by ask dist) ask.sought.snapshot ask.sought.size zero After
      rises =
          rising_take R (ok_by ask dist) ask.sought.snapshot ask.sought.size (suc ask.sought.size) zero (insert_by R k l)
          (insert_rising R (ok_by ask dist) ask.sought.snapshot k ask.stored admits.below ask.sought.size zero l (omega arith) ok h.rising)

      -- where nothing moves
      stays : insert_by R k l ≡ l → After ≡ l
      stays e = ap (take ask.sought.size) e ∙ take_all ask.sought.size l (rising_few R (ok_by ask dist) ask.sought.snapshot ask.sought.size zero l h.rising)

      found : (i : ℕ) → i < ask.sought.size → get_or o i 0 ≡ y → Holding ask dist o After
      found i hi e =
          let here : i < length l = claimed i hi (λ q. omega (arith, ends_behind)) in
          rw (stays (insert_same R (ok_by ask dist) ask.sought.snapshot k ask.stored admits.below ask.sought.size zero l i h.rising here (same_claim i here e))) h

      module _ (p : ℕ) (within : p ≤ length l) (front : 0 < p → get_or o (p - 1) 0 < y) (behind : p < length l → y < get_or o p 0) where
        position : PositionIn R l k p
        position =
            record {
              few = within;
              front = λ i e.
                  let w : p - 1 ≡ i = omega arith in
                  let f : get_or o i 0 < y = rw w at (front (omega arith)) in
                  key_sooner R (get_or l i 0) k (stored_at i (omega arith)) stored (omega (arith, key_at_lem i (omega arith), own));
              behind = λ hp. go hp (sooner R (get_or l p 0) k) refl;
            }
          where
            go : p < length l → (u : Bool) → sooner R (get_or l p 0) k ≡ u → u ≡ false
            go hp true q = absurd (omega (arith, sooner_true R (get_or l p 0) k (stored_at p hp) stored q, key_at_lem p hp, own, behind hp))
            go hp false q = refl

        inserted : insert_by R k l ≡ take p l ++ (k ∷ drop p l)
        inserted =
            insert_at R (ok_by ask dist) ask.sought.snapshot k ask.stored admits.below ask.sought.size zero l p h.rising position
            (λ hp e. let c : key R (get_or l p 0) ≡ key R k = ap (key R) e in omega (arith, key_at_lem p hp, own, behind hp))

      -- in its place
      module _ (p : ℕ) (within : p ≤ length l) (few : p < ask.sought.size) (front : 0 < p → get_or o (p - 1) 0 < y) (last : y < get_or o p 0) (o' : List ℕ) (long : length o' ≡ length o)
          (same : (i : ℕ) → i < p → get_or o' i 0 ≡ get_or o i 0) (here : get_or o' p 0 ≡ y) (moved : (i : ℕ) → p < i → i < ask.sought.size → get_or o' i 0 ≡ get_or o (i - 1) 0) where
        abbrev N : List ℕ
        N = With l k p ask.sought.size within

        few_in : length N ≡ min ask.sought.size (length l + 1)
        few_in = with_length l k p ask.sought.size within

        has : (i : ℕ) → i < length N → Has (get_or o' i 0) (get_or N i 0)
        has i hi = go (ltb i p) (eqb i p) refl refl
          where
            go : (u v : Bool) → ltb i p ≡ u → eqb i p ≡ v → Has (get_or o' i 0) (get_or N i 0)
            go true v q r =
                let l' : i < p = ltb-true i p q in
                rw (with_front l k p ask.sought.size within i l' (omega (arith, few_in)), same i l') (h.keys i (omega arith), h.near i (omega arith))
            go false true q r = rw (eqb-true i p r, with_here l k p ask.sought.size within few, here) (is, near)
            go false false q r =
                let b : p < i = omega (arith, ltb-false i p q, eqb-false i p r) in
                rw (with_behind l k p ask.sought.size within i b (omega (arith, few_in)), moved i b (omega (arith, few_in)))
                (h.keys (i - 1) (omega (arith, few_in)), h.near (i - 1) (omega (arith, few_in)))

        behind_ends : (i : ℕ) → length N ≤ i → i < ask.sought.size → get_or o' i 0 ≡ ask.end
        behind_ends i hi hs = moved i (omega (arith, few_in)) hs ∙ h.ends (i - 1) (omega (arith, few_in)) (omega arith)

        put_in : Holding ask dist o' After
        put_in =
            let e : After ≡ N = ap (take ask.sought.size) (inserted p within front (λ _. last)) in
            rw e
            (record {
              keys = λ i hi. (has i hi).0;
              ends = behind_ends;
              near = λ i hi. (has i hi).1;
              rising = rw (← e) rises;
            })

      -- the place of a key before the end is not behind the claims
      before_ends : (p : ℕ) → p < ask.sought.size → (0 < p → get_or o (p - 1) 0 < y) → p ≤ length l
      before_ends zero hp front = omega arith
      before_ends (suc p) hp front = claimed p (omega arith) (λ q.
          let w : suc p - 1 ≡ p = omega arith in
          let f : get_or o p 0 < y = rw w at (front (omega arith)) in
          omega (arith, ends_behind))

      -- behind all
      past : get_or o (ask.sought.size - 1) 0 < y → Holding ask dist o After
      past last =
          let here : ask.sought.size - 1 < length l = claimed (ask.sought.size - 1) (omega (arith, ask.sought.some)) (λ q. omega (arith, ends_behind)) in
          let whole : length l ≡ ask.sought.size = omega (arith, rising_few R (ok_by ask dist) ask.sought.snapshot ask.sought.size zero l h.rising) in
          let w : ask.sought.size - 1 ≡ length l - 1 = omega arith in
          let i = inserted (length l) (le_refl (length l)) (λ _. rw (← w) last) (λ hp. absurd (omega arith)) in
          let same : After ≡ l = ap (take ask.sought.size) (i ∙ ap (λ (z : List ℕ). z ++ (k ∷ drop (length l) l)) (take-length l)) ∙ take_at l (k ∷ drop (length l) l) ask.sought.size whole in
          rw same h

      stepped : (o' : List ℕ) → Pushed ask.sought.size y o o' → Holding ask dist o' After
      stepped o' (put p long hp front last same here moved) = put_in p (before_ends p hp front) hp front last o' long same here moved
      stepped o' (held p hp e same) = rw same (found p hp e)
      stepped o' (late last same) = rw same (⊎_elim (λ e. found (ask.sought.size - 1) (omega (arith, ask.sought.some)) e) past (eq-or-lt_of_le last))

    -- a key that is not before the end is not put
    kept_out : ask.end ≤ y → (o' : List ℕ) → Pushed ask.sought.size y o o' → o' ≡ o
    kept_out late' o' (put p long hp front last same here moved) = absurd (go (ltb p (length l)) refl)
      where
        go : (u : Bool) → ltb p (length l) ≡ u → ⊥
        go true q =
            let hi : p < length l = ltb-true p (length l) q in
            let b = in_numbers ask (dist (get_or l p 0)) (get_or l p 0) (h.near p hi) (stored_at p hi) (admitted_is (wanted_by ask) (dist (get_or l p 0)) (get_or l p 0) (rising_ok R (ok_by ask dist) ask.sought.snapshot ask.sought.size zero l p h.rising hi)) in
            omega (arith, b.1, h.keys p hi)
        go false q = omega (arith, h.ends p (ltb-false p (length l) q) hp)
    kept_out late' o' (held p hp e same) = same
    kept_out late' o' (late last same) = same

  -- the step of claim k
  pub claim_step : (o o' : List ℕ) → KeepIs ask.sought k y o o' → Walked ask dist (λ j. j ≡ k) o o'
  claim_step o o' g l h = go (ok_by ask dist k) refl
    where
      taken : k < ask.sought.snapshot → ask.sought.low ≤ y → Pushed ask.sought.size y o o'
      taken below low = g.put (rw (lt-ltb k ask.sought.snapshot below, le-leb ask.sought.low y low))

      late' : k < ask.sought.snapshot → ask.sought.low ≤ y → ok_by ask dist k ≡ false → (u : Bool) → ltb y ask.end ≡ u → ask.end ≤ y
      late' below low off false q = ltb-false y ask.end q
      late' below low off true q =
          absurd (no_way (sym (is_admitted (wanted_by ask) (dist k) k (numbers_in ask (dist k) k near stored below (rw (← is) low) (rw (← is) (ltb-true y ask.end q)))) ∙ off))

      out : (u v : Bool) → ltb k ask.sought.snapshot ≡ u → leb ask.sought.low y ≡ v → ok_by ask dist k ≡ false → o' ≡ o
      out false v p q off = g.left (rw p)
      out true false p q off = g.left (rw (p, q))
      out true true p q off =
          let below : k < ask.sought.snapshot = ltb-true k ask.sought.snapshot p in
          let low : ask.sought.low ≤ y = leb-true ask.sought.low y q in
          kept_out o l h (late' below low off (ltb y ask.end) refl) o' (taken below low)

      go : (u : Bool) → ok_by ask dist k ≡ u → WalkLeft ask dist (λ j. j ≡ k) l o'
      go true ok =
          let i : Is (wanted_by ask) (dist k) k = admits o l h ok in
          let b = in_numbers ask (dist k) k near stored i in
          record {
            kept = take ask.sought.size (insert_by R k l);
            holds = stepped o l h ok o' (taken i.below (rw is b.0));
            is = one R (ok_by ask dist) ask.sought.snapshot ask.sought.size k l ask.stored i.below ok h.rising;
          }
      go false off =
          rw (out (ltb k ask.sought.snapshot) (leb ask.sought.low y) refl refl off)
          (walked_still ask dist (λ j. j ≡ k) o (λ l g j e yes'. absurd (no_way (sym yes' ∙ rw e off))) l h)
