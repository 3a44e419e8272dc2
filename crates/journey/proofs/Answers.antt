-- The present ask of a list is in range and is answered; the answer is in range, and is taken. Assumes nothing.
use Prim.Native.Nat.{ℕ, ◌+◌, ◌-◌, ◌<◌, ◌≤◌, ◌^◌}
use mathlib.Core.Path.{◌≡◌, refl, sym, ap, ◌∙◌, subst}
use mathlib.Core.Bool.{Bool, true, false, cond, ◌||◌}
use mathlib.Core.List.{List, ◌++◌}
use native.Mathlib.Omega.{arith}
use lib.ListN.{length, take, length-take, length-append}
use lib.Dec.{leb, eqb}
use borrow.Author.Tests.{ltb-true, leb-true, lt-ltb, le-leb, eq-eqb}
use Rattle.paper.specs.declared.orders.Place.{Place}
use Rattle.paper.specs.declared.orders.Place.TheVariants.{Start, After}
use Rattle.paper.specs.Points.{zero_claim}
use Rattle.paper.specs.declared.orders.Item.{Item}
use Rattle.paper.specs.Orders.{no_item, Query, item_of, listed, snapshot_of, following, page_of, last_of, snapshot_holds, mark_holds}
use Rattle.paper.specs.Points.{in_range}
use Rattle.paper.specs.Outcomes.{gives}
use Rattle.paper.specs.Ends.{Ask, Answer, Table, count, matches, answer_of, answer_to, Listing, last_item, mark_of, present_place, present_ask, rising, every, fitting, started_well, sound_in, to_present, page_holds, joined_to, taken}
use Rattle.paper.proofs.Tests.{and_first, and_second, and_both, or_right, or_left, false_not}
use Rattle.paper.proofs.Outcomes.{must_test, must_rest, must_go, same_given}
use Rattle.orders.proofs.Lists.{All, all_map, all_take, all_get_d, all_mem, all_of_mem, every_true, every_all}
use Rattle.orders.proofs.Sorted.{rising_take, rising_rest, rising_test, IsOf, listed_are, listed_rising, rest_follows, all_rest}
use Rattle.orders.proofs.Page.{last_all, last_more, last_some}
use Rattle.orders.proofs.Taking.{present_start, present_after, query_same, place_same}
use Rattle.orders.specs.LawfulLines.{QueryInRange, PlaceInRange, AskInRange, ItemInRange, AnswerInRange}
use Rattle.journey.specs.World.{TableOk}
use Rattle.journey.proofs.Kept.{ListTrue, after, VouchedExactly, kept_are, is_fitting}
use Rattle.paper.specs.Limits.{most_claims, most_page}

-- ---- the present ask is in range

-- what a sound list says of its present place
record Parts (L : Listing) : Type 0 where
  small : L.snapshot ≤ most_claims
  fit : All (λ x. fitting L.query.reach L.snapshot x ≡ true) L.items
  some : L.started ≡ true → L.complete ≡ false → 1 ≤ length L.items

parts : (room : ℕ) (L : Listing) → sound_in room L ≡ true → Parts L
unfolding sound_in started_well
parts room L e =
    let e1 = and_second (in_range L.query.measure L.query.d) _ e in
    let e2 = and_second (eqb (length L.query.probe) L.query.d) _ e1 in
    let e3 = and_second (leb L.snapshot most_claims) _ e2 in
    let e4 = and_second (leb (length L.items) room) _ e3 in
    let e5 = and_second (rising L.query.order L.items) _ e4 in
    let e6 = and_second (every (fitting L.query.reach L.snapshot) L.items) _ e5 in
    record {
      small = leb-true L.snapshot most_claims (and_first _ _ e2);
      fit = every_all _ L.items (and_first _ _ e5);
      some = λ p c. let e7 : (leb 1 (length L.items) || L.complete) ≡ true = rw p at e6 in leb-true _ _ (or_left _ _ e7 c);
    }

-- a sound list's place is in range
present_ok : (room : ℕ) (L : Listing) → QueryInRange L.query → sound_in room L ≡ true → L.complete ≡ false → PlaceInRange (present_place L)
present_ok room L ok e c = go L.started refl (parts room L e)
  where
    go : (b : Bool) → L.started ≡ b → Parts L → PlaceInRange (present_place L)
    go false p s = subst PlaceInRange (sym (present_start L p)) tt
    go true p s =
        let j : 1 ≤ length L.items = s.some p c in
        let f = all_get_d _ L.items (length L.items - 1) no_item s.fit (omega arith) in
        let f1 : (last_item L.items).distance ≤ L.query.reach = leb-true _ _ (and_first _ _ f) in
        let f2 : (last_item L.items).number < L.snapshot = ltb-true _ _ (and_second (leb (last_item L.items).distance L.query.reach) _ f) in
        subst PlaceInRange (sym (present_after L p))
        (record { snapshot = s.small; distance = omega (arith, ok.typed.reach); number = omega (arith, s.small) })

pub asked_ok : (room n : ℕ) (L : Listing) → QueryInRange L.query → sound_in room L ≡ true → L.complete ≡ false → 1 ≤ n → n ≤ most_page → AskInRange (present_ask L n)
asked_ok room n L ok e c one most = record { query = ok; place = present_ok room L ok e c; one = one; most = most }

-- ---- the answer is in range, and vouched for

-- what the office gives is in range, and vouched for
after_are : (t : Table) (q : Query) (p : Place) (s : ℕ) → All (IsOf q t.claims s) (after t q p s)
after_are t q p s = all_rest q.order _ p _ (listed_are q t.claims s)

item_ok : (t : Table) (q : Query) (s : ℕ) → TableOk t → QueryInRange q → s ≤ count t → (x : Item) → IsOf q t.claims s x → ItemInRange x
unfolding item_of
item_ok t q s tok qok small x p =
    record {
      number = omega (arith, p.below, tok.fits, tok.small);
      reference = rw p.is
          (all_get_d (λ k. k.reference < 2 ^ 32) t.claims x.number zero_claim (all_of_mem _ t.claims tok.references) (omega (arith, p.below)));
      distance = omega (arith, p.within, qok.typed.reach);
    }

used_again : (p : Place) (n : ℕ) → snapshot_of p (snapshot_of p n) ≡ snapshot_of p n
used_again Start n = refl
used_again (After k m) n = refl

pub answer_is_ok : (t : Table) (a : Ask) → TableOk t → AskInRange a → snapshot_of a.place (count t) ≤ count t → AnswerInRange (answer_of t a)
unfolding answer_of page_of following
answer_is_ok t a tok ok small =
    record {
      query = ok.query;
      place = ok.place;
      snapshot = omega (arith, small, tok.fits, tok.small);
      used = used_again a.place (count t);
      few = omega (arith, ok.most, length-take a.size (after t a.query a.place (snapshot_of a.place (count t))));
      items = λ x m. item_ok t a.query _ tok ok.query small x
          (all_mem _ x _ (all_take _ a.size _ (after_are t a.query a.place (snapshot_of a.place (count t)))) m);
    }

-- how the office came to an answer
pub record Replied (t : Table) (a : Ask) (y : Answer) : Type 0 where
  pub ours : matches t a.query ≡ true
  pub held : snapshot_of a.place (count t) ≤ count t
  pub is : y ≡ answer_of t a

pub replied : (t : Table) (a : Ask) (y : Answer) → answer_to t a ≡ gives y → Replied t a y
unfolding answer_to snapshot_holds
replied t a y e =
    let e1 = must_rest (matches t a.query) 11 _ _ e in
    let e2 = must_rest (snapshot_holds t.claims a.place) 7 _ _ e1 in
    record {
      ours = must_test (matches t a.query) 11 _ _ e;
      held = leb-true _ _ (must_test (snapshot_holds t.claims a.place) 7 _ _ e1);
      is = sym (same_given _ _ (must_rest (mark_holds a.query t.claims a.place) 8 _ _ e2));
    }

pub answer_vouched : (t : Table) (a : Ask) → matches t a.query ≡ true → snapshot_of a.place (count t) ≤ count t → 1 ≤ a.size
    → VouchedExactly t (answer_of t a)
unfolding answer_of page_of following
answer_vouched t a ours held one =
    let f : List Item = after t a.query a.place (snapshot_of a.place (count t)) in
    record {
      vouched =
          record {
            ours = ours;
            held = held;
            size = a.size;
            one = one;
            page = refl;
            all = λ p. last_all a.size f p;
            full = λ p. omega (arith, last_more a.size f p);
          };
      more = λ p. last_more a.size f p;
    }

-- ---- the ask is answered

-- the mark of a list's ask holds
module _ (t : Table) (L : Listing) (k : ListTrue t L) (c : L.complete ≡ false) where
  mark_holds_lem : mark_holds L.query t.claims (present_place L) ≡ true
  unfolding mark_holds
  mark_holds_lem = go L.started refl
    where
      go : (b : Bool) → L.started ≡ b → mark_holds L.query t.claims (present_place L) ≡ true
      go false p = ap (λ (r : Place). mark_holds L.query t.claims r) (present_start L p)
      go true p =
          let i : length L.items - 1 < length L.items = omega (arith, k.going p c) in
          let f = all_get_d _ L.items (length L.items - 1) no_item (kept_are t L k) i in
          ap (λ (r : Place). mark_holds L.query t.claims r) (present_after L p)
          ∙ and_both _ _ (lt-ltb _ _ f.below) (and_both _ _ (eq-eqb _ _ (ap (λ (x : Item). x.distance) f.is)) (le-leb _ _ f.within))

  pub present_snapshot : snapshot_of (present_place L) (count t) ≡ cond L.started L.snapshot (count t)
  unfolding present_place
  present_snapshot = go L.started
    where
      go : (b : Bool) → snapshot_of (cond b (After L.snapshot (mark_of (last_item L.items))) Start) (count t) ≡ cond b L.snapshot (count t)
      go true = refl
      go false = refl

  pub present_held : snapshot_of (present_place L) (count t) ≤ count t
  present_held = rw present_snapshot (go L.started)
    where
      go : (b : Bool) → cond b L.snapshot (count t) ≤ count t
      go true = k.held
      go false = omega arith

  pub present_answered : (n : ℕ) → matches t L.query ≡ true → answer_to t (present_ask L n) ≡ gives (answer_of t (present_ask L n))
  unfolding answer_to snapshot_holds
  present_answered n ours = must_go _ _ _ ours ∙ must_go _ _ _ (le-leb _ _ present_held) ∙ must_go _ _ _ mark_holds_lem

-- ---- the answer is taken

-- the answer passes 14
page_holds_lem : (t : Table) (a : Ask) → 1 ≤ a.size → page_holds (answer_of t a) ≡ true
unfolding page_holds answer_of page_of following
page_holds_lem t a one =
    and_both _ _ (rising_test _ _ (rising_take _ a.size _ (rising_rest _ a.place _ (listed_rising a.query t.claims s))))
    (and_both _ _ (every_true _ _ (all_take _ a.size _ (rest_follows a.query.order a.place (listed a.query t.claims s))))
    (and_both _ _ (every_true _ _ (all_map _ _ (λ x q. is_fitting a.query t.claims s x q) (take a.size f) (all_take (IsOf a.query t.claims s) a.size f (after_are t a.query a.place s))))
    (go (last_of a.size f) refl)))
  where
    s : ℕ
    s = snapshot_of a.place (count t)

    f : List Item
    f = after t a.query a.place s

    go : (b : Bool) → last_of a.size f ≡ b → (leb 1 (length (take a.size f)) || b) ≡ true
    go true q = or_right (leb 1 (length (take a.size f))) true refl
    go false q = rw (le-leb 1 (length (take a.size f)) (last_some a.size f one q))

-- and 13, and is taken
module _ (t : Table) (L : Listing) (n : ℕ) where
  to_present_lem : to_present L (answer_of t (present_ask L n)) ≡ true
  unfolding to_present answer_of
  to_present_lem = and_both _ _ (query_same L.query) (place_same (present_place L))

  pub reply_taken : (room : ℕ) → L.complete ≡ false → 1 ≤ n → length (L.items ++ (answer_of t (present_ask L n)).items) ≤ room
      → taken room L (answer_of t (present_ask L n)) ≡ gives (joined_to L (answer_of t (present_ask L n)))
  unfolding taken
  reply_taken room c one fits =
      let y : Answer = answer_of t (present_ask L n) in
      let f : length L.items + length y.items ≤ room = omega (arith, length-append L.items y.items) in
      must_go _ _ _ (false_not _ c) ∙ must_go _ _ _ to_present_lem ∙ must_go _ _ _ (page_holds_lem t (present_ask L n) one) ∙ must_go _ _ _ (le-leb _ _ f)
