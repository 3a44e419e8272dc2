-- An answer taken by a list: what its page has to be, what soundness says of the list, and what each way through taking gives. Assumes nothing.
use Prim.Native.Nat.{ℕ, zero, suc, ◌+◌, ◌-◌, ◌*◌, ◌/◌, ◌<◌, ◌≤◌}
use mathlib.Core.Path.{◌≡◌, refl, sym, ap, ◌∙◌}
use mathlib.Core.Bool.{Bool, true, false, not, ◌&&◌, ◌||◌}
use mathlib.Core.List.{List, [], ◌∷◌, ◌++◌}
use native.Mathlib.Nat.{mul_comm}
use native.Mathlib.Omega.{arith}
use lib.Dec.{leb, eqb}
use lib.ListN.{length, get_or, take, length-append}
use lib.Seq.{paste}
use borrow.Author.Tests.{le-leb, lt-leb, leb-true, ltb-true}
use Rattle.paper.specs.declared.lines.Answer.{Answer}
use Rattle.paper.specs.declared.lists.List as lists
use Rattle.paper.specs.declared.orders.Order.{Order}
use Rattle.paper.specs.declared.orders.Place.{Place}
use Rattle.paper.specs.declared.orders.Item.{Item}
use Rattle.paper.specs.Orders.{no_item, follows, flat, fronted}
use Rattle.paper.specs.Ends.{every, rising, fitting, to_present, page_holds, started_well, sound_in, joined_to, taken, Listing}
use Rattle.paper.specs.Lists.{Takes, taken_shown, put_items, held, items_in, listing, held_well, sound_held}
use Rattle.paper.specs.Codec.{place_in, answer_meant}
use Rattle.paper.specs.Outcomes.{Outcome, refused, gives, must}
use Rattle.paper.specs.Points.{in_range}
use Rattle.paper.proofs.Tests.{and_first, and_second, never}
use Rattle.paper.proofs.Outcomes.{must_stop, must_go, promise_refused, promise_given}
use Rattle.orders.proofs.Rooms.{length_in, flat_in, flat_append}
use Rattle.end_tablet.specs.Holding.{items_hold, started_by, AskReady, joined_fields}
use Rattle.end_tablet.proofs.ItemLaws.{item_at, pass_means, item_get}
use Rattle.paper.specs.Limits.{most_claims}

-- ---- the page

module _ (y : Answer) (u : Place) (ue : u ≡ place_in y.scope) (a : Bool)
    (ae : a ≡ items_hold y.query.order u y.query.reach y.scope.snapshot (items_in y.count y.items)) where
  abbrev o : Order
  o = y.query.order

  page_splits : page_holds (answer_meant y) ≡ a && (leb 1 y.count || eqb y.last 1)
  unfolding page_holds answer_meant
  page_splits =
      rw (ae, ue, pass_means o (place_in y.scope) y.query.reach y.scope.snapshot (items_in y.count y.items), length_in y.count y.items)
      (and_group (rising o (items_in y.count y.items)) (every (follows o (place_in y.scope)) (items_in y.count y.items))
      (every (fitting y.query.reach y.scope.snapshot) (items_in y.count y.items)) (leb 1 y.count || eqb y.last 1))
    where
      and_group : (r w f e : Bool) → r && (w && (f && e)) ≡ (r && (w && f)) && e
      and_group true true f e = refl
      and_group true false f e = refl
      and_group false w f e = refl

  pub page_items : a ≡ false → false ≡ page_holds (answer_meant y)
  page_items h = rw (page_splits, h)

  pub page_some : a ≡ true → 1 ≤ y.count → true ≡ page_holds (answer_meant y)
  page_some h k = rw (page_splits, h, le-leb 1 y.count k)

  pub page_none : a ≡ true → y.count < 1 → eqb y.last 1 ≡ page_holds (answer_meant y)
  page_none h k = rw (page_splits, h, lt-leb 1 y.count k)

-- ---- items joined

flat_items : (k : ℕ) (room : List ℕ) → k * 3 ≤ length room → flat (items_in k room) ≡ take (k * 3) room
flat_items k room h = rw (mul_comm k 3) (flat_in k room (omega arith))

-- items joined behind the items that stand in the room
join_front : (room items : List ℕ) (c n : ℕ) → c * 3 + n * 3 ≤ length room → n * 3 ≤ length items
    → fronted (items_in c room ++ items_in n items) room ≡ paste room (c * 3) items (n * 3)
unfolding fronted
join_front room items c n h k =
    let e : 3 * length (items_in c room ++ items_in n items) ≡ c * 3 + n * 3 =
    omega (arith, length-append (items_in c room) (items_in n items), length_in c room, length_in n items) in
    rw (e, flat_append (items_in c room) (items_in n items), flat_items c room (omega arith), flat_items n items k)

-- ---- what soundness says of a list that is not complete

every_at : (p : Item → Bool) (l : List Item) (k : ℕ) → k < length l → every p l ≡ true → p (get_or l k no_item) ≡ true
unfolding every
every_at p [] k h e = absurd (omega arith)
every_at p (a ∷ l) zero h e = and_first (p a) _ e
every_at p (a ∷ l) (suc k) h e = every_at p l k (omega arith) (and_second (p a) _ e)

has_item : (started complete : Bool) (n snapshot : ℕ) → started ≡ true → complete ≡ false → started_by started n snapshot complete ≡ true → 1 ≤ n
unfolding started_by
has_item true true n snapshot s c h = absurd (never true refl c)
has_item true false zero snapshot s c h = absurd (never false h refl)
has_item true false (suc n) snapshot s c h = omega arith
has_item false complete n snapshot s c h = absurd (never false s refl)

last_below : (n : ℕ) (room : List ℕ) (reach snapshot : ℕ) → 1 ≤ n → every (fitting reach snapshot) (items_in n room) ≡ true → get_or room (n * 3 - 3) 0 < snapshot
last_below n room reach snapshot h e =
    let k : n - 1 < length (items_in n room) = omega (arith, length_in n room) in
    let f : fitting reach snapshot (item_at room (n - 1)) ≡ true =
    rw (item_get n (n - 1) room (omega arith)) at (every_at (fitting reach snapshot) (items_in n room) (n - 1) k e) in
    let a : (n - 1) * 3 ≡ n * 3 - 3 = omega arith in
    let b : get_or room ((n - 1) * 3) 0 < snapshot = ltb-true (get_or room ((n - 1) * 3) 0) snapshot (and_second (leb (get_or room ((n - 1) * 3 + 2) 0) reach) _ f) in
    rw a at b

module _ (l : lists.List) (room : List ℕ) (sound : sound_held (held l room) ≡ true) where
  parts : sound_in (length room / 3) (listing (held l room)) ≡ true
  unfolding sound_held
  parts = and_second (held_well l.query) _ sound

  abbrev items : List Item
  items = items_in l.count room

  pub sound_few : l.count ≤ length room / 3
  unfolding sound_in listing
  sound_few =
      let a = and_second (in_range l.query.measure l.query.d) _ parts in
      let b = and_second (eqb (length (take l.query.d l.query.probe)) l.query.d) _ a in
      let e = and_second (leb l.snapshot most_claims) _ b in
      let f : length items ≤ length room / 3 = leb-true (length items) (length room / 3) (and_first (leb (length items) (length room / 3)) _ e) in
      omega (arith, length_in l.count room)

  pub sound_asks : l.complete ≡ false → AskReady l room
  unfolding sound_held held_well sound_in listing started_well started_by
  sound_asks open₀ =
      let a = and_second (in_range l.query.measure l.query.d) _ parts in
      let b = and_second (eqb (length (take l.query.d l.query.probe)) l.query.d) _ a in
      let e = and_second (leb l.snapshot most_claims) _ b in
      let f = and_second (leb (length items) (length room / 3)) _ e in
      let g = and_second (rising l.query.order items) _ f in
      let fit = and_first (every (fitting l.query.reach l.snapshot) items) _ g in
      let well = and_second (every (fitting l.query.reach l.snapshot) items) _ g in
      let some : l.started ≡ true → 1 ≤ l.count =
      λ s. let i : 1 ≤ length items = has_item l.started l.complete (length items) l.snapshot s open₀ well in omega (arith, length_in l.count room) in
      record {
        range = and_first (in_range l.query.measure l.query.d) _ parts;
        few = omega (arith, sound_few);
        snapshot = leb-true l.snapshot most_claims (and_first (leb l.snapshot most_claims) _ b);
        some = some;
        below = λ s. last_below l.count room l.query.reach l.snapshot (some s) fit;
      }

-- ---- the ways through `take_answer`

-- a refusal leaves the list and its room
pub takes_refused : (l : lists.List) (x : Outcome Listing) (n : ℕ) (room : List ℕ) → x ≡ refused n → Takes l x room (refused n) room
takes_refused l x n room e = promise_refused (taken_shown l) put_items x room n (refused n) e refl

module _ (l : lists.List) (room : List ℕ) (y : Answer) where
  abbrev L : Listing
  L = listing (held l room)

  abbrev call : Outcome Listing
  call = taken (length room / 3) L (answer_meant y)

  pub take_16 : l.complete ≡ true → call ≡ refused 16
  unfolding taken listing
  take_16 h = must_stop (not l.complete) 16 _ (ap not h)

  module _ (hc : l.complete ≡ false) (a : Bool) (ae : a ≡ to_present L (answer_meant y)) where
    go_16 : not l.complete ≡ true
    go_16 = ap not hc

    pub take_13 : a ≡ false → call ≡ refused 13
    unfolding taken listing
    take_13 h = must_go (not l.complete) 16 _ go_16 ∙ must_stop (to_present L (answer_meant y)) 13 _ (sym ae ∙ h)

    module _ (ha : a ≡ true) (b : Bool) (be : b ≡ page_holds (answer_meant y)) where
      pub take_14 : b ≡ false → call ≡ refused 14
      unfolding taken listing
      take_14 h =
          must_go (not l.complete) 16 _ go_16
          ∙ must_go (to_present L (answer_meant y)) 13 _ (sym ae ∙ ha)
          ∙ must_stop (page_holds (answer_meant y)) 14 _ (sym be ∙ h)

      module _ (hb : b ≡ true) (few : l.count ≤ length room / 3) where
        sum : length L.items + length (answer_meant y).items ≡ l.count + y.count
        unfolding listing answer_meant
        sum = omega (arith, length_in l.count room, length_in y.count y.items)

        up_to_15 : call ≡ must (leb (length L.items + length (answer_meant y).items) (length room / 3)) 15 (gives (joined_to L (answer_meant y)))
        unfolding taken listing
        up_to_15 =
            must_go (not l.complete) 16 _ go_16
            ∙ must_go (to_present L (answer_meant y)) 13 _ (sym ae ∙ ha)
            ∙ must_go (page_holds (answer_meant y)) 14 _ (sym be ∙ hb)

        pub take_15 : length room / 3 - l.count < y.count → call ≡ refused 15
        take_15 h = up_to_15 ∙ must_stop _ 15 _ (lt-leb (length L.items + length (answer_meant y).items) (length room / 3) (omega (arith, sum)))

        pub take_joined : y.count ≤ length room / 3 - l.count → call ≡ gives (joined_to L (answer_meant y))
        take_joined h = up_to_15 ∙ must_go _ 15 _ (le-leb (length L.items + length (answer_meant y).items) (length room / 3) (omega (arith, sum)))

  -- [7.7] the page is joined, and the rest of the room stays
  pub joined_is : (x : Outcome Listing) (t : lists.List) (after : List ℕ) → x ≡ gives (joined_to L (answer_meant y))
      → l.count * 3 + y.count * 3 ≤ length room → y.count * 3 ≤ length y.items
      → t ≡ joined_fields l y y.count → after ≡ paste room (l.count * 3) y.items (y.count * 3)
      → Takes l x room (gives t) after
  unfolding joined_to listing answer_meant
  joined_is x t after e h k te ae =
      let n : length (items_in l.count room ++ items_in y.count y.items) ≡ l.count + y.count =
      omega (arith, length-append (items_in l.count room) (items_in y.count y.items), length_in l.count room, length_in y.count y.items) in
      promise_given (taken_shown l) put_items x room (joined_to L (answer_meant y)) (gives t) after e
      (ap (λ (u : lists.List). gives u) te ∙ rw (← n))
      (ae ∙ sym (join_front room y.items l.count y.count h k))
