-- One law for each way through a page of a table: 1, 2, 5, 6, 7, 8, 12. Assumes nothing.
use Prim.Native.Nat.{ℕ, ◌*◌, ◌/◌, ◌<◌, ◌≤◌}
use mathlib.Core.Path.{◌≡◌, refl, sym, ap, ◌∙◌}
use mathlib.Core.Bool.{Bool, true, false}
use mathlib.Core.List.{List}
use native.Mathlib.Omega.{arith}
use lib.Dec.{leb}
use lib.IntN.{ℤ}
use lib.ListN.{length}
use borrow.Author.Tests.{le-leb, lt-leb, leb-true}
use Rattle.paper.specs.declared.orders.Order.{Order}
use Rattle.paper.specs.declared.orders.Paged.{Paged}
use Rattle.paper.specs.declared.orders.Place.{Place}
use Rattle.paper.specs.Limits.{most_page}
use Rattle.paper.specs.Orders.{snapshot_of, snapshot_holds, mark_holds}
use Rattle.paper.specs.Outcomes.{Outcome, refused, gives, must, number, Promise}
use Rattle.paper.specs.Tree.{Store, claims_in}
use Rattle.paper.specs.Ends.{size_holds}
use Rattle.paper.specs.Calls.{table_query, table_refusal, ThePage, the_page, page_call, page_shown, put_page}
use Rattle.paper.proofs.Tests.{and_first, and_second}
use Rattle.paper.proofs.Outcomes.{must_stop, must_go, number_0, number_is, promise_refused, promise_given}
use Rattle.tree.proofs.PointsInMemory.{claims_length}
use Rattle.walk.specs.Asking.{Answerable, Pageable, Markable, PageIs}
use Rattle.walk.proofs.Answers.{good_measurable, good_answerable}
use Rattle.walk_tested.specs.Askable.{Askable}
use Rattle.walk_tested.proofs.TableLaws.{table_refused, table_good, aim_stops, aim_goes}

-- ---- the tests of a page, one after the other

module _ (order : Order) (s : Store) (probe : List ℤ) (reach : ℕ) (place : Place) (size room : ℕ) where
  abbrev page : Outcome ThePage
  page = page_call s order probe reach place size room

  -- the call from each of its tests on
  abbrev from_12 : Outcome ThePage
  from_12 = must (leb (size * 3) room) 12 (gives (the_page (table_query s.table order probe reach) s place size))

  abbrev from_8 : Outcome ThePage
  from_8 = must (mark_holds (table_query s.table order probe reach) (claims_in s) place) 8 from_12

  abbrev from_7 : Outcome ThePage
  from_7 = must (snapshot_holds (claims_in s) place) 7 from_8

  abbrev from_6 : Outcome ThePage
  from_6 = must (size_holds size) 6 from_7

  module _ (n : ℕ) (we : n ≡ table_refusal s) where
    pub page_refused : (n ≡ 0 → ⊥) → page ≡ refused n
    unfolding page_call
    page_refused h = table_refused s n we _ h

    module _ (ok : n ≡ 0) where
      pub page_5 : (length probe ≡ s.table.d → ⊥) → page ≡ refused 5
      unfolding page_call
      page_5 h = aim_stops s probe n we ok from_6 h

      module _ (h5 : length probe ≡ s.table.d) (a : Bool) (ae : a ≡ size_holds size) where
        pub page_6 : a ≡ false → page ≡ refused 6
        unfolding page_call
        page_6 h = aim_goes s probe n we ok from_6 h5 ∙ must_stop (size_holds size) 6 from_7 (sym ae ∙ h)

        pub page_askable : a ≡ true → Askable s (length probe) size
        page_askable h = record { tested = sym ok ∙ we; aimed = h5; size = sym ae ∙ h }

  module _ (k : Askable s (length probe) size) where
    past_6 : page ≡ from_7
    unfolding page_call
    past_6 = aim_goes s probe 0 k.tested refl from_6 k.aimed ∙ must_go (size_holds size) 6 from_7 k.size

    module _ (b : Bool) (be : b ≡ leb (snapshot_of place s.table.count) s.table.count) where
      snapshot_is : snapshot_holds (claims_in s) place ≡ b
      unfolding snapshot_holds
      snapshot_is = rw (claims_length s.table.d s.table.count s.references s.coordinates) (sym be)

      pub page_7 : b ≡ false → 7 ≡ number page
      page_7 h = sym (ap number (past_6 ∙ must_stop (snapshot_holds (claims_in s) place) 7 from_8 (snapshot_is ∙ h)))

      module _ (hb : b ≡ true) where
        past_7 : page ≡ from_8
        past_7 = past_6 ∙ must_go (snapshot_holds (claims_in s) place) 7 from_8 (snapshot_is ∙ hb)

        pub page_markable : Markable s.table s.coordinates probe place
        page_markable =
            record {
              measurable = good_measurable s (table_good s 0 k.tested refl) probe k.aimed;
              stored = leb-true (snapshot_of place s.table.count) s.table.count (sym be ∙ hb);
            }

        module _ (e : Bool) (ee : e ≡ mark_holds (table_query s.table order probe reach) (claims_in s) place) where
          pub page_8 : e ≡ false → 8 ≡ number page
          page_8 h = sym (ap number (past_7 ∙ must_stop (mark_holds (table_query s.table order probe reach) (claims_in s) place) 8 from_12 (sym ee ∙ h)))

          module _ (he : e ≡ true) where
            past_8 : page ≡ from_12
            past_8 = past_7 ∙ must_go (mark_holds (table_query s.table order probe reach) (claims_in s) place) 8 from_12 (sym ee ∙ he)

            pub page_12 : room / 3 < size → 12 ≡ number page
            page_12 h = sym (ap number (past_8 ∙ must_stop (leb (size * 3) room) 12 _ (lt-leb (size * 3) room (omega arith))))

            pub page_0 : size ≤ room / 3 → 0 ≡ number page
            page_0 h = sym (ap number (past_8 ∙ must_go (leb (size * 3) room) 12 _ (le-leb (size * 3) room (omega arith))))

-- ---- handed on

pub page_few : (s : Store) (probe size : ℕ) → Askable s probe size → size ≤ most_page
page_few s probe size k = leb-true size most_page (and_second (leb 1 size) (leb size most_page) k.size)

-- the page itself, where the number says that nothing refuses it
module _ (order : Order) (s : Store) (probe : List ℤ) (reach : ℕ) (place : Place) (size : ℕ) (room : List ℕ) where
  abbrev there : Outcome ThePage
  there = page_call s order probe reach place size (length room)

  -- a refusal as the call shows it
  pub page_refusal : (n : ℕ) → there ≡ refused n → Promise page_shown put_page there room (refused n) room
  page_refusal n e = promise_refused page_shown put_page there room n (refused n) e refl

  module _ (k : Askable s (length probe) size) (n : ℕ) (ne : n ≡ number there) where
    pub page_refuses : (n ≡ 0 → ⊥) → Promise page_shown put_page there room (refused n) room
    page_refuses h = page_refusal n (number_is there n ne h)

    module _ (z : n ≡ 0) where
      number_at_7 : number (from_7 order s probe reach place size (length room)) ≡ 0
      number_at_7 = sym (ap number (past_6 order s probe reach place size (length room) k)) ∙ sym ne ∙ z

      stored : snapshot_holds (claims_in s) place ≡ true
      stored = (number_0 (snapshot_holds (claims_in s) place) 6 (from_8 order s probe reach place size (length room)) number_at_7).0

      number_at_8 : number (from_8 order s probe reach place size (length room)) ≡ 0
      number_at_8 = (number_0 (snapshot_holds (claims_in s) place) 6 (from_8 order s probe reach place size (length room)) number_at_7).1

      marked : (mark_holds (table_query s.table order probe reach) (claims_in s) place ≡ true) × (number (from_12 order s probe reach place size (length room)) ≡ 0)
      marked = number_0 (mark_holds (table_query s.table order probe reach) (claims_in s) place) 7 (from_12 order s probe reach place size (length room)) number_at_8

      long : leb (size * 3) (length room) ≡ true
      long = (number_0 (leb (size * 3) (length room)) 11 (gives (the_page (table_query s.table order probe reach) s place size)) marked.1).0

      page_gives : there ≡ gives (the_page (table_query s.table order probe reach) s place size)
      page_gives =
          past_6 order s probe reach place size (length room) k
          ∙ must_go (snapshot_holds (claims_in s) place) 7 _ stored
          ∙ must_go (mark_holds (table_query s.table order probe reach) (claims_in s) place) 8 _ marked.0
          ∙ must_go (leb (size * 3) (length room)) 12 _ long

      pub page_answerable : Answerable s probe
      page_answerable = good_answerable s (table_good s 0 k.tested refl) probe k.aimed

      pub page_pageable : Pageable s.table place size room
      unfolding snapshot_holds
      page_pageable =
          record {
            stored = leb-true (snapshot_of place s.table.count) s.table.count (rw (claims_length s.table.d s.table.count s.references s.coordinates) at stored);
            some = leb-true 1 size (and_first (leb 1 size) (leb size most_page) k.size);
            few = omega (arith, leb-true size most_page (and_second (leb 1 size) (leb size most_page) k.size));
            long = leb-true (size * 3) (length room) long;
          }

      pub page_filled : (p : Paged) (after : List ℕ) → PageIs (table_query s.table order probe reach) (claims_in s) place size room after p
          → Promise page_shown put_page there room (gives p) after
      unfolding the_page
      page_filled p after w =
          promise_given page_shown put_page there room (the_page (table_query s.table order probe reach) s place size) (gives p) after page_gives
          (ap (λ (x : Paged). gives x) (λ i. record { count = w.count i; last = w.last i }))
          w.room
