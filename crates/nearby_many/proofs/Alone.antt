-- What the calls for many questions come to: row i is what the single call gives for question i, and what stands behind the rows is
-- kept. Assumes nothing.
use Prim.Native.Nat.{ℕ, ◌+◌, ◌*◌, ◌<◌}
use mathlib.Core.Path.{◌≡◌, refl, sym, ap, ◌∙◌}
use mathlib.Core.Bool.{Bool, true, false}
use mathlib.Core.List.{List, ◌++◌, append_assoc}
use native.Mathlib.Omega.{arith}
use lib.Dec.{leb, eqb}
use lib.IntN.{ℤ}
use lib.ListN.{length, get_or, take, drop, length-take}
use lib.Seq.{sets, sets-eq}
use borrow.Author.Tests.{leb-true, eq-eqb}
use Rattle.std.specs.Prelude.{Option}
use Rattle.paper.specs.declared.orders.Order.{Order}
use Rattle.paper.specs.declared.orders.Place.{Place}
use Rattle.paper.specs.declared.orders.Item.{Item}
use Rattle.paper.specs.Orders.{Query, following, page_of, snapshot_holds, mark_holds}
use Rattle.paper.specs.Outcomes.{Outcome, gives, must, leaves}
use Rattle.paper.specs.Tree.{Store, claims_in, fits, sound}
use Rattle.paper.specs.Ends.{size_holds}
use Rattle.paper.specs.Calls.{table_query, aimed, ThePage, the_page, nearest_call, farthest_call, page_call, page_shown, put_page}
use Rattle.orders.proofs.Rooms.{fronted_length}
use Rattle.paper.proofs.Outcomes.{must_test, must_rest, must_go, same_given}
use Rattle.rows.specs.Answers.{found_row, page_row}
use Rattle.rows.specs.Places.{place_numbers, order_at, place_at}
use Rattle.rows.proofs.AnswerRows.{found_wide, page_wide}
use Rattle.nearby_many.specs.Rows.{row, each, put_found}
use Rattle.nearby_many.specs.Many.{probe_at, nearest_at, farthest_at, firsts_call, nearest_each, farthest_each, RowAsAlone}
use Rattle.nearby_many.specs.Pages.{page_at, put_outcome, put_page_items, PageRooms, both_rooms, pages_each, PageAlone}
use Rattle.nearby_many.proofs.FirstsOfMany.{probe_long, asked_of}
use Rattle.nearby_many.proofs.RowLaws.{OneRow, Rowed, each_rowed}

-- ---- what is written to a row

set_rows : (w : ℕ) (vs : ℕ → List ℕ) → ((i : ℕ) → length (vs i) ≡ w) → OneRow w (λ i l. sets l (i * w) (vs i)) (λ i l. vs i)
set_rows w vs wide =
    record {
      writes = λ i l h. sets-eq (vs i) l (i * w) (omega (arith, wide i)) ∙ append_assoc (take (i * w) l) (vs i) (drop (i * w + length (vs i)) l) ∙ ap (λ (k : ℕ). take (i * w) l ++ (vs i ++ drop (i * w + k) l)) (wide i);
      fills = λ i l e. wide i;
    }

-- a page fits its row
room_kept : (b : Bool) (n : ℕ) (x : Outcome ThePage) (l : List ℕ) → length (leaves put_page x l) ≡ length l → length (leaves put_page (must b n x) l) ≡ length l
room_kept true n x l h = h
room_kept false n x l h = refl

page_fits : (q : Query) (s : Store) (place : Place) (size : ℕ) (l : List ℕ) → length l ≡ size * 3
    → length (leaves put_page (gives (the_page q s place size)) l) ≡ length l
unfolding the_page page_of
page_fits q s place size l h =
    fronted_length (page_of q (claims_in s) place size) l (omega (arith, length-take size (following q (claims_in s) place)))

page_fills : (s : Store) (order : Order) (probe : List ℤ) (reach : ℕ) (place : Place) (size room : ℕ) (l : List ℕ) → length l ≡ size * 3
    → length (leaves put_page (page_call s order probe reach place size room) l) ≡ length l
unfolding page_call
page_fills s order probe reach place size room l h =
    room_kept (fits s) 1 _ l
    (room_kept (sound s) 2 _ l
    (room_kept (eqb (length probe) s.table.d) 5 _ l
    (room_kept (size_holds size) 6 _ l
    (room_kept (snapshot_holds (claims_in s) place) 7 _ l
    (room_kept (mark_holds (table_query s.table order probe reach) (claims_in s) place) 8 _ l
    (room_kept (leb (size * 3) room) 12 _ l (page_fits (table_query s.table order probe reach) s place size l h)))))))

-- ---- the nearest and the farthest

-- the single call, where the call for many gave something
module _ (s : Store) (probes : List ℤ) (n : ℕ) (answer : ℕ → Option Item) (out after : List ℕ)
    (h : firsts_call s (length probes) n answer out ≡ gives after) where
  abbrev Done : List ℕ
  Done = each (put_found answer) n out

  -- the tests, one after another
  past_1 : must (sound s) 2 (must (eqb (length probes) (s.table.d * n)) 5 (must (leb (n * 4) (length out)) 12 (gives Done))) ≡ gives after
  unfolding firsts_call
  past_1 = must_rest (fits s) 1 _ after h

  past_2 : must (eqb (length probes) (s.table.d * n)) 5 (must (leb (n * 4) (length out)) 12 (gives Done)) ≡ gives after
  past_2 = must_rest (sound s) 2 _ after past_1

  past_5 : must (leb (n * 4) (length out)) 12 (gives Done) ≡ gives after
  past_5 = must_rest (eqb (length probes) (s.table.d * n)) 5 _ after past_2

  rowed : Rowed 4 (λ i l. found_row (answer i)) n out Done
  rowed =
      each_rowed 4 (put_found answer) (λ i l. found_row (answer i)) (set_rows 4 (λ i. found_row (answer i)) (λ i. found_wide (answer i))) n out
      (leb-true (n * 4) (length out) (must_test (leb (n * 4) (length out)) 12 (gives Done) after past_5))

  done : Done ≡ after
  done = same_given Done after (must_rest (leb (n * 4) (length out)) 12 (gives Done) after past_5)

  pub firsts_behind : drop (n * 4) after ≡ drop (n * 4) out
  firsts_behind = ap (drop (n * 4)) (sym done) ∙ rowed.behind

  pub firsts_alone : (single : List ℤ → Option Item → Outcome (Option Item)) (i : ℕ) → i < n
      → ((probe : List ℤ) (x : Option Item) → single probe x ≡ aimed s probe (gives x))
      → RowAsAlone (single (probe_at s probes i) (answer i)) (row 4 i after)
  unfolding firsts_call
  firsts_alone single i j e =
      let fit = must_test (fits s) 1 _ after h in
      let good = must_test (sound s) 2 _ after past_1 in
      let whole = must_test (eqb (length probes) (s.table.d * n)) 5 _ after past_2 in
      record {
        answer = answer i;
        given =
            e (probe_at s probes i) (answer i) ∙ must_go (fits s) 1 _ fit ∙ must_go (sound s) 2 _ good
            ∙ must_go (eqb (length (probe_at s probes i)) s.table.d) 5 _ (eq-eqb _ _ (probe_long s probes i (asked_of s (length probes) n fit good whole i j).aimed));
        shown = ap (row 4 i) (sym done) ∙ rowed.rows i j;
      }

-- row i is what the single call gives for question i
pub nearest_as_alone : (s : Store) (probes : List ℤ) (reaches out after : List ℕ) → nearest_each s probes reaches out ≡ gives after
    → (i : ℕ) → i < length reaches → RowAsAlone (nearest_call s (probe_at s probes i) (get_or reaches i 0)) (row 4 i after)
unfolding nearest_call
nearest_as_alone s probes reaches out after h i j =
    firsts_alone s probes (length reaches) (nearest_at s probes reaches) out after h (λ probe x. aimed s probe (gives x)) i j (λ probe x. refl)

pub farthest_as_alone : (s : Store) (probes : List ℤ) (n : ℕ) (out after : List ℕ) → farthest_each s probes n out ≡ gives after
    → (i : ℕ) → i < n → RowAsAlone (farthest_call s (probe_at s probes i)) (row 4 i after)
unfolding farthest_call
farthest_as_alone s probes n out after h i j =
    firsts_alone s probes n (farthest_at s probes) out after h (λ probe x. aimed s probe (gives x)) i j (λ probe x. refl)

-- ---- pages

module _ (s : Store) (probes : List ℤ) (reaches places : List ℕ) (size : ℕ) (before after : PageRooms)
    (h : pages_each s probes reaches places size before ≡ gives after) where
  abbrev n : ℕ
  n = length reaches

  abbrev page : ℕ → Outcome ThePage
  page = page_at s probes reaches places size

  abbrev Shown : List ℕ
  Shown = each (put_outcome page) n before.outcomes

  abbrev Items : List ℕ
  Items = each (put_page_items page (size * 3)) n before.items

  past_6 : must (leb (n * 3) (length before.outcomes)) 12 (must (leb (n * (size * 3)) (length before.items)) 12 (gives (both_rooms Shown Items))) ≡ gives after
  unfolding pages_each
  past_6 =
      must_rest (size_holds size) 6 _ after
      (must_rest (eqb (length places) (place_numbers * n)) 5 _ after
      (must_rest (eqb (length probes) (s.table.d * n)) 5 _ after
      (must_rest (sound s) 2 _ after
      (must_rest (fits s) 1 _ after h))))

  past_12 : must (leb (n * (size * 3)) (length before.items)) 12 (gives (both_rooms Shown Items)) ≡ gives after
  past_12 = must_rest (leb (n * 3) (length before.outcomes)) 12 _ after past_6

  both : both_rooms Shown Items ≡ after
  both = same_given (both_rooms Shown Items) after (must_rest (leb (n * (size * 3)) (length before.items)) 12 (gives (both_rooms Shown Items)) after past_12)

  shown_rows : Rowed 3 (λ i l. page_row (page_shown (page i))) n before.outcomes Shown
  shown_rows =
      each_rowed 3 (put_outcome page) (λ i l. page_row (page_shown (page i))) (set_rows 3 (λ i. page_row (page_shown (page i))) (λ i. page_wide (page_shown (page i)))) n before.outcomes
      (leb-true (n * 3) (length before.outcomes) (must_test (leb (n * 3) (length before.outcomes)) 12 _ after past_6))

  item_rows : Rowed (size * 3) (λ i l. leaves put_page (page i) l) n before.items Items
  item_rows =
      each_rowed (size * 3) (put_page_items page (size * 3)) (λ i l. leaves put_page (page i) l)
      (record {
        writes = λ i l k. refl;
        fills = λ i l e. page_fills s (order_at places i) (probe_at s probes i) (get_or reaches i 0) (place_at places i) size (size * 3) l e ∙ e;
      })
      n before.items
      (leb-true (n * (size * 3)) (length before.items) (must_test (leb (n * (size * 3)) (length before.items)) 12 (gives (both_rooms Shown Items)) after past_12))

  -- row i is what the single call gives for question i
  pub page_as_alone : (i : ℕ) → i < length reaches
      → PageAlone (page_call s (order_at places i) (probe_at s probes i) (get_or reaches i 0) (place_at places i) size (size * 3))
      (row 3 i after.outcomes) (row (size * 3) i before.items) (row (size * 3) i after.items)
  page_as_alone i j =
      record {
        outcome = ap (λ (x : PageRooms). row 3 i x.outcomes) (sym both) ∙ shown_rows.rows i j;
        items = ap (λ (x : PageRooms). row (size * 3) i x.items) (sym both) ∙ item_rows.rows i j;
      }

  pub pages_behind : (drop (length reaches * 3) after.outcomes ≡ drop (length reaches * 3) before.outcomes)
      × (drop (length reaches * (size * 3)) after.items ≡ drop (length reaches * (size * 3)) before.items)
  pages_behind = (
    ap (λ (x : PageRooms). drop (n * 3) x.outcomes) (sym both) ∙ shown_rows.behind,
    ap (λ (x : PageRooms). drop (n * (size * 3)) x.items) (sym both) ∙ item_rows.behind,
  )
