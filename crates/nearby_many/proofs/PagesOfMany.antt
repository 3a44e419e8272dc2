-- One law for each way through the calls for many pages. Assumes nothing.
use Prim.Native.Nat.{ℕ, ◌+◌, ◌-◌, ◌*◌, ◌<◌, ◌≤◌}
use mathlib.Core.Path.{◌≡◌, refl, sym, ap, ◌∙◌}
use mathlib.Core.Bool.{true}
use mathlib.Core.List.{List, ◌++◌}
use native.Mathlib.Omega.{arith}
use lib.Dec.{leb, eqb}
use lib.IntN.{ℤ}
use lib.ListN.{length, take, drop}
use lib.Seq.{drop-drop}
use borrow.Author.Tests.{leb-true, eqb-true}
use Rattle.paper.specs.Outcomes.{Outcome, refused, gives, must, onto, number, leaves, Promise}
use Rattle.paper.specs.Tree.{Store, fits, sound}
use Rattle.paper.specs.Ends.{size_holds}
use Rattle.paper.specs.Calls.{ThePage, put_page}
use Rattle.paper.proofs.Tests.{and_first, and_second}
use Rattle.tree.proofs.PointsInMemory.{before_next}
use Rattle.paper.proofs.Outcomes.{must_go, number_0, must_behind, stops, promise_refused, promise_given}
use Rattle.rows.specs.Places.{place_numbers}
use Rattle.nearby_many.specs.Rows.{row, each, instead}
use Rattle.nearby_many.specs.Counts.{many_refusal}
use Rattle.nearby_many.specs.Pages.{page_at, put_outcome, put_page_items, PageRooms, both_rooms, on_pages, pages_refusal, pages_each, OnePage}
use Rattle.nearby_many.specs.Many.{Asked}
use Rattle.nearby_many.proofs.RowLaws.{row_long}
use Rattle.nearby_many.proofs.FirstsOfMany.{asked_of, many_refused, many_goes}
use Rattle.paper.specs.Limits.{most_page}

-- ---- [9.17] the whole call: 1, 2, 5, 6, 12

module _ (s : Store) (probes n places size outcomes items : ℕ) where
  abbrev whole : ℕ
  whole = pages_refusal s probes n places size outcomes items

  pub pages_many : (why : ℕ) → why ≡ many_refusal s probes n → (why ≡ 0 → ⊥) → why ≡ whole
  unfolding pages_refusal
  pages_many why we h = sym (ap number (many_refused s probes n why we _ h))

  -- behind the refusals of many questions
  pub pages_left : 0 ≡ many_refusal s probes n
      → whole ≡ number (must (eqb places (place_numbers * n)) 5 (must (size_holds size) 6 (must (leb (n * 3) outcomes) 12 (must (leb (n * (size * 3)) items) 12 (gives n)))))
  unfolding pages_refusal
  pages_left many = ap number (many_goes s probes n many _)

pub size_some : (size : ℕ) → size_holds size ≡ true → 1 ≤ size
size_some size h = leb-true 1 size (and_first (leb 1 size) (leb size most_page) h)

pub size_few : (size : ℕ) → size_holds size ≡ true → size ≤ most_page
size_few size h = leb-true size most_page (and_second (leb 1 size) (leb size most_page) h)

-- ---- question i

-- what all n questions have
pub record AllPages (s : Store) (probes n places k outcomes items : ℕ) : Type 0 where
  pub asked : (i : ℕ) → i < n → Asked s probes i
  pub spots : places ≡ place_numbers * n
  pub size : size_holds k ≡ true
  pub shown : n * 3 ≤ outcomes
  pub room : n * (k * 3) ≤ items

-- one page, which goes through the part of the room that is row i
module _ (page : ℕ → Outcome ThePage) (w i : ℕ) (items : List ℕ) where
  abbrev pub lent : List ℕ
  lent = take (i * w + w - i * w) (drop (i * w) items)

  pub lent_long : i * w + w ≤ length items → length lent ≡ w
  lent_long h =
      let e : i * w + w - i * w ≡ w = omega arith in
      ap (λ (k : ℕ). length (take k (drop (i * w) items))) e ∙ row_long w i items h

  pub lent_put : (after : List ℕ) → after ≡ leaves put_page (page i) lent
      → take (i * w) items ++ (after ++ drop (i * w + w - i * w) (drop (i * w) items)) ≡ put_page_items page w i items
  lent_put after h =
      let e : i * w + w - i * w ≡ w = omega arith in
      ap (λ (x : List ℕ). take (i * w) items ++ (x ++ drop (i * w + w - i * w) (drop (i * w) items))) h
      ∙ ap (λ (k : ℕ). take (i * w) items ++ (leaves put_page (page i) (take k (drop (i * w) items)) ++ drop k (drop (i * w) items))) e
      ∙ ap (λ (x : List ℕ). take (i * w) items ++ (leaves put_page (page i) (row w i items) ++ x)) (drop-drop w (i * w) items)

module _ (s : Store) (probes n places k outcomes items : ℕ) (all : AllPages s probes n places k outcomes items) (i : ℕ) (few : i < n) where
  pub outcome_room : i * 3 + 3 ≤ outcomes
  outcome_room = omega (arith, all.shown)

  pub one_page : OnePage s probes n places k i items
  one_page =
      record {
        asked = all.asked i few;
        reach = few;
        place = omega (arith, all.spots);
        size = all.size;
        items = omega (arith, before_next (k * 3) i n few, all.room);
      }

-- ---- the whole call

-- what any call does behind these tests
pub then_pages : {A : Type 0} (s : Store) (probes n places size outcomes items : ℕ) (x : Outcome A)
    → on_pages s probes n places size outcomes items x ≡ onto (on_pages s probes n places size outcomes items (gives n)) (λ u. x)
then_pages s probes n places size outcomes items x =
    must_behind (fits s) 1 _ x _
    (must_behind (sound s) 2 _ x _
    (must_behind (eqb probes (s.table.d * n)) 5 _ x _
    (must_behind (eqb places (place_numbers * n)) 5 _ x _
    (must_behind (size_holds size) 6 _ x _
    (must_behind (leb (n * 3) outcomes) 12 _ x _
    (must_behind (leb (n * (size * 3)) items) 12 x x (gives n) refl))))))

module _ (s : Store) (probes : List ℤ) (reaches places : List ℕ) (size : ℕ) (before : PageRooms) where
  abbrev n : ℕ
  n = length reaches

  abbrev told : ℕ
  told = pages_refusal s (length probes) n (length places) size (length before.outcomes) (length before.items)

  abbrev done : PageRooms
  done =
      both_rooms (each (put_outcome (page_at s probes reaches places size)) n before.outcomes)
      (each (put_page_items (page_at s probes reaches places size) (size * 3)) n before.items)

  abbrev call : Outcome PageRooms
  call = pages_each s probes reaches places size before

  stopped : (why : ℕ) → why ≡ told → (why ≡ 0 → ⊥) → call ≡ refused why
  unfolding pages_each pages_refusal
  stopped why we h =
      stops call (gives done) (on_pages s (length probes) n (length places) size (length before.outcomes) (length before.items) (gives n))
      (then_pages s (length probes) n (length places) size (length before.outcomes) (length before.items) (gives done)) why we h

  pub pages_refused : (why : ℕ) → why ≡ told → (why ≡ 0 → ⊥) → Promise number instead call before why before
  pages_refused why we h = promise_refused number instead call before why why (stopped why we h) refl

  module _ (none : 0 ≡ told) where
    passed : AllPages s (length probes) n (length places) size (length before.outcomes) (length before.items)
        × (pages_each s probes reaches places size before ≡ gives done)
    unfolding pages_each pages_refusal
    passed =
        let p₁ = number_0 (fits s) 0 _ (sym none) in
        let p₂ = number_0 (sound s) 1 _ p₁.1 in
        let p₅ = number_0 (eqb (length probes) (s.table.d * n)) 4 _ p₂.1 in
        let q₅ = number_0 (eqb (length places) (place_numbers * n)) 4 _ p₅.1 in
        let p₆ = number_0 (size_holds size) 5 _ q₅.1 in
        let p₁₂ = number_0 (leb (n * 3) (length before.outcomes)) 11 _ p₆.1 in
        let q₁₂ = number_0 (leb (n * (size * 3)) (length before.items)) 11 (gives n) p₁₂.1 in (
          record {
            asked = asked_of s (length probes) n p₁.0 p₂.0 p₅.0;
            spots = eqb-true (length places) (place_numbers * n) q₅.0;
            size = p₆.0;
            shown = leb-true (n * 3) (length before.outcomes) p₁₂.0;
            room = leb-true (n * (size * 3)) (length before.items) q₁₂.0;
          },
          must_go (fits s) 1 _ p₁.0 ∙ must_go (sound s) 2 _ p₂.0 ∙ must_go (eqb (length probes) (s.table.d * n)) 5 _ p₅.0
              ∙ must_go (eqb (length places) (place_numbers * n)) 5 _ q₅.0 ∙ must_go (size_holds size) 6 _ p₆.0
              ∙ must_go (leb (n * 3) (length before.outcomes)) 12 _ p₁₂.0
              ∙ must_go (leb (n * (size * 3)) (length before.items)) 12 (gives done) q₁₂.0,
        )

    pub pages_gives : pages_each s probes reaches places size before ≡ gives done
    pages_gives = passed.1

    pub pages_all : AllPages s (length probes) n (length places) size (length before.outcomes) (length before.items)
    pages_all = passed.0

    pub pages_done : (shown rest : List ℕ) → shown ≡ done.outcomes → rest ≡ done.items → Promise number instead call before 0 (both_rooms shown rest)
    pages_done shown rest te re =
        promise_given number instead call before done 0 (both_rooms shown rest) pages_gives refl
        (ap (λ (x : List ℕ). both_rooms x rest) te ∙ ap (both_rooms done.outcomes) re)
