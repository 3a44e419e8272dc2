-- Many pages of one table. Definitions only.
use Rattle.std.specs.Prelude.{ℕ, ◌+◌, ◌*◌, ◌<◌, ◌≤◌, ◌≡◌, true, List, ◌++◌, leb, eqb, ℤ, length, get_or, take, drop}
use Rattle.std.proofs.lemmas.List.Edits.{sets}
use Rattle.paper.specs.Outcomes.{Outcome, gives, must, number, leaves}
use Rattle.paper.specs.Tree.{Store}
use Rattle.paper.specs.Ends.{size_holds}
use Rattle.paper.specs.Calls.{ThePage, page_call, page_shown, put_page}
use Rattle.rows.specs.Answers.{page_row}
use Rattle.rows.specs.Places.{place_numbers, order_at, place_at}
use Rattle.nearby_many.specs.Counts.{on_many}
use Rattle.nearby_many.specs.Rows.{row, each}
use Rattle.nearby_many.specs.Many.{probe_at, Asked}

-- [4.16] what the single call gives for question i, in a room for one page
abbrev pub page_at : Store → List ℤ → List ℕ → List ℕ → ℕ → ℕ → Outcome ThePage
page_at s probes reaches places size i =
    page_call s (order_at places i) (probe_at s probes i) (get_or reaches i 0) (place_at places i) size (size * 3)

-- its outcome in row i
abbrev pub put_outcome : (ℕ → Outcome ThePage) → ℕ → List ℕ → List ℕ
put_outcome page i l = sets l (i * 3) (page_row (page_shown (page i)))

-- [4.19] its items at the front of row i, whose rest stays
abbrev pub put_page_items : (ℕ → Outcome ThePage) → ℕ → ℕ → List ℕ → List ℕ
put_page_items page w i l = take (i * w) l ++ (leaves put_page (page i) (row w i l) ++ drop (i * w + w) l)

-- the two rooms of the call
pub record PageRooms : Type 0 where
  pub outcomes : List ℕ
  pub items : List ℕ

abbrev pub both_rooms : List ℕ → List ℕ → PageRooms
both_rooms outcomes items = record { outcomes = outcomes; items = items }

-- [9.17] [8.5] [8.12] 5 where there are not d coordinates or not five numbers of order and place for each question; 12 where there are under three
-- numbers of outcome or under a page of items for each
abbrev pub on_pages : {A : Type 0} → Store → (probes n places size outcomes items : ℕ) → Outcome A → Outcome A
on_pages s probes n places size outcomes items x =
    on_many s probes n
    (must (eqb places (place_numbers * n)) 5
    (must (size_holds size) 6
    (must (leb (n * 3) outcomes) 12
    (must (leb (n * (size * 3)) items) 12 x))))

unfoldable pub pages_refusal : Store → (probes n places size outcomes items : ℕ) → ℕ
pages_refusal s probes n places size outcomes items = number (on_pages s probes n places size outcomes items (gives n))

unfoldable pub pages_each : Store → List ℤ → List ℕ → List ℕ → ℕ → PageRooms → Outcome PageRooms
pages_each s probes reaches places size before =
    on_pages s (length probes) (length reaches) (length places) size (length before.outcomes) (length before.items)
    (gives
    (both_rooms
    (each (put_outcome (page_at s probes reaches places size)) (length reaches) before.outcomes)
    (each (put_page_items (page_at s probes reaches places size) (size * 3)) (length reaches) before.items)))

-- [4.16] a row beside the single call for its question, in a room for one page: what it shows, and the row of items before and after
pub record PageAlone (single : Outcome ThePage) (shown before after : List ℕ) : Type 0 where
  pub outcome : shown ≡ page_row (page_shown single)
  pub items : after ≡ leaves put_page single before

-- ---- what the layers below ask

-- question i of n, and row i of a room for pages of k items
pub record OnePage (s : Store) (probes n places k i room : ℕ) : Type 0 where
  pub asked : Asked s probes i
  pub reach : i < n
  pub place : i * place_numbers + place_numbers ≤ places
  pub size : size_holds k ≡ true
  pub items : i * (k * 3) + k * 3 ≤ room
