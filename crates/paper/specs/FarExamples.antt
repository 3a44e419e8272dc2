-- Far order by example, worked by hand from the rules with the claims, probe and reach of examples a to j: what is listed, the pages, the two
-- ends, the calls and the lines. Definitions only.
use Rattle.std.specs.Prelude.{ℕ, ◌≡◌, Bool, true, false, List, [], ◌∷◌, ◌++◌, replicate}
use Rattle.paper.specs.declared.lists.List as lists
use Rattle.paper.specs.declared.orders.Order.TheVariants.{Far}
use Rattle.paper.specs.declared.orders.Place.TheVariants.{Start}
use Rattle.paper.specs.Points.{Claim}
use Rattle.paper.specs.Orders.{listed}
use Rattle.paper.specs.Outcomes.{refused, gives}
use Rattle.paper.specs.Calls.{page_call}
use Rattle.paper.specs.Lists.{Held, held, opening_held}
use Rattle.paper.specs.Lines.{read_as_ask, read_as_answer, read_as_claim}
use Rattle.paper.specs.Limits.{longest_ask, longest_answer}
use Rattle.paper.specs.Examples.{claim, five, six, query_in, item, after, page, office_page_in}
use Rattle.paper.specs.EndExamples.{sample_ask, sample_answer}
use Rattle.paper.specs.CallExamples.{five_stored, four, ask_bytes, ask_with, office_at}
use Rattle.paper.specs.LineExamples.{opens_in, list_ordered, opened_in, held_after_first, whole, asked, taken_from, takes_line, item_at, answer_with, scope, ask_value, answer_value, writes_ask, writes_answer_in}

-- ---- what is listed, and the pages

-- a sixth claim as far as the farthest of the five, which is entered later
abbrev pub six_far : List Claim
six_far = five ++ (claim 106 9 ∷ [])

pub record FarOrderMarked : Type 0 where
  -- [2.2] [2.3] the larger distance first, and of two at the same distance the smaller number
  pub order : listed (query_in Far 5) five 5 ≡ item 2 103 5 ∷ item 0 101 2 ∷ item 3 104 2 ∷ item 1 102 1 ∷ item 4 105 1 ∷ []
  -- [2.4] the reach bounds from above
  pub within : listed (query_in Far 2) five 5 ≡ item 0 101 2 ∷ item 3 104 2 ∷ item 1 102 1 ∷ item 4 105 1 ∷ []
  -- [4.6] [4.7] three pages, each of which begins or ends within a tie
  pub pages : (office_page_in Far five Start 2 ≡ gives (page (2 ∷ 0 ∷ []) false))
      × (office_page_in Far five (after 5 2 0) 2 ≡ gives (page (3 ∷ 1 ∷ []) false))
      × (office_page_in Far five (after 5 1 1) 2 ≡ gives (page (4 ∷ []) true))
  -- [4.5] a nearer claim, at the probe itself, is entered after the first page: it would stand last, and is on none of the others
  pub nearer_claim_between_two_pages : (office_page_in Far six (after 5 2 0) 2 ≡ gives (page (3 ∷ 1 ∷ []) false)) × (office_page_in Far six (after 5 1 1) 2 ≡ gives (page (4 ∷ []) true))
  -- [4.5] and one as far as the first: it would stand second
  pub far_claim_between_two_pages : (office_page_in Far six_far (after 5 5 2) 2 ≡ gives (page (0 ∷ 3 ∷ []) false)) × (office_page_in Far six_far Start 2 ≡ gives (page (2 ∷ 5 ∷ []) false))
  -- [8.8] [8.7] a mark that no claim has, and a snapshot of more claims than there are
  pub mark8 : office_page_in Far five (after 5 2 4) 2 ≡ refused 8
  pub snapshot7 : office_page_in Far five (after 6 2 0) 2 ≡ refused 7
  -- [4.7] a full page is the last just where no claim is left
  pub full : (office_page_in Far five Start 5 ≡ gives (page (2 ∷ 0 ∷ 3 ∷ 1 ∷ 4 ∷ []) true))
      × (office_page_in Far five Start 4 ≡ gives (page (2 ∷ 0 ∷ 3 ∷ 1 ∷ []) false))
      × (office_page_in Far five (after 5 1 4) 5 ≡ gives (page [] true))

-- ---- lists and lines

-- [5.5] an ask of the first page of 2, and the answer to it: claims 2 and 0
abbrev pub far_ask : List ℕ
far_ask = ask_with 4 7 0 0 0 0 2

abbrev pub far_answer : List ℕ
far_answer = answer_with 5 7 0 5 0 0 0 2 (item_at 2 103 5 ++ item_at 0 101 2)

-- the next one, and its items in near order
abbrev pub far_next : List ℕ
far_next = answer_with 5 7 1 5 2 0 0 2 (item_at 3 104 2 ++ item_at 1 102 1)

abbrev pub far_next_turned : List ℕ
far_next_turned = answer_with 5 7 1 5 2 0 0 2 (item_at 1 102 1 ++ item_at 3 104 2)

abbrev pub far_list : Bool → ℕ → ℕ → Bool → lists.List
far_list started snapshot count complete = list_ordered Far 0 started snapshot count complete

-- a far list that was just opened, in a room for four items; after its first page of 2; after the next; complete after the first
abbrev pub far_opened : Held
far_opened = held (far_list false 0 0 false) (replicate 12 9)

abbrev pub far_first_room : List ℕ
far_first_room = 2 ∷ 103 ∷ 5 ∷ 0 ∷ 101 ∷ 2 ∷ []

abbrev pub far_after_first : Held
far_after_first = held (far_list true 5 2 false) (far_first_room ++ replicate 6 9)

abbrev pub far_after_next : Held
far_after_next = held (far_list true 5 4 false) (far_first_room ++ (3 ∷ 104 ∷ 2 ∷ 1 ∷ 102 ∷ 1 ∷ []))

abbrev pub far_whole : Held
far_whole = held (far_list true 5 2 true) (far_first_room ++ replicate 6 9)

-- two items in near order: not sound in a far list
abbrev pub far_falling : Held
far_falling = held (far_list true 5 2 false) (0 ∷ 101 ∷ 2 ∷ 2 ∷ 103 ∷ 5 ∷ [])

pub record FarCallsMarked : Type 0 where
  -- [9.8] [9.10] the page call and the office, by the kind of the ask
  pub paged : page_call five_stored Far four 5 Start 2 6 ≡ gives (record { items = item 2 103 5 ∷ item 0 101 2 ∷ []; last = false })
  pub answered : office_at five_stored far_ask ≡ gives far_answer
  pub answered_next : office_at five_stored (ask_with 4 7 1 5 2 0 2) ≡ gives far_next
  pub answer10 : office_at five_stored (ask_with 5 7 0 0 0 0 2) ≡ refused 10
  -- [9.11] [9.12] opening, and writing an ask of its own kind
  pub opened : opening_held (opens_in Far 1 1 four) ≡ gives (far_list false 0 0 false)
  pub asks : asked far_opened 2 longest_ask ≡ gives far_ask
  pub asks_next : asked far_after_first 2 longest_ask ≡ gives (ask_with 4 7 1 5 2 0 2)
  pub falling2 : asked far_falling 2 longest_ask ≡ refused 2
  pub whole16 : asked far_whole 2 longest_ask ≡ refused 16
  -- [9.13] taking answers of its own kind
  pub first : takes_line far_opened far_answer ≡ (0, far_after_first)
  pub next : takes_line far_after_first far_next ≡ (0, far_after_next)
  pub late13 : taken_from far_after_first far_answer ≡ refused 13
  pub turned14 : taken_from far_after_first far_next_turned ≡ refused 14
  -- [8.10] lines of the other order's kinds, in lists that have not started, that have, and that are complete; before 16 and 13, after 9
  pub near_takes05 : takes_line (opened_in (replicate 12 9)) far_answer ≡ (10, opened_in (replicate 12 9))
  pub near_takes05_later : taken_from held_after_first far_next ≡ refused 10
  pub near_takes04 : taken_from held_after_first far_ask ≡ refused 10
  pub far_takes02 : takes_line far_opened sample_answer ≡ (10, far_opened)
  pub far_takes01 : taken_from far_opened sample_ask ≡ refused 10
  pub first10 : (taken_from whole far_answer ≡ refused 10) × (taken_from far_whole sample_answer ≡ refused 10)
  pub first9 : taken_from far_whole (ask_bytes 4 7 0 0 0 0 2) ≡ refused 9
  -- [9.14] [9.15] the bare writers and readers
  pub ask_written : writes_ask (opens_in Far 1 1 four) (scope 0 0 0 0) 2 longest_ask ≡ gives far_ask
  pub answer_written : writes_answer_in Far (scope 0 5 0 0) 2 far_first_room longest_answer ≡ gives far_answer
  pub ask_read : read_as_ask far_ask ≡ gives (ask_value Far)
  pub answer_read : read_as_answer far_answer ≡ gives (answer_value Far far_first_room)
  pub ask_kind10 : read_as_ask far_answer ≡ refused 10
  pub answer_kind10 : read_as_answer far_ask ≡ refused 10
  pub claim_kind10 : (read_as_claim far_ask ≡ refused 10) × (read_as_claim far_answer ≡ refused 10)
