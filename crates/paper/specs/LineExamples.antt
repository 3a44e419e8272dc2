-- The public calls on lists and lines by example, each worked by hand from the rules: what a call gives, and [9.1] of two refusals that
-- apply the earlier. The claims, probe and reach are those of examples a to j. Definitions only.
use Rattle.std.specs.Prelude.{ℕ, ◌-◌, ◌*◌, ◌≡◌, Bool, true, false, List, [], ◌∷◌, ◌++◌, ℤ, pos, negsuc, replicate}
use Rattle.paper.specs.declared.lines.Scope.{Scope}
use Rattle.paper.specs.declared.lines.Ask.{Ask}
use Rattle.paper.specs.declared.lines.Answer.{Answer}
use Rattle.paper.specs.declared.lines.ClaimLine.{ClaimLine}
use Rattle.paper.specs.declared.lists.List as lists
use Rattle.paper.specs.declared.orders.Order.{Order}
use Rattle.paper.specs.declared.orders.Order.TheVariants.{Near}
use Rattle.paper.specs.declared.queries.Query as queries
use Rattle.paper.specs.Orders.{Query}
use Rattle.paper.specs.Outcomes.{Outcome, refused, gives, number}
use Rattle.paper.specs.Frames.{line_of}
use Rattle.paper.specs.Ends.{Listing}
use Rattle.paper.specs.Lists.{Held, held, opening_held, asking_held, taking_held, held_after}
use Rattle.paper.specs.Lines.{put_line, bare_line, ask_fits, ask_frame, read_as_ask, answer_fits, answer_frame, read_as_answer, claim_fits, claim_frame, read_as_claim}
use Rattle.paper.specs.Codec.{lines}
use Rattle.paper.specs.Limits.{item_room, longest_ask, longest_answer, longest_claim}
use Rattle.paper.specs.EndExamples.{sample_ask, sample_answer}
use Rattle.paper.specs.CallExamples.{four, wide, no_line, ask_bytes, ask_with, too_many, LimitsMarked, MakingMarked, EnteringMarked, AskingMarked, OfficeMarked}

-- ---- lists

abbrev pub opens_in : Order → ℕ → ℕ → List ℤ → Query
opens_in order measure d probe = record { order = order; table = 7; measure = measure; d = d; probe = probe; reach = 5 }

abbrev pub opens : ℕ → ℕ → List ℤ → Query
opens = opens_in Near

-- probe 4 in eight slots, the next one as given
abbrev pub probe : ℕ → List ℤ
probe next = pos 4 ∷ pos next ∷ replicate 6 (pos 0)

abbrev pub query_of : Order → ℕ → queries.Query
query_of order next = record { order = order; table = 7; measure = 1; d = 1; probe = probe next; reach = 5 }

abbrev pub list_ordered : Order → ℕ → Bool → ℕ → ℕ → Bool → lists.List
list_ordered order next started snapshot count complete =
    record {
      query = query_of order next;
      started = started;
      snapshot = snapshot;
      count = count;
      complete = complete;
    }

abbrev pub list_of : ℕ → Bool → ℕ → ℕ → Bool → lists.List
list_of = list_ordered Near

-- the first page of 2, and behind it the room as it was
abbrev pub page_room : ℕ → List ℕ
page_room behind = (1 ∷ 102 ∷ 1 ∷ 4 ∷ 105 ∷ 1 ∷ []) ++ replicate behind 9

-- a list that was just opened, in a room for so many items
abbrev pub opened_in : List ℕ → Held
opened_in room = held (list_of 0 false 0 0 false) room

-- after the first page of 2, and complete after it; room for four items
abbrev pub held_after_first : Held
held_after_first = held (list_of 0 true 5 2 false) (page_room 6)

abbrev pub whole : Held
whole = held (list_of 0 true 5 2 true) (page_room 6)

-- complete, with an unused probe place that is not 0: not sound
abbrev pub spoiled : Held
spoiled = held (list_of 1 true 5 2 true) (page_room 6)

-- two items that do not rise: not sound
abbrev pub falling : Held
falling = held (list_of 0 true 5 2 false) (4 ∷ 105 ∷ 1 ∷ 1 ∷ 102 ∷ 1 ∷ [])

abbrev pub asked : Held → ℕ → ℕ → Outcome (List ℕ)
asked s size out = asking_held lines s size out

abbrev pub taken_from : Held → List ℕ → Outcome Listing
taken_from s line = taking_held lines s line

-- the number that taking gives back, and what is held afterwards
abbrev pub takes_line : Held → List ℕ → ℕ × Held
takes_line s line = (number (taken_from s line), held_after s (taken_from s line))

-- ---- lines

-- an item's bytes
abbrev pub item_at : ℕ → ℕ → ℕ → List ℕ
item_at number reference distance =
    0 ∷ number ∷ 0 ∷ 0 ∷ 0 ∷ reference ∷ 0 ∷ 0 ∷ 0 ∷ 0 ∷ 0 ∷ 0 ∷ 0 ∷ distance ∷ []

-- the bytes of an answer, by its kind, table, from, snapshot, mark distance, mark number, last, item count and items
abbrev pub answer_bytes : ℕ → ℕ → ℕ → ℕ → ℕ → ℕ → ℕ → ℕ → List ℕ → List ℕ
answer_bytes kind table from snapshot distance number last count items =
    (kind ∷ 0 ∷ 0 ∷ 0 ∷ table ∷ 1 ∷ 1 ∷ 0 ∷ 0 ∷ 0 ∷ 4 ∷ 0 ∷ 0 ∷ 0 ∷ 0 ∷ 0 ∷ 0 ∷ 0 ∷ 5 ∷ from ∷ 0 ∷ snapshot ∷ [])
    ++ ((0 ∷ 0 ∷ 0 ∷ 0 ∷ 0 ∷ 0 ∷ 0 ∷ distance ∷ 0 ∷ number ∷ last ∷ count ∷ []) ++ items)

abbrev pub answer_with : ℕ → ℕ → ℕ → ℕ → ℕ → ℕ → ℕ → ℕ → List ℕ → List ℕ
answer_with kind table from snapshot distance number last count items =
    line_of (answer_bytes kind table from snapshot distance number last count items)

-- an answer in near order
abbrev pub answers : ℕ → ℕ → ℕ → ℕ → ℕ → ℕ → ℕ → List ℕ → List ℕ
answers = answer_with 2

-- the second page of 2 in order, and its items exchanged
abbrev pub second : List ℕ
second = item_at 0 101 2 ++ item_at 3 104 2

abbrev pub exchanged : List ℕ
exchanged = item_at 3 104 2 ++ item_at 0 101 2

-- one item more than an answer has
abbrev pub overfull : List ℕ
overfull = replicate (14 * too_many) 0

-- a claim with reference 101, at -2
abbrev pub claim_bytes : ℕ → List ℕ
claim_bytes kind = kind ∷ 0 ∷ 0 ∷ 0 ∷ 7 ∷ 1 ∷ 1 ∷ 0 ∷ 0 ∷ 0 ∷ 101 ∷ 255 ∷ 255 ∷ 255 ∷ 254 ∷ []

abbrev pub scope : ℕ → ℕ → ℕ → ℕ → Scope
scope from snapshot distance number =
    record { from = from; snapshot = snapshot; distance = distance; number = number }

abbrev pub ask_value : Order → Ask
ask_value order = record { query = query_of order 0; scope = scope 0 0 0 0; size = 2 }

-- an answer's fields, with two items
abbrev pub answer_value : Order → List ℕ → Answer
answer_value order two =
    record {
      query = query_of order 0;
      scope = scope 0 5 0 0;
      last = 0;
      count = 2;
      items = two ++ replicate (item_room - 6) 0;
    }

abbrev pub claim_value : ClaimLine
claim_value = record { table = 7; measure = 1; d = 1; reference = 101; coordinates = negsuc 1 ∷ replicate 7 (pos 0) }

abbrev pub writes_ask : Query → Scope → ℕ → ℕ → Outcome (List ℕ)
writes_ask q p size out = bare_line (ask_fits q p size) longest_ask (ask_frame q p size) out

abbrev pub writes_answer_in : Order → Scope → ℕ → List ℕ → ℕ → Outcome (List ℕ)
writes_answer_in order p count ns out =
    bare_line (answer_fits (opens_in order 1 1 four) p 0 count ns) longest_answer (answer_frame (opens_in order 1 1 four) p 0 count ns) out

abbrev pub writes_answer : Scope → ℕ → List ℕ → ℕ → Outcome (List ℕ)
writes_answer = writes_answer_in Near

abbrev pub writes_claim : List ℤ → ℕ → Outcome (List ℕ)
writes_claim cs out = bare_line (claim_fits 1 1 cs) longest_claim (claim_frame 7 1 1 101 cs) out

-- ---- [9.11] opening a list; [9.12] writing an ask

pub record ListsMarked : Type 0 where
  pub opened : opening_held (opens 1 1 four) ≡ gives (list_of 0 false 0 0 false)
  pub open5 : opening_held (opens 1 1 wide) ≡ refused 5
  pub open1 : opening_held (opens 4 1 four) ≡ refused 1
  pub open_first1 : opening_held (opens 1 9 four) ≡ refused 1
  -- from the start, and then after the last item
  pub fresh : asked (opened_in []) 2 longest_ask ≡ gives sample_ask
  pub later : asked held_after_first 2 longest_ask ≡ gives (ask_with 1 7 1 5 1 4 2)
  pub falling2 : asked falling 2 longest_ask ≡ refused 2
  pub whole16 : asked whole 2 longest_ask ≡ refused 16
  pub size0 : asked held_after_first 0 longest_ask ≡ refused 6
  pub size_over : asked held_after_first too_many longest_ask ≡ refused 6
  pub room12 : asked held_after_first 2 (longest_ask - 1) ≡ refused 12
  -- of two the earlier
  pub first2 : asked spoiled 2 longest_ask ≡ refused 2
  pub first16 : asked whole 0 longest_ask ≡ refused 16
  pub first6 : asked held_after_first 0 (longest_ask - 1) ≡ refused 6

-- ---- [9.13] taking

pub record TakingMarked : Type 0 where
  -- the first page fixes the snapshot, a last one makes the list complete; what stands behind the items stays
  pub first : takes_line (opened_in (replicate 12 9)) sample_answer ≡ (0, held_after_first)
  pub last : takes_line held_after_first (answers 7 1 5 1 4 1 1 (item_at 0 101 2)) ≡ (0, held (list_of 0 true 5 3 true) (page_room 0 ++ (0 ∷ 101 ∷ 2 ∷ 9 ∷ 9 ∷ 9 ∷ [])))
  pub falling2 : taken_from falling (answers 7 1 5 1 1 0 2 second) ≡ refused 2
  pub line9 : taken_from held_after_first no_line ≡ refused 9
  pub kind10 : taken_from held_after_first sample_ask ≡ refused 10
  pub whole16 : taken_from whole (answers 7 1 5 1 4 0 2 second) ≡ refused 16
  -- [7.5] another table; an answer from the start that comes late; another mark
  pub table13 : taken_from held_after_first (answers 8 1 5 1 4 0 2 second) ≡ refused 13
  pub late13 : taken_from held_after_first sample_answer ≡ refused 13
  pub mark13 : taken_from held_after_first (answers 7 1 5 1 1 0 2 second) ≡ refused 13
  -- [7.6] out of order; before the mark; beyond the reach; a number as large as the snapshot; empty, and more to come
  pub rising14 : taken_from held_after_first (answers 7 1 5 1 4 0 2 exchanged) ≡ refused 14
  pub after14 : taken_from held_after_first (answers 7 1 5 1 4 0 1 (item_at 3 104 1)) ≡ refused 14
  pub reach14 : taken_from held_after_first (answers 7 1 5 1 4 0 1 (item_at 2 103 6)) ≡ refused 14
  pub number14 : taken_from held_after_first (answers 7 1 5 1 4 0 1 (item_at 5 106 2)) ≡ refused 14
  pub none14 : taken_from held_after_first (answers 7 1 5 1 4 0 0 []) ≡ refused 14
  pub room15 : taken_from (held (list_of 0 true 5 2 false) (page_room 3)) (answers 7 1 5 1 4 0 2 second) ≡ refused 15
  -- of two the earlier; [9.2] a refusal leaves all as it was
  pub first2 : taken_from spoiled no_line ≡ refused 2
  pub first9 : taken_from held_after_first (ask_bytes 1 7 0 0 0 0 2) ≡ refused 9
  pub first10 : taken_from whole sample_ask ≡ refused 10
  pub first16 : takes_line whole sample_answer ≡ (16, whole)
  pub first13 : taken_from held_after_first (answers 8 1 5 1 4 0 2 exchanged) ≡ refused 13
  pub first14 : taken_from (held (list_of 0 true 5 2 false) (page_room 3)) (answers 7 1 5 1 4 0 2 exchanged) ≡ refused 14

-- ---- [9.14] bare writers; [9.15] bare readers

pub record LinesMarked : Type 0 where
  pub ask_written : writes_ask (opens 1 1 four) (scope 0 0 0 0) 2 longest_ask ≡ gives sample_ask
  -- what stands behind the line stays
  pub behind : put_line sample_ask (replicate longest_ask 0 ++ (7 ∷ [])) ≡ sample_ask ++ (replicate 56 0 ++ (7 ∷ []))
  pub ask12 : writes_ask (opens 1 1 four) (scope 0 0 0 0) 2 (longest_ask - 1) ≡ refused 12
  pub ask_size10 : writes_ask (opens 1 1 four) (scope 0 0 0 0) too_many (longest_ask - 1) ≡ refused 10
  pub ask_probe10 : writes_ask (opens 1 1 wide) (scope 0 0 0 0) 2 longest_ask ≡ refused 10
  pub ask_snapshot10 : writes_ask (opens 1 1 four) (scope 0 5 0 0) 2 longest_ask ≡ refused 10
  pub answer_written : writes_answer (scope 0 5 0 0) 2 (1 ∷ 102 ∷ 1 ∷ 4 ∷ 105 ∷ 1 ∷ []) longest_answer ≡ gives sample_answer
  pub answer12 : writes_answer (scope 0 5 0 0) 0 [] (longest_answer - 1) ≡ refused 12
  pub answer_mark10 : writes_answer (scope 0 5 1 0) 0 [] (longest_answer - 1) ≡ refused 10
  pub answer_items10 : writes_answer (scope 0 5 0 0) 2 (1 ∷ 102 ∷ 1 ∷ []) longest_answer ≡ refused 10
  pub claim_written : writes_claim (negsuc 1 ∷ []) longest_claim ≡ gives (line_of (claim_bytes 3))
  pub claim12 : writes_claim (negsuc 1 ∷ []) (longest_claim - 1) ≡ refused 12
  pub claim10 : writes_claim wide (longest_claim - 1) ≡ refused 10
  pub ask_read : read_as_ask sample_ask ≡ gives (ask_value Near)
  pub ask_not9 : read_as_ask (ask_bytes 1 7 0 0 0 0 too_many) ≡ refused 9
  pub ask_not10 : read_as_ask (ask_with 1 7 0 0 0 0 too_many) ≡ refused 10
  pub ask_kind10 : read_as_ask sample_answer ≡ refused 10
  pub ask_kind_none10 : read_as_ask (ask_with 0 7 0 0 0 0 2) ≡ refused 10
  pub answer_read : read_as_answer sample_answer ≡ gives (answer_value Near (1 ∷ 102 ∷ 1 ∷ 4 ∷ 105 ∷ 1 ∷ []))
  pub answer_not9 : read_as_answer no_line ≡ refused 9
  pub answer_not10 : read_as_answer (answers 7 0 5 0 0 0 too_many overfull) ≡ refused 10
  pub answer_kind10 : read_as_answer sample_ask ≡ refused 10
  pub claim_read : read_as_claim (line_of (claim_bytes 3)) ≡ gives claim_value
  pub claim_not9 : read_as_claim (claim_bytes 1) ≡ refused 9
  pub claim_kind10 : read_as_claim (line_of (claim_bytes 1)) ≡ refused 10

-- ---- the public calls together

pub record CallsMarked : Type 0 where
  pub limits : LimitsMarked
  pub making : MakingMarked
  pub entering : EnteringMarked
  pub asking : AskingMarked
  pub office : OfficeMarked
  pub lists : ListsMarked
  pub taking : TakingMarked
  pub lines : LinesMarked
