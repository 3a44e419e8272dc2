-- Asks, answers and claims as lines. Each has its frame, the test that a writer puts to its fields, the test that a reader puts to a frame, and
-- the value that a frame holds. Asks and answers have a kind for each order, said once; their layout does not depend on it. Assumes nothing.
--
-- | line   | fields in order, with their bytes                                                          | bytes         |
-- |--------|--------------------------------------------------------------------------------------------|---------------|
-- | ask    | kind 1, table 4, measure 1, d 1, probe 4d, reach 8, from 1, snapshot 2, mark 8 + 2, size 1  | 29 + 4d       |
-- | answer | kind 1, table 4, measure 1, d 1, probe 4d, reach 8, from 1, snapshot 2, mark 8 + 2, last 1, | 30 + 4d + 14k |
-- |        | item count 1, and for each of k items: number 2, reference 4, distance 8                   |               |
-- | claim  | kind 1, table 4, measure 1, d 1, reference 4, point 4d                                     | 11 + 4d       |
use Rattle.std.specs.Prelude.{ℕ, ◌+◌, ◌*◌, Bool, ◌&&◌, ◌||◌, List, ◌++◌, length, drop, replicate, leb, eqb, ℤ, pos}
use Rattle.paper.specs.Points.{in_range}
use Rattle.paper.specs.Orders.{Query, order_by}
use Rattle.paper.specs.Outcomes.{Outcome, gives, must, showing, Promise}
use Rattle.paper.specs.Frames.{be, num, line_of, frame_of, is_line}
use Rattle.paper.specs.Fields.{head, coord_bytes, coords_in, in_slots, front, scope_in, scope_ok, item_bytes, item_numbers, item_slots, numbers_ok, references_ok}
use Rattle.paper.specs.declared.orders.Order.{Order}
use Rattle.paper.specs.declared.orders.Order.TheVariants.{Near, Far}
use Rattle.paper.specs.declared.queries.Query as queries
use Rattle.paper.specs.declared.lines.Scope.{Scope}
use Rattle.paper.specs.declared.lines.Ask.{Ask}
use Rattle.paper.specs.declared.lines.Answer.{Answer}
use Rattle.paper.specs.declared.lines.ClaimLine.{ClaimLine}
use Rattle.paper.specs.Limits.{most_page, most_coordinates}

-- ---- the kinds of line

-- [5.5] the kind of an ask in an order
abbrev pub ask_kind : Order → ℕ
ask_kind Near = 1
ask_kind Far = 4

-- [5.6] the kind of an answer in an order
abbrev pub answer_kind : Order → ℕ
answer_kind Near = 2
answer_kind Far = 5

-- the order whose asks are of a kind, and the one whose answers are; near where there is none
abbrev pub ask_order : ℕ → Order
ask_order k = order_by (eqb k (ask_kind Far))

abbrev pub answer_order : ℕ → Order
answer_order k = order_by (eqb k (answer_kind Far))

-- [5.7] the kind of a claim
abbrev pub claim_kind : ℕ
claim_kind = 3

-- ---- writing and reading, whatever the kind

-- [5.12] what a call that writes a line shows of its outcome: the line's length
abbrev pub wrote_shown : Outcome (List ℕ) → Outcome ℕ
wrote_shown o = showing length o

-- [5.12] the line stands at the front of the output room, and the bytes behind it are kept
abbrev pub put_line : List ℕ → List ℕ → List ℕ
put_line line out = line ++ drop (length line) out

-- [9.3] what every call that writes a line promises
abbrev pub Writes : Outcome (List ℕ) → List ℕ → Outcome ℕ → List ℕ → Type 0
Writes o before r after = Promise wrote_shown put_line o before r after

-- [9.14] [8.12] a bare writer refuses by 10 and 12: by whether the fields fit, the room that the kind needs, the frame, and the
-- room's length
unfoldable pub bare_line : Bool → ℕ → List ℕ → ℕ → Outcome (List ℕ)
bare_line fits need f out = must fits 10 (must (leb need out) 12 (gives (line_of f)))

-- [9.15] a bare reader refuses by 9 and 10: by a kind's test, and the value of its frame
unfoldable pub reading : {A : Type 0} → (List ℕ → Bool) → (List ℕ → A) → List ℕ → Outcome A
reading ok value l = must (is_line l) 9 (must (ok (frame_of l)) 10 (gives (value (frame_of l))))

-- [5.4] [8.10] a frame that begins with a head of kind k, in range
unfoldable pub head_ok : ℕ → List ℕ → Bool
head_ok k f = eqb (num 1 f) k && in_range (num 1 (drop 5 f)) (num 1 (drop 6 f))

-- the frame behind its probe, where the reach stands
unfoldable pub behind : List ℕ → List ℕ
behind f = drop (7 + 4 * num 1 (drop 6 f)) f

-- [5.5] [5.6] the query of an ask's or an answer's frame
unfoldable pub query_at : Order → List ℕ → queries.Query
query_at o f =
    record {
      order = o;
      table = num 4 (drop 1 f);
      measure = num 1 (drop 5 f);
      d = num 1 (drop 6 f);
      probe = in_slots (num 1 (drop 6 f)) (coords_in (num 1 (drop 6 f)) (drop 7 f));
      reach = num 8 (behind f);
    }

-- [8.10] a query that a line can carry: in range, and with a probe of the length that d says
unfoldable pub query_fits : Query → Bool
query_fits q = in_range q.measure q.d && eqb (length q.probe) q.d

-- [5.14] the fields of a refused line are 0
abbrev pub no_query : queries.Query
no_query = record { order = Near; table = 0; measure = 0; d = 0; probe = replicate most_coordinates (pos 0); reach = 0 }

abbrev pub no_scope : Scope
no_scope = record { from = 0; snapshot = 0; distance = 0; number = 0 }

-- ---- ask

-- [5.5] the frame of an ask, which ends in its page size
unfoldable pub ask_frame : Query → Scope → ℕ → List ℕ
ask_frame q p s = front (ask_kind q.order) q p ++ be 1 s

-- [4.3] [5.10] the page size is in its range, and at the start an ask's snapshot is 0
unfoldable pub ask_ranges : Scope → ℕ → Bool
ask_ranges p s = scope_ok p && ((eqb p.from 1 || eqb p.snapshot 0) && (leb 1 s && leb s most_page))

-- [8.10] fields that an ask can have
unfoldable pub ask_fits : Query → Scope → ℕ → Bool
ask_fits q p s = query_fits q && ask_ranges p s

-- [8.10] [5.5] a frame of kind k that is laid out as an ask: its length, and its fields in their ranges
unfoldable pub ask_ok : ℕ → List ℕ → Bool
ask_ok k f =
    head_ok k f && (eqb (length f) (29 + 4 * num 1 (drop 6 f)) && ask_ranges (scope_in (behind f)) (num 1 (drop 21 (behind f))))

-- a frame that is an ask, of the order that its kind tells
unfoldable pub is_ask : List ℕ → Bool
is_ask f = ask_ok (ask_kind (ask_order (num 1 f))) f

-- [5.5] the fields of an ask's frame
unfoldable pub ask_at : List ℕ → Ask
ask_at f = record { query = query_at (ask_order (num 1 f)) f; scope = scope_in (behind f); size = num 1 (drop 21 (behind f)) }

-- [9.15] what reading a line as an ask gives
unfoldable pub read_as_ask : List ℕ → Outcome Ask
read_as_ask l = reading is_ask ask_at l

-- ---- answer

-- [5.6] the frame of an answer: behind the mark it has last, item count and items
unfoldable pub answer_frame : Query → Scope → ℕ → ℕ → List ℕ → List ℕ
answer_frame q p last n ns = front (answer_kind q.order) q p ++ (be 1 last ++ (be 1 n ++ item_bytes ns))

-- [5.8] [5.9] last is a flag, and the item count in its range
unfoldable pub answer_ranges : Scope → ℕ → ℕ → Bool
answer_ranges p last n = scope_ok p && (leb last 1 && leb n most_page)

-- [8.10] fields that an answer can have, with as many items as it counts
unfoldable pub answer_fits : Query → Scope → ℕ → ℕ → List ℕ → Bool
answer_fits q p last n ns =
    query_fits q && (answer_ranges p last n && (eqb (length ns) (3 * n) && (references_ok ns && numbers_ok ns)))

-- the item count of an answer's frame
unfoldable pub count_in : List ℕ → ℕ
count_in f = num 1 (drop 22 (behind f))

-- [8.10] [5.6] a frame of kind k that is laid out as an answer: its length, and its fields in their ranges
unfoldable pub answer_ok : ℕ → List ℕ → Bool
answer_ok k f =
    head_ok k f
    && (eqb (length f) (30 + 4 * num 1 (drop 6 f) + 14 * count_in f)
    && (answer_ranges (scope_in (behind f)) (num 1 (drop 21 (behind f))) (count_in f) && numbers_ok (item_numbers (count_in f) (drop 23 (behind f)))))

-- a frame that is an answer, of the order that its kind tells
unfoldable pub is_answer : List ℕ → Bool
is_answer f = answer_ok (answer_kind (answer_order (num 1 f))) f

-- [5.6] the fields of an answer's frame
unfoldable pub answer_at : List ℕ → Answer
answer_at f =
    record {
      query = query_at (answer_order (num 1 f)) f;
      scope = scope_in (behind f);
      last = num 1 (drop 21 (behind f));
      count = count_in f;
      items = item_slots (count_in f) (item_numbers (count_in f) (drop 23 (behind f)));
    }

-- [9.15] what reading a line as an answer gives
unfoldable pub read_as_answer : List ℕ → Outcome Answer
read_as_answer l = reading is_answer answer_at l

-- ---- claim

-- [5.7] the frame of a claim: head, reference, point
unfoldable pub claim_frame : ℕ → ℕ → ℕ → ℕ → List ℤ → List ℕ
claim_frame t m d r cs = head claim_kind t m d ++ (be 4 r ++ coord_bytes cs)

-- [8.10] fields that a claim can have, with a point of the length that d says
unfoldable pub claim_fits : ℕ → ℕ → List ℤ → Bool
claim_fits m d cs = in_range m d && eqb (length cs) d

-- [8.10] [5.7] a frame that is a claim: its length, and its head in range
unfoldable pub claim_ok : List ℕ → Bool
claim_ok f = head_ok claim_kind f && eqb (length f) (11 + 4 * num 1 (drop 6 f))

-- [5.7] the fields of a claim's frame
unfoldable pub claim_at : List ℕ → ClaimLine
claim_at f =
    record {
      table = num 4 (drop 1 f);
      measure = num 1 (drop 5 f);
      d = num 1 (drop 6 f);
      reference = num 4 (drop 7 f);
      coordinates = in_slots (num 1 (drop 6 f)) (coords_in (num 1 (drop 6 f)) (drop 11 f));
    }

-- [9.15] what reading a line as a claim gives
unfoldable pub read_as_claim : List ℕ → Outcome ClaimLine
read_as_claim l = reading claim_ok claim_at l
