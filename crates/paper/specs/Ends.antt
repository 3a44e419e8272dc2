-- Sections 6 and 7 of the rules: the office, and a tablet's list. Definitions only.
use Rattle.std.specs.Prelude.{ℕ, zero, suc, ◌+◌, ◌-◌, Bool, true, false, cond, ◌&&◌, ◌||◌, not, List, [], ◌∷◌, ◌++◌, ltb, leb, eqb, ℤ, pos, negsuc, length, get_or}
use Rattle.paper.specs.declared.orders.Mark.{Mark}
use Rattle.paper.specs.declared.orders.Order.{Order}
use Rattle.paper.specs.declared.orders.Place.{Place}
use Rattle.paper.specs.declared.orders.Place.TheVariants.{Start, After}
use Rattle.paper.specs.Points.{Claim, in_range}
use Rattle.paper.specs.declared.orders.Item.{Item}
use Rattle.paper.specs.Orders.{no_item, Query, same_order, earlier, follows, snapshot_of, snapshot_holds, following, page_of, last_of, mark_holds}
use Rattle.paper.specs.Tree.{Store, claims_in}
use Rattle.paper.specs.Outcomes.{Outcome, must, onto, gives}
use Rattle.paper.specs.Limits.{longest_answer, longest_ask, most_claims, most_page}

-- ---- what the lines between the two ends say

-- [5.5] an ask: what the list was opened with, where the page starts, and the page size
pub record Ask : Type 0 where
  pub query : Query
  pub place : Place
  pub size : ℕ

-- [5.6] [6.4] an answer: query and place of its ask, the snapshot that the page is of, and the page
pub record Answer : Type 0 where
  pub query : Query
  pub place : Place
  pub snapshot : ℕ
  pub last : Bool
  pub items : List Item

-- The writers and readers of asks and answers, in either order; a reader's refusals are 9 and 10. A line's kind tells its order.
pub record Codec : Type 0 where
  pub ask_line : Ask → List ℕ
  pub answer_line : Answer → List ℕ
  pub read_ask : List ℕ → Outcome Ask
  pub read_answer : List ℕ → Outcome Answer

-- ---- the office

-- [3.1] [1.1] a table's number, measure, d and capacity, and its claims by rising number
pub record Table : Type 0 where
  pub number : ℕ
  pub measure : ℕ
  pub d : ℕ
  pub capacity : ℕ
  pub claims : List Claim

abbrev pub count : Table → ℕ
count t = length t.claims

-- a table in lent memory, as a table of claims
abbrev pub table_of : Store → Table
table_of s =
    record {
      number = s.table.number;
      measure = s.table.measure;
      d = s.table.d;
      capacity = s.table.capacity;
      claims = claims_in s;
    }

-- [6.2] [8.11] an ask is for a table when table number, measure and d are the table's
unfoldable pub matches : Table → Query → Bool
matches t q = eqb q.table t.number && (eqb q.measure t.measure && eqb q.d t.d)

-- [6.3] [6.4] the page that an ask names, with its ask's fields and the snapshot that the page is of
unfoldable pub answer_of : Table → Ask → Answer
answer_of t a =
    record {
      query = a.query;
      place = a.place;
      snapshot = snapshot_of a.place (count t);
      last = last_of a.size (following a.query t.claims a.place);
      items = page_of a.query t.claims a.place a.size;
    }

-- [9.10] [8.11] [8.7] [8.8] the answer to an ask
unfoldable pub answer_to : Table → Ask → Outcome Answer
answer_to t a =
    must (matches t a.query) 11
    (must (snapshot_holds t.claims a.place) 7
    (must (mark_holds a.query t.claims a.place) 8
    (gives (answer_of t a))))

-- [6.1] [9.10] the answer line to an ask line, by that line and the table alone
unfoldable pub line_answered : Codec → Table → List ℕ → Outcome (List ℕ)
line_answered c t line = onto (c.read_ask line) (λ a. onto (answer_to t a) (λ y. gives (c.answer_line y)))

-- [8.12] room for the longest answer. Between 12 and 9 a call on lent memory has its 1 and 2.
abbrev pub answer_room : ℕ → Bool
answer_room out = leb longest_answer out

-- [9.10] the same in an output room of so many characters
unfoldable pub office : Codec → Table → ℕ → List ℕ → Outcome (List ℕ)
office c t out line = must (answer_room out) 12 (line_answered c t line)

-- ---- the tablet

-- [7.1] a list: what it was opened for, and what it has loaded
pub record Listing : Type 0 where
  pub query : Query
  pub started : Bool
  pub snapshot : ℕ
  pub complete : Bool
  pub items : List Item

-- [7.2] a list before it starts
abbrev pub fresh : Query → Listing
fresh q = record { query = q; started = false; snapshot = 0; complete = false; items = [] }

-- [9.11] [8.1] [8.5] opening a list tests measure and d, and then the probe
unfoldable pub opening : Query → Outcome Listing
opening q = must (in_range q.measure q.d) 1 (must (eqb (length q.probe) q.d) 5 (gives (fresh q)))

-- [7.4] the last item, and an item as a mark
abbrev pub last_item : List Item → Item
last_item l = get_or l (length l - 1) no_item

abbrev pub mark_of : Item → Mark
mark_of a = record { distance = a.distance; number = a.number }

-- [7.4] where the next page starts: at the start until the list has started, then at its snapshot, with the last item as the mark
unfoldable pub present_place : Listing → Place
present_place L = cond L.started (After L.snapshot (mark_of (last_item L.items))) Start

-- [7.4] the present ask, of any size
abbrev pub present_ask : Listing → ℕ → Ask
present_ask L size = record { query = L.query; place = present_place L; size = size }

-- all of a list pass a test
unfoldable pub every : {A : Type 0} → (A → Bool) → List A → Bool
every p [] = true
every p (x ∷ l) = p x && every p l

-- [7.6] items rise in order: each stands before the next
abbrev pub leads : Order → Item → List Item → Bool
leads o a [] = true
leads o a (b ∷ l) = earlier o a b

unfoldable pub rising : Order → List Item → Bool
rising o [] = true
rising o (a ∷ l) = leads o a l && rising o l

-- [7.6] an item is within reach, and its number below the snapshot
abbrev pub fitting : ℕ → ℕ → Item → Bool
fitting reach snapshot a = leb a.distance reach && ltb a.number snapshot

-- [7.11] before it starts a list is as 7.2 says; afterwards only a complete one has no item
unfoldable pub started_well : Listing → Bool
started_well L =
    cond L.started
    (leb 1 (length L.items) || L.complete)
    (eqb (length L.items) 0 && (eqb L.snapshot 0 && not L.complete))

-- [7.9] [7.10] [7.11] [8.2] a sound list. Here `room` is in items, and the probe has its d slots alone.
unfoldable pub sound_in : ℕ → Listing → Bool
sound_in room L =
    in_range L.query.measure L.query.d
    && (eqb (length L.query.probe) L.query.d
    && (leb L.snapshot most_claims
    && (leb (length L.items) room
    && (rising L.query.order L.items
    && (every (fitting L.query.reach L.snapshot) L.items
    && started_well L)))))

-- [4.3] [8.6] a page size is in its range
abbrev pub size_holds : ℕ → Bool
size_holds size = leb 1 size && leb size most_page

-- [8.12] room for the longest ask
abbrev pub ask_room : ℕ → Bool
ask_room out = leb longest_ask out

-- [9.12] [7.8] [8.16] writing the present ask; a complete list asks no more
unfoldable pub asking : Codec → ℕ → ℕ → ℕ → Listing → Outcome (List ℕ)
asking c room size out L =
    must (sound_in room L) 2
    (must (not L.complete) 16
    (must (size_holds size) 6
    (must (ask_room out) 12
    (gives (c.ask_line (present_ask L size))))))

-- the same coordinate
abbrev pub same_z : ℤ → ℤ → Bool
same_z (pos a) (pos b) = eqb a b
same_z (pos a) (negsuc b) = false
same_z (negsuc a) (pos b) = false
same_z (negsuc a) (negsuc b) = eqb a b

-- the same first d coordinates
unfoldable pub same_probe : ℕ → List ℤ → List ℤ → Bool
same_probe zero p q = true
same_probe (suc d) p q = same_probe d p q && same_z (get_or p d (pos 0)) (get_or q d (pos 0))

-- [7.5] table, measure, d, probe and reach agree
unfoldable pub same_query : Query → Query → Bool
same_query q r =
    eqb q.table r.table
    && (eqb q.measure r.measure
    && (eqb q.d r.d
    && (same_probe q.d q.probe r.probe
    && eqb q.reach r.reach)))

-- [7.5] from agrees, and after the start also snapshot and mark
unfoldable pub same_place : Place → Place → Bool
same_place Start Start = true
same_place Start (After k m) = false
same_place (After n l) Start = false
same_place (After n l) (After k m) = eqb n k && (eqb l.distance m.distance && eqb l.number m.number)

-- [7.5] [8.13] an answer is to the present ask, whatever page size that had
unfoldable pub to_present : Listing → Answer → Bool
to_present L y = same_query L.query y.query && same_place (present_place L) y.place

-- [7.6] [8.14] a page holds: its items do and come after the mark, and it has one or is the last
unfoldable pub page_holds : Answer → Bool
page_holds y =
    rising y.query.order y.items
    && (every (follows y.query.order y.place) y.items
    && (every (fitting y.query.reach y.snapshot) y.items
    && (leb 1 (length y.items) || y.last)))

-- [7.7] [7.8] a list that took an answer: it has started, the items are behind its own, and a last page completes it
unfoldable pub joined_to : Listing → Answer → Listing
joined_to L y =
    record { query = L.query; started = true; snapshot = y.snapshot; complete = y.last; items = L.items ++ y.items }

-- [9.13] [7.8] [8.15] [8.16] taking an answer; a complete list takes no more, and the room has to have place for the items
unfoldable pub taken : ℕ → Listing → Answer → Outcome Listing
taken room L y =
    must (not L.complete) 16
    (must (to_present L y) 13
    (must (page_holds y) 14
    (must (leb (length L.items + length y.items) room) 15
    (gives (joined_to L y)))))

-- [7.5] [8.10] an answer of the list's own kind: a line of the other order's is none that the list expects
abbrev pub own_kind : Listing → Answer → Bool
own_kind L y = same_order L.query.order y.query.order

-- [9.13] taking a line
unfoldable pub taking : Codec → ℕ → Listing → List ℕ → Outcome Listing
taking c room L line = must (sound_in room L) 2 (onto (c.read_answer line) (λ y. must (own_kind L y) 10 (taken room L y)))
