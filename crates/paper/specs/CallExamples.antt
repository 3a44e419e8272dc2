-- The public calls on tables by example, each worked by hand from the rules: what a call gives, and [9.1] of two refusals that apply the
-- earlier. The claims, probe and reach are those of examples a to j. Definitions only.
use Rattle.std.specs.Prelude.{ℕ, ◌+◌, ◌-◌, ◌*◌, ◌≡◌, true, false, List, [], ◌∷◌, ◌++◌, ℤ, pos, replicate, None, Some}
use Rattle.paper.specs.declared.orders.Order.TheVariants.{Near, Far}
use Rattle.paper.specs.declared.orders.Place.{Place}
use Rattle.paper.specs.declared.orders.Place.TheVariants.{Start}
use Rattle.paper.specs.declared.tables.Table.{Table}
use Rattle.paper.specs.Limits.{most_coordinates, most_claims, most_page, longest_frame, longest_answer, longest_ask, longest_claim}
use Rattle.paper.specs.Tree.{Store, store}
use Rattle.paper.specs.Outcomes.{Outcome, refused, gives, number}
use Rattle.paper.specs.Frames.{line_of}
use Rattle.paper.specs.Runs.{make_call, enter_call}
use Rattle.paper.specs.Calls.{on_table, nearest_call, farthest_call, ThePage, page_call, office_call}
use Rattle.paper.specs.Examples.{item, after}
use Rattle.paper.specs.EndExamples.{sample_ask, sample_answer}

-- ---- tables in lent memory

abbrev pub header : ℕ → ℕ → ℕ → ℕ → ℕ → Table
header measure d capacity count used =
    record { number = 7; measure = measure; d = d; capacity = capacity; count = count; used = used }

-- an empty table, in memory for so many references, coordinates and numbers of nodes
abbrev pub empty : ℕ → ℕ → ℕ → ℕ → ℕ → ℕ → Store
empty measure d capacity references coordinates nodes =
    store (header measure d capacity 0 0) (replicate references 9) (replicate coordinates (pos 9)) (replicate nodes 9)

-- one with room for six claims
abbrev pub none : Store
none = empty 1 1 6 6 6 36

-- example a's nodes, its far distance and its last field as given; behind them and behind the claims stands what the memory held
abbrev pub rooms_of : ℕ → ℕ → List ℕ
rooms_of far field =
    (1 ∷ 2 ∷ 0 ∷ far ∷ 0 ∷ 2 ∷ [])
    ++ ((3 ∷ 4 ∷ 0 ∷ 1 ∷ 0 ∷ 3 ∷ [])
    ++ ((5 ∷ 0 ∷ 0 ∷ 0 ∷ 0 ∷ field ∷ [])
    ++ replicate 18 9))

abbrev pub five_in : ℕ → List ℕ → Store
five_in capacity nodes =
    store
    (header 1 1 capacity 5 3)
    (101 ∷ 102 ∷ 103 ∷ 104 ∷ 105 ∷ 9 ∷ [])
    (pos 2 ∷ pos 3 ∷ pos 9 ∷ pos 6 ∷ pos 5 ∷ pos 9 ∷ [])
    nodes

-- the five claims, entered
abbrev pub five_stored : Store
five_stored = five_in 6 (rooms_of 6 0)

-- the same with a reference that two claims share
abbrev pub twins : Store
twins = store five_stored.table (101 ∷ 102 ∷ 101 ∷ 104 ∷ 105 ∷ 9 ∷ []) five_stored.coordinates five_stored.nodes

-- one field of a room changed: not sound
abbrev pub changed : Store
changed = five_in 6 (rooms_of 5 0)

-- the same in memory that is too small for its capacity
abbrev pub short : Store
short = five_in 7 (rooms_of 5 0)

-- no claim, and yet a node in use, in memory that held nothing
abbrev pub node_in_use : Store
node_in_use = store (header 1 1 6 0 1) (replicate 6 0) (replicate 6 (pos 0)) (replicate 36 0)

-- what the test gives that every call on a table begins with
abbrev pub passed : Store → Outcome Table
passed s = on_table s (gives s.table)

-- ---- what is asked

abbrev pub four : List ℤ
four = pos 4 ∷ []

-- a probe of two coordinates
abbrev pub wide : List ℤ
wide = pos 4 ∷ pos 4 ∷ []

abbrev pub page_from : Store → List ℤ → Place → ℕ → ℕ → Outcome ThePage
page_from s probe place size room = page_call s Near probe 5 place size room

-- the bytes of an ask, by its kind, table, from, snapshot, mark distance, mark number and page size
abbrev pub ask_bytes : ℕ → ℕ → ℕ → ℕ → ℕ → ℕ → ℕ → List ℕ
ask_bytes kind table from snapshot distance number size =
    (kind ∷ 0 ∷ 0 ∷ 0 ∷ table ∷ 1 ∷ 1 ∷ 0 ∷ 0 ∷ 0 ∷ 4 ∷ 0 ∷ 0 ∷ 0 ∷ 0 ∷ 0 ∷ 0 ∷ 0 ∷ 5 ∷ from ∷ 0 ∷ snapshot ∷ [])
    ++ (0 ∷ 0 ∷ 0 ∷ 0 ∷ 0 ∷ 0 ∷ 0 ∷ distance ∷ 0 ∷ number ∷ size ∷ [])

abbrev pub ask_with : ℕ → ℕ → ℕ → ℕ → ℕ → ℕ → ℕ → List ℕ
ask_with kind table from snapshot distance number size = line_of (ask_bytes kind table from snapshot distance number size)

-- no even run of digits, and no end
abbrev pub no_line : List ℕ
no_line = 48 ∷ []

abbrev pub office_at : Store → List ℕ → Outcome (List ℕ)
office_at s line = office_call s longest_answer line

-- one item more than a page has
abbrev pub too_many : ℕ
too_many = most_page + 1

-- ---- [5.11] the limits, as numbers

pub record LimitsMarked : Type 0 where
  pub coordinates : most_coordinates ≡ 8
  pub claims : most_claims ≡ 4096
  pub page : most_page ≡ 16
  pub frame : longest_frame ≡ 286
  pub answer : longest_answer ≡ 573
  pub ask : longest_ask ≡ 123
  pub claim : longest_claim ≡ 87

-- ---- [9.4] making an empty table

pub record MakingMarked : Type 0 where
  pub made : make_call none ≡ gives (header 1 1 6 0 0)
  -- [8.1] each out of its range
  pub measure0 : make_call (empty 0 1 6 6 6 36) ≡ refused 1
  pub measure4 : make_call (empty 4 1 6 6 6 36) ≡ refused 1
  pub d0 : make_call (empty 1 0 6 6 6 36) ≡ refused 1
  pub d9 : make_call (empty 1 9 6 6 54 36) ≡ refused 1
  pub capacity0 : make_call (empty 1 1 0 6 6 36) ≡ refused 1
  pub capacity4097 : make_call (empty 1 1 4097 4097 4097 24582) ≡ refused 1
  -- [3.2] and each part of lent memory one short
  pub references5 : make_call (empty 1 1 6 5 6 36) ≡ refused 1
  pub coordinates11 : make_call (empty 1 2 6 6 11 36) ≡ refused 1
  pub rooms35 : make_call (empty 1 1 6 6 6 35) ≡ refused 1
  -- the last measure and the most coordinates
  pub widest : make_call (empty 3 8 6 6 48 36) ≡ gives (header 3 8 6 0 0)

-- ---- [9.6] entering

pub record EnteringMarked : Type 0 where
  -- every call on a table begins with 1 and 2; more claims than the capacity are not sound either, nor more nodes in use than claims
  pub tested : passed five_stored ≡ gives (header 1 1 6 5 3)
  pub changed2 : passed changed ≡ refused 2
  pub changed_last2 : passed (five_in 6 (rooms_of 6 1)) ≡ refused 2
  pub over2 : passed (five_in 4 (rooms_of 6 0)) ≡ refused 2
  pub more_nodes2 : passed node_in_use ≡ refused 2
  pub short1 : passed short ≡ refused 1
  -- the five claims into a table that has none: example a's nodes
  pub entered : enter_call none (101 ∷ 102 ∷ 103 ∷ 104 ∷ 105 ∷ []) (pos 2 ∷ pos 3 ∷ pos 9 ∷ pos 6 ∷ pos 5 ∷ []) ≡ gives five_stored
  -- [3.15] a run of no claims
  pub nothing_entered : enter_call five_stored [] [] ≡ gives five_stored
  pub full3 : enter_call five_stored (106 ∷ 107 ∷ []) (pos 4 ∷ pos 4 ∷ []) ≡ refused 3
  pub uneven5 : enter_call five_stored (106 ∷ []) (pos 4 ∷ pos 4 ∷ []) ≡ refused 5
  -- with too many claims; with a room changed; with memory too small
  pub first5 : enter_call five_stored (106 ∷ 107 ∷ []) (pos 4 ∷ []) ≡ refused 5
  pub first2 : enter_call changed (106 ∷ []) (pos 4 ∷ pos 4 ∷ []) ≡ refused 2
  pub first1 : enter_call short (106 ∷ []) (pos 4 ∷ []) ≡ refused 1
  -- [8.3] a run that just fills the table
  pub fills0 : number (enter_call five_stored (106 ∷ []) (pos 4 ∷ [])) ≡ 0
  -- [8.17] a reference of the table; one that the run has twice, another between; one that only unused memory holds
  pub known17 : enter_call five_stored (103 ∷ []) four ≡ refused 17
  pub twice17 : enter_call none (106 ∷ 107 ∷ 106 ∷ []) (pos 4 ∷ pos 5 ∷ pos 6 ∷ []) ≡ refused 17
  pub unused0 : number (enter_call five_stored (9 ∷ []) four) ≡ 0
  -- [3.17] a table that holds a repeat is sound, and takes a reference that is new to it
  pub twins_tested : passed twins ≡ gives (header 1 1 6 5 3)
  pub twins_enter0 : number (enter_call twins (103 ∷ []) four) ≡ 0
  pub twins17 : enter_call twins (101 ∷ []) four ≡ refused 17
  -- a run that does not fit either; and one that has not d coordinates for each, where 5 comes first
  pub first17 : enter_call five_stored (106 ∷ 106 ∷ []) wide ≡ refused 17
  pub known5 : enter_call five_stored (103 ∷ []) wide ≡ refused 5

-- ---- [9.7] nearest and farthest; [9.8] a page

pub record AskingMarked : Type 0 where
  -- examples c and d
  pub nearest : nearest_call five_stored four 5 ≡ gives (Some (item 1 102 1))
  pub within0 : nearest_call five_stored four 0 ≡ gives None
  pub within1 : nearest_call five_stored four 1 ≡ gives (Some (item 1 102 1))
  pub nearest5 : nearest_call five_stored wide 5 ≡ refused 5
  pub nearest2 : nearest_call changed wide 5 ≡ refused 2
  pub nearest1 : nearest_call short four 5 ≡ refused 1
  pub farthest : farthest_call five_stored four ≡ gives (Some (item 2 103 5))
  -- a table without a claim
  pub of_none : farthest_call none four ≡ gives None
  pub farthest5 : farthest_call five_stored wide ≡ refused 5
  pub farthest2 : farthest_call changed wide ≡ refused 2
  pub farthest1 : farthest_call short four ≡ refused 1
  -- example e; in far order the first is the farthest
  pub page : page_from five_stored four Start 2 6 ≡ gives (record { items = item 1 102 1 ∷ item 4 105 1 ∷ []; last = false })
  pub next : page_from five_stored four (after 5 1 4) 2 6 ≡ gives (record { items = item 0 101 2 ∷ item 3 104 2 ∷ []; last = false })
  pub far : page_call five_stored Far four 5 Start 1 3 ≡ gives (record { items = item 2 103 5 ∷ []; last = false })
  -- [4.7] [8.12] all that are left, in a room for just these: the last page, though it is full
  pub full_last : page_from five_stored four (after 5 1 4) 3 9 ≡ gives (record { items = item 0 101 2 ∷ item 3 104 2 ∷ item 2 103 5 ∷ []; last = true })
  pub size0 : page_from five_stored four Start 0 6 ≡ refused 6
  pub size_over : page_from five_stored four Start too_many (3 * too_many) ≡ refused 6
  -- examples h and g; a mark over reach; a room for one item too few
  pub snapshot7 : page_from five_stored four (after 6 1 4) 2 6 ≡ refused 7
  pub mark8 : page_from five_stored four (after 5 2 4) 2 6 ≡ refused 8
  pub beyond8 : page_call five_stored Near four 4 (after 5 5 2) 2 6 ≡ refused 8
  pub room12 : page_from five_stored four Start 2 5 ≡ refused 12
  -- of two the earlier
  pub first1 : page_from short wide Start 2 6 ≡ refused 1
  pub first2 : page_from changed wide Start 2 6 ≡ refused 2
  pub first5 : page_from five_stored wide Start 0 6 ≡ refused 5
  pub first6 : page_from five_stored four (after 6 1 4) 0 6 ≡ refused 6
  pub first7 : page_from five_stored four (after 6 2 4) 2 6 ≡ refused 7
  pub first8 : page_from five_stored four (after 5 2 4) 2 5 ≡ refused 8
  -- a mark just at the reach: nothing comes after it
  pub at_reach : page_from five_stored four (after 5 5 2) 2 6 ≡ gives (record { items = []; last = true })

-- ---- [9.10] the office

pub record OfficeMarked : Type 0 where
  pub answered : office_at five_stored sample_ask ≡ gives sample_answer
  pub room12 : office_call five_stored (longest_answer - 1) sample_ask ≡ refused 12
  pub line9 : office_at five_stored no_line ≡ refused 9
  pub kind10 : office_at five_stored (ask_with 2 7 0 0 0 0 2) ≡ refused 10
  pub table11 : office_at five_stored (ask_with 1 8 0 0 0 0 2) ≡ refused 11
  pub snapshot7 : office_at five_stored (ask_with 1 7 1 6 1 4 2) ≡ refused 7
  pub mark8 : office_at five_stored (ask_with 1 7 1 5 2 4 2) ≡ refused 8
  -- of two the earlier
  pub first12 : office_call short (longest_answer - 1) sample_ask ≡ refused 12
  pub first1 : office_at short sample_ask ≡ refused 1
  pub first2 : office_at changed no_line ≡ refused 2
  pub first9 : office_at five_stored (ask_bytes 2 7 0 0 0 0 2) ≡ refused 9
  pub first10 : office_at five_stored (ask_with 1 8 0 0 0 0 too_many) ≡ refused 10
  pub first11 : office_at five_stored (ask_with 1 8 1 6 1 4 2) ≡ refused 11
  pub first7 : office_at five_stored (ask_with 1 7 1 6 2 4 2) ≡ refused 7
