-- An office table, the lists of all tablets, and the air between them: every line that either end ever wrote, for any list to take and for
-- the office to read, at any time, any number of times, or never. That is loss, repetition, delay and reordering at once. Definitions only.
use Rattle.std.specs.Prelude.{ℕ, ◌+◌, ◌≤◌, ◌<◌, ◌^◌, ◌≡◌, leb, eqb, length, get_or, set}
use mathlib.Core.List.{List, [], ◌∷◌, ◌++◌, Memᴰ}
use Rattle.paper.specs.Points.{Claim}
use Rattle.paper.specs.References.{references_of, in_force, anew}
use Rattle.paper.specs.Orders.{Query, query_in}
use Rattle.paper.specs.Lines.{no_query}
use Rattle.paper.specs.Outcomes.{Outcome, refused, gives, must}
use Rattle.paper.specs.Ends.{Answer, Codec, Table, count, office, Listing, fresh, opening, every, asking, taking}
use Rattle.orders.specs.LawfulLines.{Typed}
use Rattle.paper.specs.Limits.{most_claims}

pub record World : Type 0 where
  pub table : Table
  pub air : List (List ℕ)
  pub lists : List Listing

pub data Event : Type 0 where
  -- a run is entered
  enters : List Claim → Event
  -- a list is opened
  opens : Query → Event
  -- list i writes its present ask of a page size; rooms: items of the list, characters of the line
  asks : (i size room out : ℕ) → Event
  -- a line reaches the office, whose output room has so many characters
  receives : List ℕ → ℕ → Event
  -- list i, in a room of so many items, takes a line
  takes : (i room : ℕ) → List ℕ → Event
  -- a line comes from elsewhere
  strays : List ℕ → Event

-- a list that stands nowhere
abbrev pub no_listing : Listing
no_listing = fresh (query_in no_query)

abbrev pub the_list : World → ℕ → Listing
the_list w i = get_or w.lists i no_listing

-- [9.6] [3.15] all claims of a run, or none, by 5, 17 and 3: what 1, 2 and 4 are about is memory, which a world has none of
unfoldable pub run_entering : Table → List Claim → Outcome Table
run_entering t run =
    must (every (λ k. eqb (length k.point) t.d) run) 5
    (must (anew (in_force t.claims) (references_of run)) 17
    (must (leb (count t + length run) t.capacity) 3
    (gives (record { number = t.number; measure = t.measure; d = t.d; capacity = t.capacity; claims = t.claims ++ run }))))

-- [9.2] a refusal changes nothing
abbrev pub table_changed : World → Outcome Table → World
table_changed w (refused n) = w
table_changed w (gives t) = record { table = t; air = w.air; lists = w.lists }

abbrev pub list_added : World → Outcome Listing → World
list_added w (refused n) = w
list_added w (gives L) = record { table = w.table; air = w.air; lists = w.lists ++ (L ∷ []) }

abbrev pub sent : World → Outcome (List ℕ) → World
sent w (refused n) = w
sent w (gives s) = record { table = w.table; air = s ∷ w.air; lists = w.lists }

abbrev pub list_changed : World → ℕ → Outcome Listing → World
list_changed w i (refused n) = w
list_changed w i (gives L) = record { table = w.table; air = w.air; lists = set w.lists i L }

unfoldable pub next : Codec → World → Event → World
next c w (enters run) = table_changed w (run_entering w.table run)
next c w (opens q) = list_added w (opening q)
next c w (asks i size room out) = sent w (asking c room size out (the_list w i))
next c w (receives s out) = sent w (office c w.table out s)
next c w (takes i room s) = list_changed w i (taking c room (the_list w i) s)
next c w (strays s) = sent w (gives s)

-- [7.14] the premises: arguments are of their types, and what a list takes was written by one of the two ends or comes from elsewhere; the
-- office may get any line
unfoldable pub Allowed : Codec → (List ℕ → Type 0) → World → Event → Type 0
Allowed c Elsewhere w (enters run) = (k : Claim) → Memᴰ k run → k.reference < 2 ^ 32
Allowed c Elsewhere w (opens q) = Typed q
Allowed c Elsewhere w (asks i size room out) = i < length w.lists
Allowed c Elsewhere w (receives s out) = Unit {0}
Allowed c Elsewhere w (takes i room s) = (i < length w.lists) × Memᴰ s w.air
Allowed c Elsewhere w (strays s) = Elsewhere s

-- [3.1] [3.12] a table that a world may begin with
pub record TableOk (t : Table) : Type 0 where
  pub fits : count t ≤ t.capacity
  pub small : t.capacity ≤ most_claims
  pub references : (k : Claim) → Memᴰ k t.claims → k.reference < 2 ^ 32

pub data Reachable (c : Codec) (Elsewhere : List ℕ → Type 0) : World → Type 0 where
  begins : (t : Table) → TableOk t → Reachable c Elsewhere (record { table = t; air = []; lists = [] })
  goes : {w : World} → Reachable c Elsewhere w → (e : Event) → Allowed c Elsewhere w e → Reachable c Elsewhere (next c w e)

-- a later moment
pub data Later (c : Codec) (Elsewhere : List ℕ → Type 0) (w : World) : World → Type 0 where
  still : Later c Elsewhere w w
  onwards : {v : World} → Later c Elsewhere w v → (e : Event) → Allowed c Elsewhere v e → Later c Elsewhere w (next c v e)

-- [7.14] no line from elsewhere reads as an answer under this table number
unfoldable pub Unshared : Codec → (List ℕ → Type 0) → ℕ → Type 0
Unshared c Elsewhere number =
    (s : List ℕ) → Elsewhere s → (y : Answer) → c.read_answer s ≡ gives y → y.query.table ≡ number → ⊥
