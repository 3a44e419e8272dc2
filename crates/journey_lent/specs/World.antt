-- An office table in lent memory, the lists of all tablets, each in a lent room, and the air between them: every line that was ever
-- written, to arrive at any time, any number of times, or never. A step is what a public call makes of it: `enter`, `open_list`,
-- `write_ask`, `answer` or `take`. Definitions only.
use Rattle.std.specs.Prelude.{ℕ, ◌*◌, ◌≤◌, ◌<◌, ◌≡◌, ℤ, length, get_or, set, take}
use mathlib.Core.List.{List, [], ◌∷◌, ◌++◌, Memᴰ}
use Rattle.paper.specs.declared.lists.List as lists
use Rattle.paper.specs.Orders.{Query}
use Rattle.paper.specs.Outcomes.{leaves}
use Rattle.paper.specs.Tree.{Store}
use Rattle.paper.specs.Runs.{enter_call}
use Rattle.paper.specs.Ends.{Listing}
use Rattle.paper.specs.Lists.{Held, held, listing, no_list, opening_held, asking_held, taking_held, held_after}
use Rattle.paper.specs.Calls.{table_refusal, office_call}
use Rattle.paper.specs.Codec.{lines}
use Rattle.orders.specs.LawfulLines.{Typed}
use Rattle.journey_lent.specs.Elsewhere.{References, Foreign}

pub record LentWorld : Type 0 where
  pub store : Store
  pub air : List (List ℕ)
  pub lists : List Held

pub data LentEvent : Type 0 where
  -- a run is entered: its references, and its coordinates one after another
  enters : List ℕ → List ℤ → LentEvent
  -- a list is opened, to stand in a room of its own, whatever that holds
  opens : Query → List ℕ → LentEvent
  -- list i writes its present ask of a page size, into so many characters
  asks : (i size out : ℕ) → LentEvent
  -- a line reaches the office, whose output room has so many characters
  receives : List ℕ → ℕ → LentEvent
  -- list i takes a line
  takes : ℕ → List ℕ → LentEvent
  -- a line comes from elsewhere
  strays : List ℕ → LentEvent

-- list i with its room, and as a list of items; behind the last there is none
abbrev pub the_held : LentWorld → ℕ → Held
the_held w i = get_or w.lists i (held no_list [])

abbrev pub the_listing : LentWorld → ℕ → Listing
the_listing w i = listing (the_held w i)

-- what becomes of a world by what a call gives: a store, a list to stand in a room, a line
abbrev pub put_table : Store → LentWorld → LentWorld
put_table s w = record { store = s; air = w.air; lists = w.lists }

abbrev pub put_list : List ℕ → lists.List → LentWorld → LentWorld
put_list room l w = record { store = w.store; air = w.air; lists = w.lists ++ (held l room ∷ []) }

abbrev pub put_in_air : List ℕ → LentWorld → LentWorld
put_in_air line w = record { store = w.store; air = line ∷ w.air; lists = w.lists }

-- and by what is then held in the place of list i
abbrev pub put_held : ℕ → Held → LentWorld → LentWorld
put_held i h w = record { store = w.store; air = w.air; lists = set w.lists i h }

-- [9.6] [9.10] [9.11] [9.12] [9.13] each step by the outcome of its call; a refusal changes nothing [9.2]
unfoldable pub next_lent : LentWorld → LentEvent → LentWorld
next_lent w (enters given points) = leaves put_table (enter_call w.store given points) w
next_lent w (opens q room) = leaves (put_list room) (opening_held q) w
next_lent w (asks i size out) = leaves put_in_air (asking_held lines (the_held w i) size out) w
next_lent w (receives line out) = leaves put_in_air (office_call w.store out line) w
next_lent w (takes i line) = put_held i (held_after (the_held w i) (taking_held lines (the_held w i) line)) w
next_lent w (strays line) = put_in_air line w

-- [7.14] the premises: arguments are of their types, and what a list takes was written by one of the two ends, or comes from elsewhere and
-- not from another table of this number; the office may get any line
unfoldable pub LentAllowed : LentWorld → LentEvent → Type 0
LentAllowed w (enters given points) = References given
LentAllowed w (opens q room) = Typed q
LentAllowed w (asks i size out) = i < length w.lists
LentAllowed w (receives line out) = Unit {0}
LentAllowed w (takes i line) = (i < length w.lists) × Memᴰ line w.air
LentAllowed w (strays line) = Foreign w.store.table.number line

-- [7.3] another room with a list's items at its front
pub record Copied (h : Held) (room : List ℕ) : Type 0 where
  pub same : take (3 * h.list.count) room ≡ take (3 * h.list.count) h.room
  pub enough : 3 * h.list.count ≤ length room

-- one step: an event, or a list that goes on in another room, to which its items were copied
pub data LentStep (w : LentWorld) : LentWorld → Type 0 where
  happens : (e : LentEvent) → LentAllowed w e → LentStep w (next_lent w e)
  copies : (i : ℕ) → i < length w.lists → (room : List ℕ) → Copied (the_held w i) room → LentStep w (put_held i (held (the_held w i).list room) w)

-- [9.5] a world begins with a table that may be asked
pub data LentReachable : LentWorld → Type 0 where
  begins : (s : Store) → table_refusal s ≡ 0 → References s.references → LentReachable (record { store = s; air = []; lists = [] })
  goes : {w v : LentWorld} → LentReachable w → LentStep w v → LentReachable v

-- a later moment
pub data LentLater (w : LentWorld) : LentWorld → Type 0 where
  still : LentLater w w
  onwards : {v u : LentWorld} → LentLater w v → LentStep v u → LentLater w u
