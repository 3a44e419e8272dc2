-- A tablet's list as code holds it: its fields by value, and its items as numbers, three for each, at the front of a lent room. Definitions only.
use Rattle.std.specs.Prelude.{ℕ, zero, suc, ◌/◌, Bool, false, ◌&&◌, List, [], ◌∷◌, ℤ, pos, length, get_or, drop}
use Rattle.paper.specs.declared.lists.List as lists
use Rattle.paper.specs.declared.queries.Query as queries
use Rattle.paper.specs.declared.orders.Item.{Item}
use Rattle.paper.specs.Orders.{Query, query_in, fronted}
use Rattle.paper.specs.Outcomes.{Outcome, refused, gives, must, onto, leaves, showing, Promise}
use Rattle.paper.specs.Ends.{Codec, Listing, opening, every, same_z, sound_in, asking, taking}
use Rattle.paper.specs.Fields.{query_in_slots}
use Rattle.paper.specs.Lines.{no_query}

-- [7.3] a list's fields, with the room that its items stand in
pub record Held : Type 0 where
  pub list : lists.List
  pub room : List ℕ

abbrev pub held : lists.List → List ℕ → Held
held l room = record { list = l; room = room }

-- [2.6] the first k items of a room, three numbers for each
unfoldable pub items_in : ℕ → List ℕ → List Item
items_in zero r = []
items_in (suc k) r = record { number = get_or r 0 0; reference = get_or r 1 0; distance = get_or r 2 0 } ∷ items_in k (drop 3 r)

-- how many items a room has place for
abbrev pub room_for : Held → ℕ
room_for s = length s.room / 3

-- the list that is held
unfoldable pub listing : Held → Listing
listing s =
    record {
      query = query_in s.list.query;
      started = s.list.started;
      snapshot = s.list.snapshot;
      complete = s.list.complete;
      items = items_in s.list.count s.room;
    }

-- [7.9] the unused coordinates of a probe are 0
unfoldable pub unused_zero : ℕ → List ℤ → Bool
unused_zero d probe = every (same_z (pos 0)) (drop d probe)

-- [7.9] what soundness asks of a query as code holds it: zeros behind the probe
unfoldable pub held_well : queries.Query → Bool
held_well q = unused_zero q.d q.probe

-- [7.9] [7.10] [7.11] [8.2] a sound list in lent memory
unfoldable pub sound_held : Held → Bool
sound_held s = held_well s.list.query && sound_in (room_for s) (listing s)

-- [7.1] [7.2] the fields of a list that was just opened
unfoldable pub opened_as : Query → lists.List
opened_as q = record { query = query_in_slots q; started = false; snapshot = 0; count = 0; complete = false }

-- [9.11] opening a list
unfoldable pub opening_held : Query → Outcome lists.List
opening_held q = onto (opening q) (λ L. gives (opened_as q))

-- [9.11] the list beside a refusal
abbrev pub no_list : lists.List
no_list = record { query = no_query; started = false; snapshot = 0; count = 0; complete = false }

-- [9.12] writing the present ask
unfoldable pub asking_held : Codec → Held → ℕ → ℕ → Outcome (List ℕ)
asking_held c s size out = must (held_well s.list.query) 2 (asking c (room_for s) size out (listing s))

-- [9.13] taking a line
unfoldable pub taking_held : Codec → Held → List ℕ → Outcome Listing
taking_held c s line = must (held_well s.list.query) 2 (taking c (room_for s) (listing s) line)

-- [7.1] a list's fields after it took items: what it was opened with stays
abbrev pub took_fields : lists.List → Listing → lists.List
took_fields l L =
    record {
      query = l.query;
      started = L.started;
      snapshot = L.snapshot;
      count = length L.items;
      complete = L.complete;
    }

-- [9.13] what taking shows of its outcome: the list as it then stands
abbrev pub taken_shown : lists.List → Outcome Listing → Outcome lists.List
taken_shown l o = showing (took_fields l) o

-- [7.7] the items stand at the front of the list's room, and what is behind them is kept
abbrev pub put_items : Listing → List ℕ → List ℕ
put_items L room = fronted L.items room

-- what taking promises of a list l and its room
abbrev pub Takes : lists.List → Outcome Listing → List ℕ → Outcome lists.List → List ℕ → Type 0
Takes l o before r after = Promise (taken_shown l) put_items o before r after

-- [9.13] the list after a call: a refused one stays as it came
abbrev pub list_after : lists.List → Outcome lists.List → lists.List
list_after l (refused n) = l
list_after l (gives t) = t

-- what is held after a call
unfoldable pub held_after : Held → Outcome Listing → Held
held_after s o = held (list_after s.list (taken_shown s.list o)) (leaves put_items o s.room)
