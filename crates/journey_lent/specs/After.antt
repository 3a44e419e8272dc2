-- How whoever makes a public call goes on with the result that it gave and the lent memory that it left. Definitions only.
use Rattle.std.specs.Prelude.{ℕ, List, take}
use Rattle.paper.specs.declared.lists.List as lists
use Rattle.paper.specs.declared.tables.Table.{Table}
use Rattle.paper.specs.Tree.{Store, store, Memory, memory}
use Rattle.paper.specs.Outcomes.{Outcome, refused, gives}
use Rattle.paper.specs.Lists.{held, list_after}
use Rattle.journey_lent.specs.World.{LentWorld, the_held, put_table, put_list, put_in_air, put_held}

-- the memory that a store's table is lent, and that memory under a header
abbrev pub lent_to : Store → Memory
lent_to s = memory s.references s.coordinates s.nodes

abbrev pub store_under : Table → Memory → Store
store_under t m = store t m.references m.coordinates m.nodes

-- [9.6] after `enter`: with the header that came back, or with the header of before
abbrev pub after_enter : LentWorld → Outcome Table → Memory → LentWorld
after_enter w (refused n) m = put_table (store_under w.store.table m) w
after_enter w (gives t) m = put_table (store_under t m) w

-- [9.11] after `open_list`: the list that came back, if one did, goes to a room
abbrev pub after_open : LentWorld → List ℕ → Outcome lists.List → LentWorld
after_open w room (refused n) = w
after_open w room (gives l) = put_list room l w

-- [9.12] [9.10] after `write_ask` and `answer`: the line at the front of the output room is sent
abbrev pub after_line : LentWorld → Outcome ℕ → List ℕ → LentWorld
after_line w (refused n) out = w
after_line w (gives n) out = put_in_air (take n out) w

-- [9.13] after `take`: the list that came back, or else the list of before, in its room as it then is
abbrev pub after_take : LentWorld → ℕ → Outcome lists.List → List ℕ → LentWorld
after_take w i r room = put_held i (held (list_after (the_held w i).list r) room) w
