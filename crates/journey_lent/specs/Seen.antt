-- A world in lent memory, seen as a world of journey: its store as a table of claims, its rooms as lists of items. Definitions only.
use Rattle.std.specs.Prelude.{ℕ, ◌*◌, cond, List, [], ◌∷◌, map, eqb, ℤ, length}
use Rattle.paper.specs.Points.{Claim}
use Rattle.paper.specs.Tree.{Store}
use Rattle.paper.specs.Ends.{table_of}
use Rattle.paper.specs.Lists.{room_for, listing}
use Rattle.journey.specs.World as journey
use Rattle.journey_lent.specs.EnteredRuns.{run_of}
use Rattle.journey_lent.specs.World.{LentWorld, LentEvent, enters, opens, asks, receives, takes, strays, the_held}

abbrev pub seen : LentWorld → journey.World
seen w = record { table = table_of w.store; air = w.air; lists = map listing w.lists }

-- [8.5] a run, where it has d coordinates for each reference; where not, one claim without coordinates, which is refused with 5 as well
unfoldable pub run_seen : Store → List ℕ → List ℤ → List Claim
run_seen s given points =
    cond (eqb (length points) (s.table.d * length given)) (run_of s given points) (record { reference = 0; point = [] } ∷ [])

-- an event, with the room that the list has
unfoldable pub event_seen : LentWorld → LentEvent → journey.Event
event_seen w (enters given points) = journey.enters (run_seen w.store given points)
event_seen w (opens q room) = journey.opens q
event_seen w (asks i size out) = journey.asks i size (room_for (the_held w i)) out
event_seen w (receives line out) = journey.receives line out
event_seen w (takes i line) = journey.takes i (room_for (the_held w i)) line
event_seen w (strays line) = journey.strays line
