-- A small world in lent memory, in which a list of either order may ask: the premises can be met, and the promise is of something.
-- Definitions only.
use Rattle.std.specs.Prelude.{◌≡◌, true, [], ◌∷◌, pos, replicate}
use Rattle.paper.specs.declared.orders.Order.{Order}
use Rattle.paper.specs.Orders.{Query}
use Rattle.paper.specs.Tree.{Store, store}
use Rattle.paper.specs.Runs.{empty_table}
use Rattle.paper.specs.Ends.{table_of}
use Rattle.journey.specs.Promise.{MayAsk}
use Rattle.journey_lent.specs.World.{LentWorld, enters, opens, the_listing, next_lent, LentReachable}
use Rattle.journey_lent.specs.Promise.{GrowsHeld}

-- table 7, city block, one coordinate, capacity 2
abbrev pub small : Store
small = store (empty_table 7 1 1 2) (replicate 2 0) (replicate 2 (pos 0)) (replicate 12 0)

-- around 4 within 10
abbrev pub around : Order → Query
around order = record { order = order; table = 7; measure = 1; d = 1; probe = pos 4 ∷ []; reach = 10 }

-- a claim at 3 with reference 5 is entered, and a list is opened in a room of one item
abbrev pub opened : Order → LentWorld
opened order =
    next_lent (next_lent (record { store = small; air = []; lists = [] }) (enters (5 ∷ []) (pos 3 ∷ []))) (opens (around order) (replicate 3 9))

pub record Lives (order : Order) : Type 0 where
  pub reached : LentReachable (opened order)
  pub asks : MayAsk (table_of (opened order).store) (the_listing (opened order) 0) 1
  pub grows : GrowsHeld (opened order) (opened order) (opened order) 0 1
  -- the list then has the claim, and [7.12] is complete
  pub items : grows.grown.items ≡ record { number = 0; reference = 5; distance = 1 } ∷ []
  pub complete : grows.grown.complete ≡ true
