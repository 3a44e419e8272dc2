-- The orders and places of pages as numbers. Definitions only.
use Rattle.std.specs.Prelude.{ℕ, ◌+◌, ◌*◌, cond, not, List, eqb, get_or}
use Rattle.paper.specs.declared.orders.Order.{Order}
use Rattle.paper.specs.declared.orders.Place.{Place}
use Rattle.paper.specs.declared.orders.Place.TheVariants.{Start, After}
use Rattle.paper.specs.Orders.{order_by, mark_at}

-- [4.18] numbers of a row
abbrev pub place_numbers : ℕ
place_numbers = 5

-- [4.18] the order of question i: 0 for near, another number for far
unfoldable pub order_at : List ℕ → ℕ → Order
order_at places i = order_by (not (eqb (get_or places (i * place_numbers) 0) 0))

-- [4.18] and its place: 0 for the start, or another number, the snapshot, and the mark's distance and number
unfoldable pub place_at : List ℕ → ℕ → Place
place_at places i =
    cond (eqb (get_or places (i * place_numbers + 1) 0) 0) Start
    (After (get_or places (i * place_numbers + 2) 0) (mark_at (get_or places (i * place_numbers + 3) 0) (get_or places (i * place_numbers + 4) 0)))
