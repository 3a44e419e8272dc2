-- What a question asks of a walk. Definitions only.
use Rattle.std.specs.Prelude.{ℕ, ◌+◌, ◌<◌, ◌≤◌, ◌≡◌, Bool, ◌&&◌, ltb, leb}
use Rattle.paper.specs.declared.orders.Order.{Order}
use Rattle.paper.specs.declared.orders.Place.{Place}
use Rattle.paper.specs.declared.tables.Table.{Table}
use Rattle.paper.specs.Limits.{most_claims, most_page}
use Rattle.paper.specs.Orders.{snapshot_of, follows}
use Rattle.walk_keep.specs.declared.asked.Asked.{Asked}

-- which claims are wanted, of whatever table and however many
pub record Wanted : Type 0 where
  pub order : Order
  pub reach : ℕ
  pub place : Place
  pub snapshot : ℕ

-- [2.5] [2.7] claim k, at distance x, is within reach, its number below the snapshot, and it comes after the place
unfoldable pub wants : Wanted → ℕ → ℕ → Bool
wants w x k = ltb k w.snapshot && (leb x w.reach && follows w.order w.place (record { number = k; reference = 0; distance = x }))

-- the same of a question
abbrev pub wanted_by : Asked → Wanted
wanted_by ask = record { order = ask.order; reach = ask.reach; place = ask.place; snapshot = ask.sought.snapshot }

abbrev pub admitted : Asked → ℕ → ℕ → Bool
admitted ask = wants (wanted_by ask)

-- what a walk may be asked: the claims have numbers of their own below the most, and there is room for what is looked for
pub record Askable (t : Table) (place : Place) (size : ℕ) : Type 0 where
  pub stored : snapshot_of place t.count ≤ most_claims
  pub some : 0 < size
  pub few : size ≤ most_page + 1

-- [4.4] [4.5] the question asks a table for the first `size` claims after the place
pub record AsksFor (t : Table) (order : Order) (reach : ℕ) (place : Place) (size : ℕ) (ask : Asked) : Type 0 where
  pub order_is : ask.order ≡ order
  pub measure_is : ask.measure ≡ t.measure
  pub d_is : ask.d ≡ t.d
  pub reach_is : ask.reach ≡ reach
  pub place_is : ask.place ≡ place
  pub snapshot_is : ask.sought.snapshot ≡ snapshot_of place t.count
  pub size_is : ask.sought.size ≡ size
