-- What the tablet asks of items, one after another, and of the fields of a list. Definitions only.
use Rattle.std.specs.Prelude.{ℕ, ◌+◌, ◌-◌, ◌*◌, ◌/◌, ◌≤◌, ◌<◌, ◌≡◌, Bool, true, cond, not, ◌&&◌, ◌||◌, List, [], ◌∷◌, leb, eqb, length, get_or}
use Rattle.paper.specs.declared.lines.Answer.{Answer}
use Rattle.paper.specs.declared.lists.List as lists
use Rattle.paper.specs.declared.orders.Order.{Order}
use Rattle.paper.specs.declared.orders.Place.{Place}
use Rattle.paper.specs.declared.orders.Item.{Item}
use Rattle.paper.specs.Orders.{follows}
use Rattle.paper.specs.Points.{in_range}
use Rattle.paper.specs.Ends.{fitting, leads}
use Rattle.paper.specs.Lists.{unused_zero}
use Rattle.paper.specs.Limits.{most_claims}

-- [7.6] the first of the items is within reach, below the snapshot and after the place, and comes before the next
unfoldable pub item_holds : Order → Place → ℕ → ℕ → List Item → Bool
item_holds o p reach snapshot [] = true
item_holds o p reach snapshot (a ∷ l) = fitting reach snapshot a && (follows o p a && leads o a l)

-- so are all of them, in one pass
unfoldable pub items_hold : Order → Place → ℕ → ℕ → List Item → Bool
items_hold o p reach snapshot [] = true
items_hold o p reach snapshot (a ∷ l) = item_holds o p reach snapshot (a ∷ l) && items_hold o p reach snapshot l

-- [7.11] a list of n items has started well
unfoldable pub started_by : Bool → ℕ → ℕ → Bool → Bool
started_by started n snapshot complete = cond started (leb 1 n || complete) (eqb n 0 && (eqb snapshot 0 && not complete))

-- [7.9] what soundness asks of a list's fields, in a room of so many numbers
unfoldable pub fields_hold : lists.List → ℕ → Bool
fields_hold l room =
    in_range l.query.measure l.query.d
    && (unused_zero l.query.d l.query.probe
    && (leb l.snapshot most_claims
    && (leb l.count (room / 3)
    && started_by l.started l.count l.snapshot l.complete)))

-- what a sound list that is not complete lends its next ask
pub record AskReady (l : lists.List) (room : List ℕ) : Type 0 where
  pub range : in_range l.query.measure l.query.d ≡ true
  pub few : l.count * 3 ≤ length room
  pub snapshot : l.snapshot ≤ most_claims
  -- it has a last item, whose number is below the snapshot
  pub some : l.started ≡ true → 1 ≤ l.count
  pub below : l.started ≡ true → get_or room (l.count * 3 - 3) 0 < l.snapshot

-- [7.7] [7.8] the fields of a list with n items of an answer joined to it
abbrev pub joined_fields : lists.List → Answer → ℕ → lists.List
joined_fields l y n =
    record {
      query = l.query;
      started = true;
      snapshot = y.scope.snapshot;
      count = l.count + n;
      complete = eqb y.last 1;
    }
