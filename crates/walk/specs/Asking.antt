-- The three questions to a sound table, in the words of the rules. Definitions only.
use Rattle.std.specs.Prelude.{ℕ, ◌+◌, ◌*◌, ◌<◌, ◌≤◌, ◌≡◌, List, ℤ, length, take}
use Rattle.paper.specs.declared.orders.Paged.{Paged}
use Rattle.paper.specs.declared.orders.Place.{Place}
use Rattle.paper.specs.declared.tables.Table.{Table}
use Rattle.paper.specs.Limits.{most_page}
use Rattle.paper.specs.Points.{Claim, InRange}
use Rattle.paper.specs.declared.orders.Item.{Item}
use Rattle.paper.specs.Orders.{Query, snapshot_of, following, page_of, last_of, flat, fronted}
use Rattle.paper.specs.Tree.{Store, apart_in}
use Rattle.tree.specs.BuiltNodes.{Neartree, Located}

-- the claims and the probe are there to be measured
pub record Measurable (t : Table) (coordinates probe : List ℤ) : Type 0 where
  pub located : Located t.d t.count coordinates
  pub aimed : length probe ≡ t.d

-- the table is sound, as far as a search needs it
pub record Answerable (s : Store) (probe : List ℤ) : Type 0 where
  pub tree : Neartree s.nodes (apart_in s) s.table.used s.table.count
  pub ranged : InRange s.table.measure s.table.d
  pub measurable : Measurable s.table s.coordinates probe
  pub named : s.table.count ≤ length s.references

-- [8.7] [8.12] a page can be asked for: the snapshot is not over the count, and the room holds the page
pub record Pageable (t : Table) (place : Place) (size : ℕ) (room : List ℕ) : Type 0 where
  pub stored : snapshot_of place t.count ≤ t.count
  pub some : 0 < size
  pub few : size ≤ most_page + 1
  pub long : size * 3 ≤ length room

-- a place's mark can be measured: the snapshot is not over the count
pub record Markable (t : Table) (coordinates probe : List ℤ) (place : Place) : Type 0 where
  pub measurable : Measurable t coordinates probe
  pub stored : snapshot_of place t.count ≤ t.count

-- [4.8] the items stand at the front of the room, and what is behind them stays
pub record Fills (items : List Item) (before after : List ℕ) (count : ℕ) : Type 0 where
  pub room : after ≡ fronted items before
  pub counts : count ≡ length items

-- [4.6] [4.7] the page stands at the front of the scratch room, and count and last are the page's
pub record PageFound (q : Query) (cs : List Claim) (place : Place) (size : ℕ) (after : List ℕ) (r : Paged) : Type 0 where
  pub front : take (3 * r.count) after ≡ flat (page_of q cs place size)
  pub count : r.count ≡ length (page_of q cs place size)
  pub last : r.last ≡ last_of size (following q cs place)

-- [4.6] [4.7] [4.8] the page stands at the front of the room, what is behind it stays, and count and last are the page's
pub record PageIs (q : Query) (cs : List Claim) (place : Place) (size : ℕ) (before after : List ℕ) (r : Paged) : Type 0 where
  pub room : after ≡ fronted (page_of q cs place size) before
  pub count : r.count ≡ length (page_of q cs place size)
  pub last : r.last ≡ last_of size (following q cs place)
