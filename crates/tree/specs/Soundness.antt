-- What the layers above may rely on of a table: records of what the tests of a table tell. Definitions only.
use Rattle.std.specs.Prelude.{ℕ, ◌+◌, ◌*◌, ◌≤◌, length}
use Rattle.paper.specs.declared.tables.Table.{Table}
use Rattle.paper.specs.Points.{InRange}
use Rattle.paper.specs.Tree.{Store, apart_in}
use Rattle.tree.specs.BuiltNodes.{IsBuilt}
use Rattle.paper.specs.Limits.{most_claims, most_coordinates}

-- [3.2] the lent memory holds what a table's nodes and its claims' points need: so many coordinates, and so many numbers of nodes
pub record MemoryHolds (t : Table) (points numbers : ℕ) : Type 0 where
  pub narrow : t.d ≤ most_coordinates
  pub most : t.capacity ≤ most_claims
  pub coordinates : t.capacity * t.d ≤ points
  pub nodes : t.capacity * 6 ≤ numbers

-- [8.1] a table in range with enough lent memory
pub record Fit (s : Store) : Type 0 where
  pub range : InRange s.table.measure s.table.d
  pub some : 1 ≤ s.table.capacity
  pub references : s.table.capacity ≤ length s.references
  pub lent : MemoryHolds s.table (length s.coordinates) (length s.nodes)

-- [3.12] and sound
pub record Good (s : Store) : Type 0 where
  pub fit : Fit s
  pub count : s.table.count ≤ s.table.capacity
  pub built : IsBuilt (apart_in s) s.table.count s.nodes s.table.used

-- [8.3] and there is node for so many claims more
pub record Roomy (s : Store) (more : ℕ) : Type 0 where
  pub good : Good s
  pub free : s.table.count + more ≤ s.table.capacity
