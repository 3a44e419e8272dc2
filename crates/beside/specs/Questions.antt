-- What the program's questions keep to, so that its arrays hold the answers. Definitions only.
use Rattle.std.specs.Prelude.{◌<◌, ◌≤◌}
use Rattle.paper.specs.declared.tables.Table.{Table}
use Rattle.beside.specs.declared.scan.Asking.{Asking}

-- a question for a page of the table
pub record Drawn (t : Table) (a : Asking) : Type 0 where
  pub stored : a.snapshot ≤ t.count
  pub some : 0 < a.size
  pub most : a.size ≤ 16
