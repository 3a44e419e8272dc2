-- The program's memory, as what the office and its sessions speak of. Definitions only.
use Rattle.std.specs.Prelude.{ℕ, List}
use Rattle.paper.specs.Tree.{Store, store}
use Rattle.office_serve.specs.Feeding.{Set}
use Rattle.office_session.specs.Session.{BetweenReads}
use Rattle.office_stream.specs.declared.Program.{Program}

abbrev pub store_in : Program → Store
store_in p = store p.sitting.table p.references p.coordinates p.nodes

-- a line can be served
abbrev pub IsReady : Program → Type 0
IsReady p = Set (store_in p) p.line

-- [10.12] xs was read, and all that the office says to it is handed to the writer
abbrev pub HasAnswered : List ℕ → Program → Type 0
HasAnswered xs p = BetweenReads xs (store_in p) p.line p.sitting
