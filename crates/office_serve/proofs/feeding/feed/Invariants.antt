-- What holds at each turn of `feed`, and the bytes that are left of its chunk.
use mathlib.Core.Path.{◌≡◌}
use mathlib.Core.Logic.{◌⊎◌}
use Prim.Native.Nat.{◌-◌, ◌<◌, ◌≤◌}
use lib.ListN.{length}
use Rattle.paper.specs.Program.{OfficeState}
use Rattle.paper.specs.Tree.{store}
use Rattle.office_serve.specs.Feeding.{Stands, Set, Moved}
use Rattle.office_serve.proofs.feeding.feed.Given as goal

abbrev pub invariant-loop-references : goal.invariant-loop-references
invariant-loop-references l =
    let was = l.initial in
    record {
      moved : (o : OfficeState) → Stands (store was.n.table was.references was.coordinates was.nodes) was.line was.n o
          → Moved o l.chunk was.n was.out (store l.n.table l.references l.coordinates l.nodes) l.line l.n l.out;
      ready : Set (store l.n.table l.references l.coordinates l.nodes) l.line;
      went : (l.n ≡ was.n) ⊎ (was.n.at < l.n.at);
      short : l.n.written ≤ length l.out;
    }

abbrev pub decreases-loop-references : goal.decreases-loop-references
decreases-loop-references l = length l.chunk - l.n.at
