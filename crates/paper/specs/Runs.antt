-- Sections 3 and 9 of the rules: making an empty table, and entering claims in runs. Definitions only.
use Rattle.std.specs.Prelude.{ℕ, zero, suc, ◌+◌, ◌*◌, List, leb, eqb, ℤ, length}
use Rattle.std.proofs.Math.Seq.{paste}
use Rattle.paper.specs.declared.tables.Table.{Table}
use Rattle.paper.specs.Points.{point}
use Rattle.paper.specs.Tree.{Grown, entered, Store, store, Memory, memory, apart, reference_at, with_reference, claims_in, fits, sound}
use Rattle.paper.specs.References.{in_force, anew}
use Rattle.paper.specs.Outcomes.{Outcome, gives, must, showing}

-- [3.16] a table before any claim: nothing is entered, and no node is in use
abbrev pub empty_table : ℕ → ℕ → ℕ → ℕ → Table
empty_table number measure d capacity =
    record { number = number; measure = measure; d = d; capacity = capacity; count = 0; used = 0 }

-- [9.4] [3.16] making a table gives its header
unfoldable pub make_call : Store → Outcome Table
make_call s = must (fits s) 1 (gives s.table)

-- [3.14] the header with one claim more, and so many nodes in use
abbrev pub counted : Table → ℕ → Table
counted t used =
    record { number = t.number; measure = t.measure; d = t.d; capacity = t.capacity; count = t.count + 1; used = used }

-- the nodes after the next claim, where the coordinates hold its place
abbrev pub next_grown : Store → List ℤ → Grown
next_grown s coordinates = entered (apart s.table.measure s.table.d coordinates) s.table.used s.table.count s.nodes

-- the store with its next claim's reference and place in the lent memory, entered
abbrev pub with_next : Store → List ℕ → List ℤ → Store
with_next s references coordinates =
    store (counted s.table (next_grown s coordinates).used) references coordinates (next_grown s coordinates).nodes

-- [3.13] [3.14] one claim more, with reference r and place p, which are put behind those that are there; what lies behind is kept
unfoldable pub added : Store → ℕ → List ℤ → Store
added s r p =
    with_next s (with_reference s.references s.table.count r) (paste s.coordinates (s.table.count * s.table.d) p s.table.d)

-- [3.15] the first i claims of a run, one by one
unfoldable pub added_run : List ℕ → List ℤ → ℕ → Store → Store
added_run given points zero s = s
added_run given points (suc i) s = added (added_run given points i s) (reference_at given i) (point s.table.d points i)

-- [9.6] [3.15] all claims of a run are entered, or none: 5 where there are not d coordinates for each [8.5], 17 where a reference is not
-- new [8.17], 3 where the capacity leaves too few claims free [8.3]. Nodes need no test [8.4].
unfoldable pub enter_call : Store → List ℕ → List ℤ → Outcome Store
enter_call s given points =
    must (fits s) 1
    (must (sound s) 2
    (must (eqb (length points) (s.table.d * length given)) 5
    (must (anew (in_force (claims_in s)) given) 17
    (must (leb (s.table.count + length given) s.table.capacity) 3
    (gives (added_run given points (length given) s))))))

-- what is shown of it, the header that comes back, and what it makes of lent memory
abbrev pub entered_shown : Outcome Store → Outcome Table
entered_shown o = showing (λ s. s.table) o

abbrev pub put_store : Store → Memory → Memory
put_store s before = memory s.references s.coordinates s.nodes
