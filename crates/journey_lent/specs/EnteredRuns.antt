-- A run of claims as a world has it, and as two flat lists in lent memory. Definitions only.
use Rattle.std.specs.Prelude.{ℕ, List, [], ◌∷◌, ◌++◌, ℤ, length}
use Rattle.paper.specs.Points.{Claim}
use Rattle.paper.specs.Outcomes.{Outcome, gives, onto}
use Rattle.paper.specs.Tree.{Store, claims_from}
use Rattle.paper.specs.Runs.{enter_call}
use Rattle.paper.specs.Ends.{Table, table_of}

-- the claims that a table's d cuts out of references and coordinates
abbrev pub run_of : Store → List ℕ → List ℤ → List Claim
run_of s given points = claims_from s.table.d (length given) given points

-- the coordinates of a run's claims, one after another
unfoldable pub points_of : List Claim → List ℤ
points_of [] = []
points_of (c ∷ run) = c.point ++ points_of run

-- what the public call `enter` leaves, as a world's table
unfoldable pub call_enters : Store → List ℕ → List ℤ → Outcome Table
call_enters s given points = onto (enter_call s given points) (λ x. gives (table_of x))
