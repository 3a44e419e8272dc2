-- Whether many questions may be asked. Definitions only.
use Rattle.std.specs.Prelude.{ℕ, ◌*◌, eqb}
use Rattle.paper.specs.Outcomes.{Outcome, gives, must, number}
use Rattle.paper.specs.Tree.{Store}
use Rattle.paper.specs.Calls.{on_table}

-- [8.1] [8.2] [8.5] 1, 2, and 5 where there are not d coordinates for each of n probes
abbrev pub on_many : {A : Type 0} → Store → ℕ → ℕ → Outcome A → Outcome A
on_many s probes n x = on_table s (must (eqb probes (s.table.d * n)) 5 x)

-- the number of the refusal, 0 where nothing is refused
unfoldable pub many_refusal : Store → ℕ → ℕ → ℕ
many_refusal s probes n = number (on_many s probes n (gives n))
