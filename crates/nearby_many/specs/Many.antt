-- The calls that test a table once and then answer many questions. Definitions only.
use Rattle.std.specs.Prelude.{ℕ, ◌+◌, ◌*◌, ◌<◌, ◌≤◌, ◌≡◌, List, leb, ℤ, length, get_or, Option}
use Rattle.paper.specs.declared.orders.Order.TheVariants.{Near}
use Rattle.paper.specs.Points.{point}
use Rattle.paper.specs.declared.orders.Item.{Item}
use Rattle.paper.specs.Orders.{nearest_of, farthest_of}
use Rattle.paper.specs.Outcomes.{Outcome, gives, must}
use Rattle.paper.specs.Tree.{Store, claims_in}
use Rattle.paper.specs.Calls.{table_query, table_refusal}
use Rattle.rows.specs.Answers.{found_row}
use Rattle.nearby_many.specs.Counts.{on_many}
use Rattle.nearby_many.specs.Rows.{each, put_found}

-- [4.16] the probe of question i: probes stand one after another
abbrev pub probe_at : Store → List ℤ → ℕ → List ℤ
probe_at s probes i = point s.table.d probes i

-- what the single calls find for question i
abbrev pub nearest_at : Store → List ℤ → List ℕ → ℕ → Option Item
nearest_at s probes reaches i = nearest_of (table_query s.table Near (probe_at s probes i) (get_or reaches i 0)) (claims_in s)

abbrev pub farthest_at : Store → List ℤ → ℕ → Option Item
farthest_at s probes i = farthest_of (table_query s.table Near (probe_at s probes i) 0) (claims_in s)

-- [9.16] [8.12] n questions for an item each: 12 where the room has under four numbers for each
unfoldable pub firsts_call : Store → ℕ → ℕ → (ℕ → Option Item) → List ℕ → Outcome (List ℕ)
firsts_call s probes n answer out = on_many s probes n (must (leb (n * 4) (length out)) 12 (gives (each (put_found answer) n out)))

abbrev pub nearest_each : Store → List ℤ → List ℕ → List ℕ → Outcome (List ℕ)
nearest_each s probes reaches out = firsts_call s (length probes) (length reaches) (nearest_at s probes reaches) out

abbrev pub farthest_each : Store → List ℤ → ℕ → List ℕ → Outcome (List ℕ)
farthest_each s probes n out = firsts_call s (length probes) n (farthest_at s probes) out

-- [4.16] a row beside the single call for its question: the call gives an answer, and the row shows it
pub record RowAsAlone (single : Outcome (Option Item)) (r : List ℕ) : Type 0 where
  pub answer : Option Item
  pub given : single ≡ gives answer
  pub shown : r ≡ found_row answer

-- ---- what the layers below ask

-- a tested table, and question i of so many probe coordinates
pub record Asked (s : Store) (probes i : ℕ) : Type 0 where
  pub tested : 0 ≡ table_refusal s
  pub aimed : i * s.table.d + s.table.d ≤ probes

-- what is found for question i of n is its answer and no other
abbrev pub Finds : (ℕ → Option Item → Type 0) → ℕ → (ℕ → Option Item) → Type 0
Finds found n answer = (i : ℕ) (x : Option Item) → i < n → found i x → x ≡ answer i
