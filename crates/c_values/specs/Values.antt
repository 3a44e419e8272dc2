-- [9.19] Outcomes as numbers, for C: the refusal's number, 0 where nothing is refused, beside the values, 0 where there are none. Definitions
-- only.
use Rattle.std.specs.Prelude.{ℕ, ◌≡◌, cond, List, eqb, Option, None, Some}
use Rattle.paper.specs.declared.orders.Item as items
use Rattle.paper.specs.declared.orders.Paged.{Paged}
use Rattle.paper.specs.declared.orders.Place.{Place}
use Rattle.paper.specs.declared.orders.Place as Places
use Rattle.paper.specs.declared.lines.Answered as lines
use Rattle.paper.specs.declared.tables.Table.{Table}
use Rattle.paper.specs.Orders.{mark_at}
use Rattle.paper.specs.Outcomes.{Outcome, refused, gives, Promise}
use Rattle.paper.specs.Runs.{empty_table}
use Rattle.paper.specs.Fields.{flag_of}
use Rattle.paper.specs.Lines.{wrote_shown, put_line}
use Rattle.c_values.specs.declared.Tabled.{Tabled}
use Rattle.c_values.specs.declared.FoundItem.{FoundItem}
use Rattle.c_values.specs.declared.Start.{Start}
use Rattle.c_values.specs.declared.Filled.{Filled}
use Rattle.c_values.specs.declared.Written.{Written}
use Rattle.c_values.specs.declared.LinesAnswered.{LinesAnswered}

-- [9.19] a refusal beside a table of zeros, or the table
abbrev pub table_out : Outcome Table → Tabled
table_out (refused n) = record { refusal = n; table = empty_table 0 0 0 0 }
table_out (gives t) = record { refusal = 0; table = t }

abbrev pub item_out : Outcome (Option items.Item) → FoundItem
item_out (refused n) = record { refusal = n; found = 0; number = 0; reference = 0; distance = 0 }
item_out (gives None) = record { refusal = 0; found = 0; number = 0; reference = 0; distance = 0 }
item_out (gives (Some a)) = record { refusal = 0; found = 1; number = a.number; reference = a.reference; distance = a.distance }

-- [4.2] what farthest's item says of the count of claims: where nothing is refused, it is found just where there is one
abbrev pub NothingOut : ℕ → FoundItem → Type 0
NothingOut count i = (i.refusal ≡ 0 → i.found ≡ 0 → count ≡ 0) × (count ≡ 0 → i.found ≡ 0)

abbrev pub place_of : Start → Place
place_of s = cond (eqb s.from 0) Places.TheVariants.Start (Places.TheVariants.After s.snapshot (mark_at s.distance s.number))

abbrev pub filled_out : Outcome Paged → Filled
filled_out (refused n) = record { refusal = n; last = 0; count = 0 }
filled_out (gives p) = record { refusal = 0; last = flag_of p.last; count = p.count }

abbrev pub written_out : Outcome ℕ → Written
written_out (refused n) = record { refusal = n; length = 0 }
written_out (gives n) = record { refusal = 0; length = n }

abbrev pub answered_out : Outcome lines.Answered → LinesAnswered
answered_out (refused n) = record { refusal = n; lines = 0; used = 0; written = 0 }
answered_out (gives a) = record { refusal = 0; lines = a.lines; used = a.used; written = a.written }

-- ---- what a call promises whose result is shown as numbers

abbrev pub WritesOut : Outcome (List ℕ) → List ℕ → Written → List ℕ → Type 0
WritesOut o before r after = Promise (λ u. written_out (wrote_shown u)) put_line o before r after
