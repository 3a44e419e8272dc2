-- The office's end: what it asks of its table, of an ask and of its output room, and what it then gives. Definitions only.
use Rattle.std.specs.Prelude.{ℕ, ◌≤◌, ◌≡◌, true, List}
use Rattle.paper.specs.declared.lines.Ask as lines-Ask
use Rattle.paper.specs.declared.lines.Scope.{Scope}
use Rattle.paper.specs.declared.queries.Query as queries
use Rattle.paper.specs.Orders.{query_in, snapshot_of, snapshot_holds, mark_holds}
use Rattle.paper.specs.Tree.{Store}
use Rattle.paper.specs.Outcomes.{Outcome, must, gives}
use Rattle.paper.specs.Fields.{scope_ok}
use Rattle.paper.specs.Ends.{Ask, table_of, matches, answer_of}
use Rattle.paper.specs.Ends as Ends
use Rattle.paper.specs.Codec.{place_in, answer_line}
use Rattle.tree.specs.Soundness.{Good}
use Rattle.paper.specs.Limits.{longest_answer, most_page, most_coordinates}

-- [5.8] [5.9] [5.10] an ask that a reader gives
pub record Given (a : lines-Ask.Ask) : Type 0 where
  pub narrow : a.query.d ≤ most_coordinates
  pub scope : scope_ok a.scope ≡ true
  pub some : 1 ≤ a.size
  pub most : a.size ≤ most_page

-- [8.12] a sound table, with room for the longest line
pub record Open (s : Store) (out : ℕ) : Type 0 where
  pub good : Good s
  pub room : longest_answer ≤ out

pub record Answering (s : Store) (a : lines-Ask.Ask) (out : ℕ) : Type 0 where
  pub is_open : Open s out
  pub ask : Given a

-- [6.2] an ask to this very table
pub record AskOurs (s : Store) (q : queries.Query) (p : Scope) (size out : ℕ) : Type 0 where
  pub is_open : Open s out
  pub ask : Given (record { query = q; scope = p; size = size })
  pub ours : matches (table_of s) (query_in q) ≡ true

-- [8.7] whose snapshot is not over the count
pub record Paging (s : Store) (q : queries.Query) (p : Scope) (size out : ℕ) : Type 0 where
  pub asking : AskOurs s q p size out
  pub stored : snapshot_of (place_in p) s.table.count ≤ s.table.count

-- what an ask of these fields says
abbrev pub ask_in : queries.Query → Scope → ℕ → Ask
ask_in q p size = record { query = query_in q; place = place_in p; size = size }

-- [6.3] the line of the page that is asked for
abbrev pub page_line : Ends.Table → Ask → Outcome (List ℕ)
page_line t a = gives (answer_line (answer_of t a))

-- [8.7] [8.8] the line, or 7, 8
unfoldable pub page_reply : Ends.Table → Ask → Outcome (List ℕ)
page_reply t a = must (snapshot_holds t.claims a.place) 7 (must (mark_holds a.query t.claims a.place) 8 (page_line t a))
