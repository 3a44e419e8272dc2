-- One line served: the office's memory, what it needs of it, and what serving leaves. Definitions only.
use Rattle.std.specs.Prelude.{ℕ, ◌+◌, ◌≤◌, ◌≡◌, cond, List, eqb, length}
use Rattle.std.proofs.lemmas.List.Edits.{sets}
use Rattle.paper.specs.declared.lines.Ask.{Ask}
use Rattle.paper.specs.declared.lines.ClaimLine.{ClaimLine}
use Rattle.paper.specs.declared.tables.Table.{Table}
use Rattle.paper.specs.Tree.{Store}
use Rattle.paper.specs.Ends.{table_of}
use Rattle.paper.specs.Program.{Books, closed, opened, Turn, line_turn}
use Rattle.paper.specs.Points.{InRange}
use Rattle.tree.specs.Soundness.{Good}
use Rattle.office_cut.specs.Cut.{LineHeld}
use Rattle.end_office.specs.Desk.{Given}
use Rattle.paper.specs.Limits.{longest_answer, office_claims, office_coordinates}

-- the bytes bs written into out from i on
unfoldable pub out_with : List ℕ → ℕ → List ℕ → List ℕ
out_with out i bs = sets out i bs

-- bs are written into out₀ from i to e
pub record Put (bs out₀ : List ℕ) (i : ℕ) (l : List ℕ) (e : ℕ) : Type 0 where
  pub out : l ≡ out_with out₀ i bs
  pub end : e ≡ i + length bs
  pub short : e ≤ length out₀

-- [10.7] the table that the memory holds: none where no claim is entered
unfoldable pub books_of : Store → Books
books_of s = cond (eqb s.table.count 0) closed (opened (table_of s))

-- [10.2] the header that a claim line is for
unfoldable pub header_for : Table → ClaimLine → Table
header_for t c =
    cond (eqb t.count 0)
    (record { number = c.table; measure = c.measure; d = c.d; capacity = t.capacity; count = 0; used = 0 })
    t

-- [10.1] The office's memory: a sound table with the program's capacity, and place for as many claims of eight coordinates.
pub record Ready (s : Store) : Type 0 where
  pub good : Good s
  pub capacity : s.table.capacity ≡ office_claims
  pub wide : office_coordinates ≤ length s.coordinates

-- with room in `out` for a line from `at` on
pub record Serving (s : Store) (out at : ℕ) : Type 0 where
  pub ready : Ready s
  pub room : at + longest_answer ≤ out

-- a claim that a reader gives, and an ask
pub record ClaimServing (s : Store) (c : ClaimLine) (out at : ℕ) : Type 0 where
  pub serving : Serving s out at
  pub range : InRange c.measure c.d

pub record AskServing (s : Store) (a : Ask) (out at : ℕ) : Type 0 where
  pub serving : Serving s out at
  pub ask : Given a

-- [10.6] the line led to the turn a: the memory stands at s, and what is said is written from i on
pub record Served (a : Turn) (s : Store) (out₀ : List ℕ) (i : ℕ) (l : List ℕ) (e : ℕ) : Type 0 where
  pub books : books_of s ≡ a.books
  pub ready : Ready s
  pub printed : Put a.printed out₀ i l e

-- [10.8] the same of the line that was cut into a room: a size over the room's length stands for any longer line
pub record ServedCut (room : List ℕ) (size : ℕ) (b : Books) (s : Store) (out₀ : List ℕ) (i : ℕ) (l : List ℕ) (e : ℕ) : Type 0 where
  pub served : (h : List ℕ) → LineHeld longest_answer room size h → Served (line_turn b h) s out₀ i l e
  pub ready : Ready s
  pub short : e ≤ length out₀
