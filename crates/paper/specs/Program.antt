-- Section 10 of the rules: what `office` says to the bytes of its standard input. Definitions only.
use Rattle.std.specs.Prelude.{ℕ, zero, suc, ◌+◌, ◌-◌, ◌/◌, ◌%◌, Bool, cond, ◌&&◌, List, [], ◌∷◌, ◌++◌, ltb, leb, eqb, take}
use Rattle.paper.specs.declared.lines.ClaimLine.{ClaimLine}
use Rattle.paper.specs.Points.{Claim}
use Rattle.paper.specs.References.{in_force, anew}
use Rattle.paper.specs.Outcomes.{Outcome, refused, gives, must, onto}
use Rattle.paper.specs.Frames.{frame_of, is_line}
use Rattle.paper.specs.Lines.{is_ask, ask_at, claim_ok, claim_at}
use Rattle.paper.specs.Ends.{Table, count, Ask, answer_to}
use Rattle.paper.specs.Codec.{ask_meant, answer_line}
use Rattle.paper.specs.Limits.{office_claims}

-- ---- one line

-- The office's table: none before the first claim.
pub data Books : Type 0 where
  closed : Books
  opened : Table → Books

-- [10.1] [10.2] the table that a claim is for: the first claim gives it number, measure and d
unfoldable pub table_for : Books → ClaimLine → Table
table_for closed c = record { number = c.table; measure = c.measure; d = c.d; capacity = office_claims; claims = [] }
table_for (opened t) c = t

-- [6.2] [8.11] a claim line is for a table
unfoldable pub ours : Table → ClaimLine → Bool
ours t c = eqb c.table t.number && (eqb c.measure t.measure && eqb c.d t.d)

-- [5.7] the claim that a line tells
unfoldable pub claim_in : ClaimLine → Claim
claim_in c = record { reference = c.reference; point = take c.d c.coordinates }

-- [3.14] a claim behind those that the table has
unfoldable pub with_claim : Table → Claim → Table
with_claim t c =
    record { number = t.number; measure = t.measure; d = t.d; capacity = t.capacity; claims = t.claims ++ (c ∷ []) }

-- [10.6] [8.11] [8.17] [8.3] a claim is tested for 11, 17 and 3, and entered
unfoldable pub claim_entering : Table → ClaimLine → Outcome Table
claim_entering t c =
    must (ours t c) 11
    (must (anew (in_force t.claims) (c.reference ∷ [])) 17
    (must (leb (count t + 1) t.capacity) 3
    (gives (with_claim t (claim_in c)))))

-- [10.6] [6.1] an ask is tested for 11, 7 and 8, and answered
unfoldable pub reply_to : Table → Ask → Outcome (List ℕ)
reply_to t a = onto (answer_to t a) (λ y. gives (answer_line y))

-- [10.7] an ask before any claim is refused with 11
unfoldable pub reply : Books → Ask → Outcome (List ℕ)
reply closed a = refused 11
reply (opened t) a = reply_to t a

-- a number below 100 in decimal digits
unfoldable pub decimal : ℕ → List ℕ
decimal n = cond (ltb n 10) ((48 + n) ∷ []) ((48 + n / 10) ∷ (48 + n % 10) ∷ [])

-- [10.5] what is printed for a refused line
unfoldable pub refusal : ℕ → List ℕ
refusal n = (114 ∷ 101 ∷ 102 ∷ 117 ∷ 115 ∷ 101 ∷ 100 ∷ 32 ∷ []) ++ (decimal n ++ (10 ∷ []))

-- what a line leads to: the table after it, and what is printed
pub record Turn : Type 0 where
  pub books : Books
  pub printed : List ℕ

abbrev pub turn : Books → List ℕ → Turn
turn b printed = record { books = b; printed = printed }

-- [10.3] a claim that is entered prints nothing
unfoldable pub claim_turn : Books → Outcome Table → Turn
claim_turn b (refused n) = turn b (refusal n)
claim_turn b (gives t) = turn (opened t) []

-- [10.4] an ask prints its answer
unfoldable pub ask_turn : Books → Outcome (List ℕ) → Turn
ask_turn b (refused n) = turn b (refusal n)
ask_turn b (gives line) = turn b line

-- [10.6] a claim, an ask, or neither, which is refused with 10
unfoldable pub frame_turn : Books → List ℕ → Turn
frame_turn b f =
    cond (claim_ok f)
    (claim_turn b (claim_entering (table_for b (claim_at f)) (claim_at f)))
    (cond (is_ask f) (ask_turn b (reply b (ask_meant (ask_at f)))) (turn b (refusal 10)))

-- [10.6] [10.8] what is no line is refused with 9, and so is one that is too long
unfoldable pub line_turn : Books → List ℕ → Turn
line_turn b line = cond (is_line line) (frame_turn b (frame_of line)) (turn b (refusal 9))

-- ---- the whole input

-- The office at work: its table, the bytes of the line so far, how many lines it still reads, and what it has said.
pub record OfficeState : Type 0 where
  pub books : Books
  pub held : List ℕ
  pub left : ℕ
  pub printed : List ℕ

-- a line is over
unfoldable pub line_done : OfficeState → List ℕ → OfficeState
line_done o l =
    record {
      books = (line_turn o.books l).books;
      held = [];
      left = o.left - 1;
      printed = o.printed ++ (line_turn o.books l).printed;
    }

abbrev pub holding_line : OfficeState → List ℕ → OfficeState
holding_line o h = record { books = o.books; held = h; left = o.left; printed = o.printed }

-- [10.8] [10.10] a byte is read, where a line is left to read; a line reaches to its 0A
unfoldable pub byte : OfficeState → ℕ → OfficeState
byte o x = cond (eqb o.left 0) o (cond (eqb x 10) (line_done o (o.held ++ (x ∷ []))) (holding_line o (o.held ++ (x ∷ []))))

-- [10.11] bytes are read, however they come
unfoldable pub fed : OfficeState → List ℕ → OfficeState
fed o [] = o
fed o (x ∷ xs) = fed (byte o x) xs

abbrev pub at_end : ℕ → OfficeState → List ℕ → OfficeState
at_end zero o h = o
at_end (suc n) o [] = o
at_end (suc n) o (x ∷ h) = line_done o (x ∷ h)

-- [10.9] the input is over: bytes behind the last 0A are a line too
unfoldable pub input_done : OfficeState → OfficeState
input_done o = at_end o.left o o.held

-- [10.10] the office before its first byte, with all the lines that it may read
unfoldable pub office_start : OfficeState
office_start = record { books = closed; held = []; left = 4294967295; printed = [] }

-- what `office` writes, by what it reads
unfoldable pub program : List ℕ → List ℕ
program input = (input_done (fed office_start input)).printed
