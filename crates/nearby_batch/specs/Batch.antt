-- A buffer of ask lines answered line after line, each as the office's single call answers it. Definitions only.
use Rattle.std.specs.Prelude.{ℕ, zero, suc, ◌+◌, ◌*◌, ◌≡◌, Bool, true, cond, ◌&&◌, List, [], ◌∷◌, ◌++◌, ltb, leb, eqb, length, get_or, take, drop, set}
use Rattle.paper.specs.Outcomes.{Outcome, refused, gives, must, number, leaves, showing, Promise}
use Rattle.paper.specs.Tree.{Store}
use Rattle.paper.specs.Ends.{answer_room}
use Rattle.paper.specs.Lines.{put_line}
use Rattle.paper.specs.Calls.{on_table, table_refusal, office_call}
use Rattle.paper.specs.declared.lines.Answered.{Answered}
use Rattle.paper.specs.Limits.{longest_answer}

-- [6.5] how long the first line of a buffer is: up to and with its first 0A, or all that there is
unfoldable pub cut_at : List ℕ → ℕ
cut_at [] = 0
cut_at (x ∷ l) = cond (eqb x 10) 1 (suc (cut_at l))

-- the first line of what is left from `at` on
unfoldable pub line_at : List ℕ → ℕ → List ℕ
line_at asks at = take (cut_at (drop at asks)) (drop at asks)

-- [6.7] how far the answering is: lines answered, characters of asks used and of answers written, and the two rooms
pub record Batch : Type 0 where
  pub lines : ℕ
  pub used : ℕ
  pub written : ℕ
  pub outcomes : List ℕ
  pub out : List ℕ

abbrev pub batch_start : List ℕ → List ℕ → Batch
batch_start outcomes out = record { lines = 0; used = 0; written = 0; outcomes = outcomes; out = out }

-- [6.5] what the single call gives for the line at hand, in the room that is left
unfoldable pub answer_now : Store → List ℕ → Batch → Outcome (List ℕ)
answer_now s asks b = office_call s (length (drop b.written b.out)) (line_at asks b.used)

unfoldable pub length_given : Outcome (List ℕ) → ℕ
length_given (refused n) = 0
length_given (gives line) = length line

-- [6.6] row k of the outcomes: the refusal's number, and how long the answer line is
unfoldable pub row_put : List ℕ → ℕ → ℕ → ℕ → List ℕ
row_put l k refusal size = set (set l (2 * k) refusal) (2 * k + 1) size

unfoldable pub step_by : Outcome (List ℕ) → List ℕ → Batch → Batch
step_by o asks b =
    record {
      lines = b.lines + 1;
      used = b.used + cut_at (drop b.used asks);
      written = b.written + length_given o;
      outcomes = row_put b.outcomes b.lines (number o) (length_given o);
      out = take b.written b.out ++ leaves put_line o (drop b.written b.out);
    }

-- one line more
unfoldable pub step : Store → List ℕ → Batch → Batch
step s asks b = step_by (answer_now s asks b) asks b

-- [6.7] while a byte of the asks is left, a row of the outcomes, and room for the longest line
unfoldable pub goes : List ℕ → Batch → Bool
goes asks b =
    ltb b.used (length asks)
    && (leb (2 * b.lines + 2) (length b.outcomes) && leb (b.written + longest_answer) (length b.out))

-- the first number bounds the steps
unfoldable pub batch_answered : ℕ → Store → List ℕ → Batch → Batch
batch_answered zero s asks b = b
batch_answered (suc f) s asks b = cond (goes asks b) (batch_answered f s asks (step s asks b)) b

-- [9.18] refusals 12, 1, 2, and then line after line: every line uses a byte, so the bytes bound the steps
unfoldable pub batch_call : Store → List ℕ → List ℕ → List ℕ → Outcome Batch
batch_call s asks outcomes out =
    must (answer_room (length out)) 12 (on_table s (gives (batch_answered (length asks) s asks (batch_start outcomes out))))

-- ---- what it comes to, line by line

-- where line k of the asks starts, and the line
unfoldable pub start_at : ℕ → List ℕ → ℕ
start_at zero asks = 0
start_at (suc k) asks = start_at k asks + cut_at (drop (start_at k asks) asks)

unfoldable pub nth_line : ℕ → List ℕ → List ℕ
nth_line k asks = line_at asks (start_at k asks)

-- [6.5] what the single call gives for line k
unfoldable pub alone : Store → List ℕ → ℕ → Outcome (List ℕ)
alone s asks k = office_call s longest_answer (nth_line k asks)

unfoldable pub line_given : Outcome (List ℕ) → List ℕ
line_given (refused n) = []
line_given (gives line) = line

-- [6.5] [6.6] the answer lines to the first n lines, one after another, and the rows of their outcomes
unfoldable pub answers_of : ℕ → Store → List ℕ → List ℕ
answers_of zero s asks = []
answers_of (suc n) s asks = answers_of n s asks ++ line_given (alone s asks n)

unfoldable pub rows_of : ℕ → Store → List ℕ → List ℕ
rows_of zero s asks = []
rows_of (suc n) s asks = rows_of n s asks ++ (number (alone s asks n) ∷ length_given (alone s asks n) ∷ [])

-- the first n lines answered, into the front of two rooms
unfoldable pub batch_at : ℕ → Store → List ℕ → List ℕ → List ℕ → Batch
batch_at n s asks outcomes out =
    record {
      lines = n;
      used = start_at n asks;
      written = length (answers_of n s asks);
      outcomes = rows_of n s asks ++ drop (2 * n) outcomes;
      out = answers_of n s asks ++ drop (length (answers_of n s asks)) out;
    }

-- [6.5] [6.6] line k stands in the batch as the single call answers it
pub record LineAsAlone (s : Store) (asks : List ℕ) (b : Batch) (k : ℕ) : Type 0 where
  pub refusal : get_or b.outcomes (2 * k) 0 ≡ number (alone s asks k)
  pub size : get_or b.outcomes (2 * k + 1) 0 ≡ length_given (alone s asks k)
  pub line : take (length_given (alone s asks k)) (drop (length (answers_of k s asks)) b.out) ≡ line_given (alone s asks k)

-- ---- contracts

-- what a result says, with the two rooms
abbrev pub batch_of : Answered → List ℕ → List ℕ → Batch
batch_of r outcomes out = record { lines = r.lines; used = r.used; written = r.written; outcomes = outcomes; out = out }

-- [6.7] [9.18] what the call shows of its outcome: how far it came
abbrev pub came_to : Batch → Answered
came_to b = record { lines = b.lines; used = b.used; written = b.written }

abbrev pub batch_shown : Outcome Batch → Outcome Answered
batch_shown o = showing came_to o

-- the two rooms that the call is lent for writing
pub record BatchRooms : Type 0 where
  pub outcomes : List ℕ
  pub out : List ℕ

abbrev pub two_rooms : List ℕ → List ℕ → BatchRooms
two_rooms outcomes out = record { outcomes = outcomes; out = out }

abbrev pub put_batch : Batch → BatchRooms → BatchRooms
put_batch b nodes = two_rooms b.outcomes b.out

-- what the call promises
abbrev pub AnswersAll : Outcome Batch → BatchRooms → Outcome Answered → BatchRooms → Type 0
AnswersAll o before r after = Promise batch_shown put_batch o before r after

-- a table that may be asked, and a line to answer
pub record LineLeft (s : Store) (asks : List ℕ) (b : Batch) : Type 0 where
  pub sound : 0 ≡ table_refusal s
  pub more : goes asks b ≡ true

-- [6.6] how long the answer line is by what was told of it; 0 beside a refusal
abbrev pub length_told : Outcome ℕ → ℕ
length_told (refused n) = 0
length_told (gives n) = n
