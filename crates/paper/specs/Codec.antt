-- What the lines of asks and answers mean to the two ends, and back. Definitions only.
use Rattle.std.specs.Prelude.{ℕ, cond, List, eqb, length}
use Rattle.paper.specs.declared.lines.Ask as lines-Ask
use Rattle.paper.specs.declared.lines.Answer as lines-Answer
use Rattle.paper.specs.declared.lines.Scope.{Scope}
use Rattle.paper.specs.declared.orders.Place.{Place}
use Rattle.paper.specs.declared.orders.Place.TheVariants.{Start, After}
use Rattle.paper.specs.Orders.{query_in, snapshot_of, flat}
use Rattle.paper.specs.Outcomes.{Outcome, gives, must}
use Rattle.paper.specs.Frames.{line_of, frame_of, is_line}
use Rattle.paper.specs.Fields.{flag_of}
use Rattle.paper.specs.Lines.{ask_frame, is_ask, ask_at, answer_frame, is_answer, answer_at}
use Rattle.paper.specs.Ends.{Ask, Answer, Codec}
use Rattle.paper.specs.Lists.{items_in}

-- [5.8] the place that a scope names: from is 0 for the start, 1 for another
unfoldable pub place_in : Scope → Place
place_in p = cond (eqb p.from 0) Start (After p.snapshot (record { distance = p.distance; number = p.number }))

-- [5.8] [5.10] the scope of a place, whose mark is 0 for the start
unfoldable pub scope_of : Place → ℕ → Scope
scope_of Start snapshot = record { from = 0; snapshot = snapshot; distance = 0; number = 0 }
scope_of (After n m) snapshot = record { from = 1; snapshot = snapshot; distance = m.distance; number = m.number }

unfoldable pub ask_meant : lines-Ask.Ask → Ask
ask_meant a = record { query = query_in a.query; place = place_in a.scope; size = a.size }

unfoldable pub answer_meant : lines-Answer.Answer → Answer
answer_meant y =
    record {
      query = query_in y.query;
      place = place_in y.scope;
      snapshot = y.scope.snapshot;
      last = eqb y.last 1;
      items = items_in y.count y.items;
    }

-- [5.5] [5.10] an ask's line, whose snapshot is 0 for the start
unfoldable pub ask_line : Ask → List ℕ
ask_line a = line_of (ask_frame a.query (scope_of a.place (snapshot_of a.place 0)) a.size)

-- [5.6] an answer's line
unfoldable pub answer_line : Answer → List ℕ
answer_line y =
    line_of (answer_frame y.query (scope_of y.place y.snapshot) (flag_of y.last) (length y.items) (flat y.items))

-- [8.9] [8.10] a line read as an ask
unfoldable pub read_ask : List ℕ → Outcome Ask
read_ask line = must (is_line line) 9 (must (is_ask (frame_of line)) 10 (gives (ask_meant (ask_at (frame_of line)))))

-- [8.9] [8.10] a line read as an answer
unfoldable pub read_answer : List ℕ → Outcome Answer
read_answer line =
    must (is_line line) 9 (must (is_answer (frame_of line)) 10 (gives (answer_meant (answer_at (frame_of line)))))

abbrev pub lines : Codec
lines = record { ask_line = ask_line; answer_line = answer_line; read_ask = read_ask; read_answer = read_answer }
