-- Lists, asks and answers as C has them. Definitions only.
use Rattle.std.specs.Prelude.{ℕ, Bool, not, List, eqb, ℤ, pos, replicate}
use Rattle.paper.specs.declared.lines.Scope.{Scope}
use Rattle.paper.specs.declared.lines.Ask.{Ask}
use Rattle.paper.specs.declared.lines.Answer.{Answer}
use Rattle.paper.specs.declared.lines.ClaimLine.{ClaimLine}
use Rattle.paper.specs.declared.lists.List as lists
use Rattle.paper.specs.declared.queries.Query as queries
use Rattle.paper.specs.declared.orders.Order.{Order}
use Rattle.paper.specs.Orders.{Query, is_far, order_by}
use Rattle.paper.specs.Outcomes.{Outcome, refused, gives, Promise}
use Rattle.paper.specs.Fields.{flag_of}
use Rattle.paper.specs.Lists.{no_list, taken_shown, put_items}
use Rattle.paper.specs.Lines.{no_query, no_scope}
use Rattle.paper.specs.Limits.{item_room, most_coordinates}
use Rattle.paper.specs.Ends as Ends
use Rattle.c_lists.specs.declared.Extent.{Extent}
use Rattle.c_lists.specs.declared.AskFields.{AskFields}
use Rattle.c_lists.specs.declared.AskShown.{AskShown}
use Rattle.c_lists.specs.declared.AnswerFields.{AnswerFields}
use Rattle.c_lists.specs.declared.AnswerShown.{AnswerShown}
use Rattle.c_lists.specs.declared.ClaimShown.{ClaimShown}
use Rattle.c_lists.specs.declared.Listing.{Listing}
use Rattle.c_lists.specs.declared.Listed.{Listed}

-- [9.19] a flag from C: anything but 0 is on
abbrev pub flag_in : ℕ → Bool
flag_in n = not (eqb n 0)

-- [9.19] an order from C and to C: a flag, on for far
abbrev pub order_in : ℕ → Order
order_in n = order_by (flag_in n)

abbrev pub order_out : Order → ℕ
order_out o = flag_of (is_far o)

-- a query of C, in parts
abbrev pub query_from : ℕ → ℕ → ℕ → ℕ → List ℤ → ℕ → Query
query_from order table measure d probe reach =
    record { order = order_in order; table = table; measure = measure; d = d; probe = probe; reach = reach }

-- the same in eight slots, as lists, asks and answers have it
abbrev pub query_back : ℕ → ℕ → ℕ → ℕ → List ℤ → ℕ → queries.Query
query_back order table measure d probe reach =
    record { order = order_in order; table = table; measure = measure; d = d; probe = probe; reach = reach }

abbrev pub list_in : Listing → lists.List
list_in l =
    record {
      query = query_back l.order l.table l.measure l.d l.probe l.reach;
      started = flag_in l.started;
      snapshot = l.snapshot;
      count = l.count;
      complete = flag_in l.complete;
    }

abbrev pub list_out : lists.List → Listing
list_out l =
    record {
      table = l.query.table;
      order = order_out l.query.order;
      measure = l.query.measure;
      started = flag_of l.started;
      complete = flag_of l.complete;
      d = l.query.d;
      probe = l.query.probe;
      reach = l.query.reach;
      snapshot = l.snapshot;
      count = l.count;
    }

abbrev pub scope_from : Extent → Scope
scope_from p = record { from = p.from; snapshot = p.snapshot; distance = p.distance; number = p.number }

abbrev pub extent_out : ℕ → Scope → Extent
extent_out reach p =
    record { reach = reach; from = p.from; snapshot = p.snapshot; distance = p.distance; number = p.number }

abbrev pub ask_fields : Ask → AskFields
ask_fields a =
    record {
      table = a.query.table;
      order = order_out a.query.order;
      measure = a.query.measure;
      d = a.query.d;
      probe = a.query.probe;
      scope = extent_out a.query.reach a.scope;
      size = a.size;
    }

-- the ask and the answer whose fields these are
abbrev pub ask_in : AskFields → Ask
ask_in a =
    record {
      query = query_back a.order a.table a.measure a.d a.probe a.scope.reach;
      scope = scope_from a.scope;
      size = a.size;
    }

abbrev pub ask_out : Outcome Ask → AskShown
ask_out (refused n) = record { refusal = n; ask = ask_fields (record { query = no_query; scope = no_scope; size = 0 }) }
ask_out (gives a) = record { refusal = 0; ask = ask_fields a }

abbrev pub answer_fields : Answer → AnswerFields
answer_fields y =
    record {
      table = y.query.table;
      order = order_out y.query.order;
      measure = y.query.measure;
      d = y.query.d;
      probe = y.query.probe;
      scope = extent_out y.query.reach y.scope;
      last = y.last;
      count = y.count;
      items = y.items;
    }

abbrev pub answer_in : AnswerFields → Answer
answer_in y =
    record {
      query = query_back y.order y.table y.measure y.d y.probe y.scope.reach;
      scope = scope_from y.scope;
      last = y.last;
      count = y.count;
      items = y.items;
    }

abbrev pub answer_out : Outcome Answer → AnswerShown
answer_out (refused n) =
    record {
      refusal = n;
      answer = answer_fields (record { query = no_query; scope = no_scope; last = 0; count = 0; items = replicate item_room 0 });
    }
answer_out (gives y) = record { refusal = 0; answer = answer_fields y }

abbrev pub claim_out : Outcome ClaimLine → ClaimShown
claim_out (refused n) =
    record {
      refusal = n;
      claim = record { table = 0; measure = 0; d = 0; reference = 0; coordinates = replicate most_coordinates (pos 0) };
    }
claim_out (gives c) = record { refusal = 0; claim = c }

-- [9.11] a list of zeros stands beside a refusal
abbrev pub opened_out : Outcome lists.List → Listed
opened_out (refused n) = record { refusal = n; list = list_out no_list }
opened_out (gives l) = record { refusal = 0; list = list_out l }

-- [9.13] beside a refusal stands the list as it came
abbrev pub taken_out : lists.List → Outcome lists.List → Listed
taken_out l (refused n) = record { refusal = n; list = list_out l }
taken_out l (gives t) = record { refusal = 0; list = list_out t }

abbrev pub TakesOut : lists.List → Outcome Ends.Listing → List ℕ → Listed → List ℕ → Type 0
TakesOut l o before r after = Promise (λ u. taken_out l (taken_shown l u)) put_items o before r after
