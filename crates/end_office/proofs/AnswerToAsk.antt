-- The answer to an ask: a law for each way through the calls. Assumes nothing.
use Prim.Native.Nat.{ℕ, ◌≤◌}
use mathlib.Core.Path.{◌≡◌, refl, sym, ap, subst, ◌∙◌}
use mathlib.Core.Bool.{Bool, true, false, ◌&&◌, ◌||◌}
use mathlib.Core.List.{List}
use native.Mathlib.Omega.{arith}
use lib.Dec.{leb, eqb}
use lib.ListN.{take, drop}
use borrow.Author.Tests.{leb-true}
use Rattle.paper.specs.declared.lines.Ask as lines-Ask
use Rattle.paper.specs.declared.lines.Scope.{Scope}
use Rattle.paper.specs.declared.orders.Place.{Place}
use Rattle.paper.specs.declared.queries.Query as queries
use Rattle.paper.specs.Orders.{Query, query_in, snapshot_of, snapshot_holds, mark_holds}
use Rattle.paper.specs.Tree.{Store, claims_in}
use Rattle.paper.specs.Outcomes.{Outcome, refused, gives, must, onto}
use Rattle.paper.specs.Frames.{num, frame_of}
use Rattle.paper.specs.Fields.{scope_in, scope_ok}
use Rattle.paper.specs.Lines.{Writes, behind, query_at, ask_ranges, is_ask, ask_at, read_as_ask}
use Rattle.paper.specs.Ends.{Ask, table_of, matches, answer_of, answer_to, line_answered}
use Rattle.paper.specs.Ends as Ends
use Rattle.paper.specs.Codec.{place_in, ask_meant, answer_line, lines}
use Rattle.paper.specs.Program.{reply_to}
use Rattle.paper.proofs.Reading.{ask_as_read}
use Rattle.paper.proofs.Tests.{and_first, and_second}
use Rattle.lines.proofs.WritersReaders.{writes_refused, holds}
use Rattle.lines.proofs.AskTests.{any_ask}
use Rattle.paper.specs.Calls.{table_query}
use Rattle.tree.proofs.PointsInMemory.{claims_length}
use Rattle.end_office.specs.Desk.{Given, Answering, AskOurs, ask_in, page_line, page_reply}
use Rattle.end_office.proofs.PageLines.{own_query}
use Rattle.paper.specs.Limits.{most_page}

-- ---- answer_here

-- 7 is tested of the place that the fields name
pub stored_at : (p : Scope) (n : ℕ) (place : Place) (b : Bool) → place ≡ place_in p → b ≡ leb (snapshot_of place n) n → b ≡ leb (snapshot_of (place_in p) n) n
stored_at p n place b at e = e ∙ ap (λ (u : Place). leb (snapshot_of u n) n) at

module _ (s : Store) (q : queries.Query) (p : Scope) (size : ℕ) (b : Bool) (holds : b ≡ leb (snapshot_of (place_in p) s.table.count) s.table.count) where
  stored_is : snapshot_holds (claims_in s) (place_in p) ≡ b
  unfolding snapshot_holds
  stored_is = rw (claims_length s.table.d s.table.count s.references s.coordinates) (sym holds)

  pub here_7 : (before : List ℕ) → b ≡ false → Writes (page_reply (table_of s) (ask_in q p size)) before (refused 7) before
  unfolding page_reply
  here_7 before t = writes_refused _ 7 before (rw (stored_is, t))

  pub here_stored : b ≡ true → snapshot_of (place_in p) s.table.count ≤ s.table.count
  here_stored t = leb-true _ _ (sym holds ∙ t)

  module _ (out : ℕ) (h : AskOurs s q p size out) (m : Bool) (place : Place) (at : place ≡ place_in p)
      (marked : m ≡ mark_holds (table_query s.table q.order (take q.d q.probe) q.reach) (claims_in s) place) (t : b ≡ true) where
    marked_is : mark_holds (query_in q) (claims_in s) (place_in p) ≡ m
    marked_is = subst (λ (x : Query). mark_holds x (claims_in s) (place_in p) ≡ m) (sym (own_query s q p size out h)) (rw (← at) (sym marked))

    pub here_8 : (before : List ℕ) → m ≡ false → Writes (page_reply (table_of s) (ask_in q p size)) before (refused 8) before
    unfolding page_reply
    here_8 before u = writes_refused _ 8 before (rw (stored_is, t, marked_is, u))

    pub here_page : (before : List ℕ) (w : Outcome ℕ) (after : List ℕ) → m ≡ true → Writes (page_line (table_of s) (ask_in q p size)) before w after
        → Writes (page_reply (table_of s) (ask_in q p size)) before w after
    unfolding page_reply
    here_page before w after u x = rw (stored_is, t, marked_is, u) x

-- ---- answer_ask

reply_here : (t : Ends.Table) (a : Ask) → matches t a.query ≡ true → reply_to t a ≡ page_reply t a
unfolding reply_to answer_to page_reply
reply_here t a e = rw e (go (snapshot_holds t.claims a.place) (mark_holds a.query t.claims a.place))
  where
    go : (b c : Bool) → onto (must b 7 (must c 8 (gives (answer_of t a)))) (λ y. gives (answer_line y)) ≡ must b 7 (must c 8 (page_line t a))
    go true true = refl
    go true false = refl
    go false c = refl

module _ (s : Store) (a : lines-Ask.Ask) (b : Bool)
    (is : b ≡ (eqb a.query.table s.table.number && (eqb a.query.measure s.table.measure && eqb a.query.d s.table.d))) where
  matches_is : matches (table_of s) (query_in a.query) ≡ b
  unfolding matches
  matches_is = sym is

  pub ask_11 : (before : List ℕ) → b ≡ false → Writes (reply_to (table_of s) (ask_meant a)) before (refused 11) before
  unfolding reply_to answer_to ask_meant
  ask_11 before t = writes_refused _ 11 before (rw (matches_is, t))

  module _ (t : b ≡ true) where
    pub ask_here : (before : List ℕ) (w : Outcome ℕ) (after : List ℕ) → Writes (page_reply (table_of s) (ask_in a.query a.scope a.size)) before w after
        → Writes (reply_to (table_of s) (ask_meant a)) before w after
    unfolding ask_meant
    ask_here before w after x = rw (reply_here (table_of s) (ask_meant a) (matches_is ∙ t)) x

    pub ask_ready : (out : ℕ) → Answering s a out → AskOurs s a.query a.scope a.size out
    ask_ready out h = record { is_open = h.is_open; ask = h.ask; ours = matches_is ∙ t }

-- ---- answer_line

pub ask_given : (f : List ℕ) → is_ask f ≡ true → Given (ask_at f)
unfolding ask_at query_at ask_ranges
ask_given f e =
    let p = scope_in (behind f) in
    let n = num 1 (drop 21 (behind f)) in
    let i = any_ask f e in
    let a = and_second (scope_ok p) ((eqb p.from 1 || eqb p.snapshot 0) && (leb 1 n && leb n most_page)) i.rest in
    let b = and_second (eqb p.from 1 || eqb p.snapshot 0) (leb 1 n && leb n most_page) a in
    record {
      narrow = i.headed.range.narrow;
      scope = and_first (scope_ok p) ((eqb p.from 1 || eqb p.snapshot 0) && (leb 1 n && leb n most_page)) i.rest;
      some = leb-true 1 n (and_first (leb 1 n) (leb n most_page) b);
      most = leb-true n most_page (and_second (leb 1 n) (leb n most_page) b);
    }

module _ (line : List ℕ) where
  pub line_given : (a : lines-Ask.Ask) → read_as_ask line ≡ gives a → Given a
  unfolding read_as_ask
  line_given a e = let p = holds is_ask ask_at line a e in subst Given (sym p.1) (ask_given (frame_of line) p.0)

  module _ (s : Store) (before : List ℕ) where
    pub line_refused : (n : ℕ) → read_as_ask line ≡ refused n → Writes (line_answered lines (table_of s) line) before (refused n) before
    unfolding line_answered
    line_refused n e = writes_refused _ n before (rw (ask_as_read line, e))

    pub line_answered_lem : (a : lines-Ask.Ask) (w : Outcome ℕ) (after : List ℕ) → read_as_ask line ≡ gives a
        → Writes (reply_to (table_of s) (ask_meant a)) before w after → Writes (line_answered lines (table_of s) line) before w after
    unfolding line_answered reply_to
    line_answered_lem a w after e x = rw (ask_as_read line, e) x
