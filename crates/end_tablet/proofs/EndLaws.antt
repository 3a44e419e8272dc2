-- The three calls of a tablet, with their refusals in order: opening, writing an ask, taking a line. Assumes nothing.
use Prim.Native.Nat.{ℕ, ◌<◌, ◌≤◌}
use mathlib.Core.Path.{◌≡◌, refl, sym, ap, ◌∙◌}
use mathlib.Core.Bool.{Bool, true, false, not}
use mathlib.Core.List.{List}
use native.Mathlib.Omega.{arith}
use lib.Dec.{leb}
use lib.ListN.{length}
use lib.Seq.{length-take-le}
use borrow.Author.Tests.{le-leb, lt-leb, leb-true, eq-eqb, ne_eqb}
use Rattle.paper.specs.declared.lines.Answer as lines-Answer
use Rattle.paper.specs.declared.lines.Scope.{Scope}
use Rattle.paper.specs.declared.lists.List as lists
use Rattle.paper.specs.declared.queries.Query as queries
use Rattle.paper.specs.declared.orders.Place.{Place}
use Rattle.paper.specs.Orders.{Query, query_in, same_order, snapshot_of}
use Rattle.paper.specs.Outcomes.{Outcome, refused, gives, must, onto}
use Rattle.paper.specs.Points.{in_range}
use Rattle.paper.specs.Frames.{line_of, frame_of}
use Rattle.paper.specs.Fields.{query_in_slots, scope_ok}
use Rattle.paper.specs.Lines.{query_fits, Writes, bare_line, ask_frame, ask_ranges, ask_fits, is_answer, answer_at, read_as_answer}
use Rattle.paper.specs.Ends.{Answer, Listing, size_holds, opening, present_place, present_ask, sound_in, asking, taken, own_kind, taking}
use Rattle.paper.specs.Lists.{Takes, Held, held, listing, room_for, held_well, sound_held, opened_as, opening_held, asking_held, taking_held}
use Rattle.lines.proofs.WritersReaders.{writes_refused, bare_fits, holds}
use Rattle.paper.specs.Codec.{scope_of, ask_line, answer_meant, lines}
use Rattle.paper.proofs.Tests.{and_first, and_second, and_both}
use Rattle.paper.proofs.Reading.{answer_as_read}
use Rattle.lines.proofs.AnswerTests.{any_answer}
use Rattle.end_tablet.specs.Holding.{AskReady}
use Rattle.paper.proofs.Ranges.{range_is}
use Rattle.paper.proofs.Outcomes.{must_stop, must_go}
use Rattle.end_tablet.proofs.PresentAsk.{present_after, present_start}
use Rattle.paper.specs.Limits.{longest_ask, most_claims, most_number, most_page, most_coordinates}

-- ---- taking a line

module _ (s : Held) (sound : sound_held s ≡ true) where
  held_go : held_well s.list.query ≡ true
  unfolding sound_held
  held_go = and_first (held_well s.list.query) _ sound

  in_go : sound_in (room_for s) (listing s) ≡ true
  unfolding sound_held
  in_go = and_second (held_well s.list.query) _ sound

  -- what becomes of an answer that was read
  abbrev onward : Answer → Outcome Listing
  onward y = must (own_kind (listing s) y) 10 (taken (room_for s) (listing s) y)

  module _ (line : List ℕ) where
    reads : taking_held lines s line ≡ onto (onto (read_as_answer line) (λ y. gives (answer_meant y))) onward
    unfolding taking_held taking
    reads =
        must_go (held_well s.list.query) 2 _ held_go
        ∙ must_go (sound_in (room_for s) (listing s)) 2 _ in_go
        ∙ ap (λ r. onto r onward) (answer_as_read line)

    pub take_unread : (n : ℕ) → read_as_answer line ≡ refused n → taking_held lines s line ≡ refused n
    take_unread n e = reads ∙ rw e

    module _ (y : lines-Answer.Answer) (e : read_as_answer line ≡ gives y) (b : Bool) (be : b ≡ same_order s.list.query.order y.query.order) where
      take_any : taking_held lines s line ≡ must b 10 (taken (room_for s) (listing s) (answer_meant y))
      unfolding listing answer_meant
      take_any = reads ∙ rw (e, be)

      pub take_other : b ≡ false → taking_held lines s line ≡ refused 10
      take_other o = take_any ∙ must_stop b 10 _ o

      pub take_read : b ≡ true → taking_held lines s line ≡ taken (room_for s) (listing s) (answer_meant y)
      take_read o = take_any ∙ must_go b 10 _ o

-- what reads has at most a page of items
pub read_few : (line : List ℕ) (y : lines-Answer.Answer) → read_as_answer line ≡ gives y → y.count ≤ most_page
unfolding read_as_answer answer_at
read_few line y e =
    let p = holds is_answer answer_at line y e in
    rw p.1 (any_answer (frame_of line) p.0).few

-- a taking that is equal to another promises the same
pub taken_same : (l : lists.List) {x y : Outcome Listing} (before : List ℕ) (r : Outcome lists.List) (after : List ℕ) → x ≡ y → Takes l y before r after → Takes l x before r after
taken_same l before r after e t = rw e t

-- ---- writing an ask

-- the scope of a present ask is in range
after_fits : (snapshot x k size : ℕ) → snapshot ≤ most_claims → k < snapshot → 1 ≤ size → size ≤ most_page
    → ask_ranges (record { from = 1; snapshot = snapshot; distance = x; number = k }) size ≡ true
unfolding ask_ranges scope_ok
after_fits snapshot x k size h b s t = rw (le-leb snapshot most_claims h, le-leb k most_number (omega arith), le-leb 1 size s, le-leb size most_page t)

start_fits : (size : ℕ) → 1 ≤ size → size ≤ most_page → ask_ranges (record { from = 0; snapshot = 0; distance = 0; number = 0 }) size ≡ true
unfolding ask_ranges scope_ok
start_fits size s t = rw (le-leb 1 size s, le-leb size most_page t)

module _ (l : lists.List) (mem : List ℕ) (size : ℕ) (asks : AskReady l mem) (one : 1 ≤ size) (most : size ≤ most_page) where
  abbrev place : Place
  place = present_place (listing (held l mem))

  scope_fits : (p : Scope) → p ≡ scope_of place (snapshot_of place 0) → ask_ranges p size ≡ true
  scope_fits p e = go l.started refl
    where
      go : (b : Bool) → l.started ≡ b → ask_ranges p size ≡ true
      go true s =
          ap (λ (u : Scope). ask_ranges u size) (e ∙ sym (present_after l mem s (asks.some s)))
          ∙ after_fits l.snapshot _ _ size asks.snapshot (asks.below s) one most
      go false s = ap (λ (u : Scope). ask_ranges u size) (e ∙ sym (present_start l mem s)) ∙ start_fits size one most

  -- what `put_ask` writes is the present ask
  module _ (eight : 7 < length l.query.probe) (p : Scope) (e : p ≡ scope_of place (snapshot_of place 0)) (out : List ℕ) (long : longest_ask ≤ length out) where
    abbrev query : Query
    query = query_in l.query

    fits_all : ask_fits query p size ≡ true
    unfolding ask_fits query_fits
    fits_all =
        and_both (query_fits query) _
        (and_both (in_range l.query.measure l.query.d) _ asks.range
        (eq-eqb _ _ (length-take-le l.query.d l.query.probe (omega (arith, (range_is l.query.measure l.query.d asks.range).narrow)))))
        (scope_fits p e)

    line_is : line_of (ask_frame query p size) ≡ ask_line (present_ask (listing (held l mem)) size)
    unfolding ask_line listing
    line_is = rw e

    pub ask_written_lem : (r : Outcome ℕ) (left : List ℕ) → Writes (bare_line (ask_fits query p size) longest_ask (ask_frame query p size) (length out)) out r left
        → Writes (gives (ask_line (present_ask (listing (held l mem)) size))) out r left
    ask_written_lem r left w = rw (bare_fits _ longest_ask (ask_frame query p size) (length out) fits_all long, line_is) at w

-- [9.12] the order of refusals: 2, 16, 6, 12
module _ (l : lists.List) (mem : List ℕ) (size : ℕ) (out : List ℕ) (sound : sound_held (held l mem) ≡ true) where
  abbrev L : Listing
  L = listing (held l mem)

  abbrev ask : Outcome (List ℕ)
  ask = asking_held lines (held l mem) size (length out)

  abbrev Promised : Outcome ℕ → List ℕ → Type 0
  Promised r left = Writes ask out r left

  past_2 : ask ≡ must (not l.complete) 16 (must (size_holds size) 6 (must (leb longest_ask (length out)) 12 (gives (ask_line (present_ask L size)))))
  unfolding asking_held asking listing
  past_2 =
      must_go (held_well l.query) 2 _ (held_go (held l mem) sound)
      ∙ must_go (sound_in (room_for (held l mem)) L) 2 _ (in_go (held l mem) sound)

  pub ask_16 : l.complete ≡ true → Promised (refused 16) out
  ask_16 h = writes_refused ask 16 out (past_2 ∙ must_stop (not l.complete) 16 _ (ap not h))

  module _ (hc : l.complete ≡ false) where
    past_16 : ask ≡ must (size_holds size) 6 (must (leb longest_ask (length out)) 12 (gives (ask_line (present_ask L size))))
    past_16 = past_2 ∙ must_go (not l.complete) 16 _ (ap not hc)

    module _ (b : Bool) (be : b ≡ size_holds size) where
      pub ask_6 : b ≡ false → Promised (refused 6) out
      ask_6 h = writes_refused ask 6 out (past_16 ∙ must_stop (size_holds size) 6 _ (sym be ∙ h))

      module _ (hb : b ≡ true) where
        sized : size_holds size ≡ true
        sized = sym be ∙ hb

        pub ask_some : (1 ≤ size) × (size ≤ most_page)
        ask_some = (leb-true 1 size (and_first (leb 1 size) (leb size most_page) sized), leb-true size most_page (and_second (leb 1 size) (leb size most_page) sized))

        past_6 : ask ≡ must (leb longest_ask (length out)) 12 (gives (ask_line (present_ask L size)))
        past_6 = past_16 ∙ must_go (size_holds size) 6 _ sized

        pub ask_12 : length out < longest_ask → Promised (refused 12) out
        ask_12 h = writes_refused ask 12 out (past_6 ∙ must_stop (leb longest_ask (length out)) 12 _ (lt-leb longest_ask (length out) h))

        pub ask_put : longest_ask ≤ length out → (r : Outcome ℕ) (left : List ℕ) → Writes (gives (ask_line (present_ask L size))) out r left → Promised r left
        ask_put h r left w = rw (past_6 ∙ must_go (leb longest_ask (length out)) 12 _ (le-leb longest_ask (length out) h)) w

-- ---- opening

module _ (q : Query) (a : Bool) (ae : a ≡ in_range q.measure q.d) where
  abbrev opens : Outcome lists.List
  opens = opening_held q

  pub open_1 : a ≡ false → refused 1 ≡ opens
  unfolding opening_held opening
  open_1 h = rw (← ae, h)

  module _ (ha : a ≡ true) where
    pub open_5 : (length q.probe ≡ q.d → ⊥) → refused 5 ≡ opens
    unfolding opening_held opening
    open_5 h = rw (← ae, ha, ne_eqb (length q.probe) q.d h)

    pub open_list : length q.probe ≡ q.d → (x : queries.Query) → x ≡ query_in_slots q
        → gives (record { query = x; started = false; snapshot = 0; count = 0; complete = false }) ≡ opens
    unfolding opening_held opening opened_as
    open_list h x e = rw (← ae, ha, eq-eqb (length q.probe) q.d h, e)

    pub open_narrow : q.d ≤ most_coordinates
    open_narrow = (range_is q.measure q.d (sym ae ∙ ha)).narrow
