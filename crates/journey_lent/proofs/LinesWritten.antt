-- [5.13] What is written reads back, and an ask begins with its order's kind. Assumes nothing.
use Prim.Native.Nat.{ℕ, ◌-◌, ◌*◌, ◌≤◌}
use mathlib.Core.Path.{◌≡◌, refl, ap, ◌∙◌}
use mathlib.Core.Bool.{Bool, true, false}
use native.Mathlib.Omega.{arith}
use lib.Dec.{eqb}
use lib.ListN.{length, replicate}
use borrow.Author.Tests.{eq-eqb, le-leb}
use Rattle.paper.specs.declared.lines.Scope.{Scope}
use Rattle.paper.specs.Frames.{num, frame_of}
use Rattle.paper.specs.Fields.{query_in_slots, flag_of, item_slots}
use Rattle.paper.specs.Lines.{ask_kind, query_fits, ask_frame, ask_ranges, ask_fits, answer_ranges, answer_fits}
use Rattle.paper.specs.Orders.{Query, snapshot_of, flat}
use Rattle.paper.specs.Outcomes.{gives}
use Rattle.paper.specs.Ends.{Ask, Answer}
use Rattle.paper.specs.Codec.{scope_of, ask_line, answer_line, ask_meant, answer_meant, read_ask, read_answer}
use Rattle.paper.proofs.Reading.{ask_as_read, answer_as_read}
use Rattle.line_digits.proofs.LinesAndFrames.{frame_line}
use Rattle.line_fields.proofs.Round.{ScopeFit, front_read}
use Rattle.paper.proofs.LineKinds.{ask_small}
use Rattle.lines.proofs.AskTests.{bytes_ask}
use Rattle.lines.proofs.AskRound.{ask_reads_back}
use Rattle.lines.proofs.AnswerRound.{answer_reads_back}
use Rattle.orders.specs.LawfulLines.{QueryInRange, AskInRange, ItemInRange, AnswerInRange}
use Rattle.paper.proofs.Tests.{and_both}
use Rattle.orders.proofs.Lists.{All, all_of_mem}
use Rattle.orders.proofs.Rooms.{read_flat, flat_length, query_placed}
use Rattle.journey_lent.proofs.LineParts.{scope_place, scope_snapshot, asked_small, asked_used, scope_ok_lem, scope_fit, scope_asks, query_fit, flat_numbers, flat_references, flat_distances}
use Rattle.paper.specs.Limits.{item_room, most_page}

-- ---- flags and queries

flag_back : (b : Bool) → eqb (flag_of b) 1 ≡ b
flag_back true = refl
flag_back false = refl

flag_small : (b : Bool) → flag_of b ≤ 1
flag_small true = omega arith
flag_small false = omega arith

-- a query in range fits
query_fits_lem : (q : Query) → QueryInRange q → query_fits q ≡ true
unfolding query_fits
query_fits_lem q ok = and_both _ _ ok.range (eq-eqb _ _ ok.long)

-- ---- an ask

-- an ask's fields, as its reader gives them
module _ (a : Ask) (ok : AskInRange a) where
  -- the snapshot that it carries
  abbrev carried : ℕ
  carried = snapshot_of a.place 0

  abbrev scope : Scope
  scope = scope_of a.place carried

  scope_fits : ScopeFit scope
  scope_fits = scope_fit a.place carried ok.place (asked_small a.place ok.place)

  ask_fits_lem : ask_fits a.query scope a.size ≡ true
  unfolding ask_fits ask_ranges
  ask_fits_lem =
      and_both _ _ (query_fits_lem a.query ok.query)
      (and_both _ _ (scope_ok_lem a.place carried ok.place (asked_small a.place ok.place))
      (and_both _ _ (scope_asks a.place) (and_both _ _ (le-leb 1 a.size ok.one) (le-leb a.size most_page ok.most))))

  ask_same : ask_meant (record { query = query_in_slots a.query; scope = scope; size = a.size }) ≡ a
  unfolding ask_meant
  ask_same =
      let q = query_placed a.query ok.query.long in
      let p = scope_place a.place carried (asked_used a.place) in
      λ i. record { query = q i; place = p i; size = a.size }

  pub ask_back : read_ask (ask_line a) ≡ gives a
  unfolding ask_line
  ask_back =
      ask_as_read (ask_line a)
      ∙ rw (ask_reads_back a.query scope a.size ask_fits_lem (query_fit a.query ok.query) scope_fits) (ap gives ask_same)

  pub ask_begins : num 1 (frame_of (ask_line a)) ≡ ask_kind a.query.order
  unfolding ask_line ask_frame
  ask_begins =
      ap (num 1) (frame_line _ (bytes_ask a.query scope a.size))
      ∙ (front_read _ _ a.query scope _ refl (ask_small a.query.order) (query_fit a.query ok.query) scope_fits).kind

-- ---- an answer

-- an answer's
module _ (y : Answer) (ok : AnswerInRange y) where
  abbrev around : Scope
  around = scope_of y.place y.snapshot

  abbrev pages : ℕ
  pages = length y.items

  around_fits : ScopeFit around
  around_fits = scope_fit y.place y.snapshot ok.place ok.snapshot

  all_ok : All ItemInRange y.items
  all_ok = all_of_mem _ y.items ok.items

  answer_fits_lem : answer_fits y.query around (flag_of y.last) pages (flat y.items) ≡ true
  unfolding answer_fits answer_ranges
  answer_fits_lem =
      and_both _ _ (query_fits_lem y.query ok.query)
      (and_both _ _ (and_both _ _ (scope_ok_lem y.place y.snapshot ok.place ok.snapshot)
      (and_both _ _ (le-leb (flag_of y.last) 1 (flag_small y.last)) (le-leb pages most_page ok.few)))
      (and_both _ _ (eq-eqb _ _ (flat_length y.items)) (and_both _ _ (flat_references y.items all_ok) (flat_numbers y.items all_ok))))

  answer_same : answer_meant (record { query = query_in_slots y.query; scope = around; last = flag_of y.last; count = pages; items = item_slots pages (flat y.items) }) ≡ y
  unfolding answer_meant item_slots
  answer_same =
      let q = query_placed y.query ok.query.long in
      let p = scope_place y.place y.snapshot ok.used in
      let s = scope_snapshot y.place y.snapshot in
      let l = flag_back y.last in
      let m = read_flat y.items (replicate (item_room - 3 * pages) 0) in
      λ i. record { query = q i; place = p i; snapshot = s i; last = l i; items = m i }

  pub answer_back : read_answer (answer_line y) ≡ gives y
  unfolding answer_line
  answer_back =
      answer_as_read (answer_line y)
      ∙ rw (answer_reads_back y.query around (flag_of y.last) pages (flat y.items) answer_fits_lem (query_fit y.query ok.query) around_fits (flat_distances y.items all_ok)) (ap gives answer_same)
