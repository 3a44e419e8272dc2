-- Room enough: an answer line has at most 573 characters, so with as many for each line, and a row, every line is answered. Assumes nothing.
use Prim.Native.Nat.{ℕ, zero, suc, ◌+◌, ◌*◌, ◌-◌, ◌<◌, ◌≤◌}
use mathlib.Core.Path.{◌≡◌, refl, sym, ap, ◌∙◌, subst}
use mathlib.Core.Bool.{Bool, true, false}
use mathlib.Core.List.{List, ◌++◌}
use native.Mathlib.Omega.{arith}
use native.Mathlib.Decide.{dec_le}
use lib.Dec.{leb}
use lib.ListN.{length, take, drop, length-append, length-drop, length-take}
use borrow.Author.Tests.{lt-ltb, le-leb}
use Rattle.paper.specs.Orders.{flat, following, page_of, snapshot_holds, mark_holds}
use Rattle.paper.specs.Outcomes.{gives, must, onto}
use Rattle.paper.specs.Tree.{Store, fits}
use Rattle.paper.specs.Tree as Tree
use Rattle.paper.specs.Frames.{frame_of, is_line}
use Rattle.paper.specs.Fields.{flag_of}
use Rattle.paper.specs.Lines.{is_ask, ask_at, answer_frame}
use Rattle.paper.specs.Ends.{Ask, table_of, matches, answer_of, answer_to, line_answered}
use Rattle.paper.specs.Ends as Ends
use Rattle.paper.specs.Codec.{ask_meant, answer_line, read_ask, scope_of, lines}
use Rattle.paper.specs.Calls.{office_call}
use Rattle.orders.proofs.Rooms.{flat_length}
use Rattle.line_digits.proofs.LinesAndFrames.{length_line}
use Rattle.lines.proofs.AnswerTests.{length_answer}
use Rattle.end_office.proofs.AnswerToAsk.{ask_given}
use Rattle.nearby_batch.specs.Batch.{Batch, batch_start, length_given, goes, batch_answered, start_at, nth_line, alone, line_given, answers_of, rows_of, batch_at}
use Rattle.nearby_batch.proofs.Cutting.{cut_short}
use Rattle.nearby_batch.proofs.BatchSoFar.{given_size, rows_long, batch_is}
use Rattle.nearby_batch.proofs.Alone.{stops_for_want}
use Rattle.paper.specs.Limits.{longest_answer, most_page}

-- ---- an answer line is short

answer_short : (t : Ends.Table) (a : Ask) → length a.query.probe ≤ 8 → a.size ≤ most_page → length (answer_line (answer_of t a)) ≤ longest_answer
unfolding answer_line answer_of page_of
answer_short t a narrow most =
    let items = take a.size (following a.query t.claims a.place) in
    let y = answer_of t a in
    let n = length-take a.size (following a.query t.claims a.place) in
    let frame = answer_frame a.query (scope_of a.place y.snapshot) (flag_of y.last) (length items) (flat items) in
    let f = length_answer a.query (scope_of a.place y.snapshot) (flag_of y.last) (length items) (flat items) (flat_length items) in
    omega (arith, length_line frame, f, n)

reply_short : (t : Ends.Table) (a : Ask) → length a.query.probe ≤ 8 → a.size ≤ most_page → length_given (onto (answer_to t a) (λ y. gives (answer_line y))) ≤ longest_answer
unfolding answer_to length_given
reply_short t a narrow most = go (matches t a.query) (snapshot_holds t.claims a.place) (mark_holds a.query t.claims a.place)
  where
    go : (x y z : Bool) → length_given (onto (must x 11 (must y 7 (must z 8 (gives (answer_of t a))))) (λ y. gives (answer_line y))) ≤ longest_answer
    go true true true = answer_short t a narrow most
    go true true false = omega arith
    go true false z = omega arith
    go false y z = omega arith

served_short : (t : Ends.Table) (line : List ℕ) → length_given (line_answered lines t line) ≤ longest_answer
unfolding line_answered read_ask length_given ask_meant
served_short t line = go (is_line line) (is_ask (frame_of line)) refl
  where
    go : (x y : Bool) → is_ask (frame_of line) ≡ y
        → length_given (onto (must x 9 (must y 10 (gives (ask_meant (ask_at (frame_of line)))))) (λ a. onto (answer_to t a) (λ y. gives (answer_line y)))) ≤ longest_answer
    go true true e =
        let g = ask_given (frame_of line) e in
        let q = (ask_at (frame_of line)).query in
        let m = length-take q.d q.probe in
        reply_short t (ask_meant (ask_at (frame_of line))) (omega (arith, m, g.narrow)) g.most
    go true false e = omega arith
    go false y e = omega arith

pub office_short : (s : Store) (room : ℕ) (line : List ℕ) → length_given (office_call s room line) ≤ longest_answer
unfolding office_call length_given
office_short s room line = go (leb longest_answer room) (fits s) (Tree.sound s)
  where
    go : (x y z : Bool) → length_given (must x 12 (must y 1 (must z 2 (line_answered lines (table_of s) line)))) ≤ longest_answer
    go true true true = served_short (table_of s) line
    go true true false = omega arith
    go true false z = omega arith
    go false y z = omega arith

-- ---- every line is answered

module _ (s : Store) (asks : List ℕ) where
  answers_short : (n : ℕ) → length (answers_of n s asks) ≤ longest_answer * n
  unfolding answers_of alone
  answers_short zero = omega arith
  answers_short (suc n) =
      let h = answers_short n in
      let m = length-append (answers_of n s asks) (line_given (alone s asks n)) in
      omega (arith, m, given_size (alone s asks n), office_short s longest_answer (nth_line n asks))

start_inside : (asks : List ℕ) (n : ℕ) → start_at n asks ≤ length asks
unfolding start_at
start_inside asks zero = omega arith
start_inside asks (suc n) =
    let h = start_inside asks n in
    omega (arith, cut_short (drop (start_at n asks) asks), length-drop (start_at n asks) asks)

start_later : (asks : List ℕ) (n m : ℕ) → start_at n asks ≤ start_at (n + m) asks
unfolding start_at
start_later asks n zero = let q : n + 0 ≡ n = omega arith in rw q (omega arith)
start_later asks n (suc m) =
    let h = start_later asks n m in
    let q : n + suc m ≡ suc (n + m) = omega arith in
    rw q (omega arith)

module _ (s : Store) (asks outcomes out : List ℕ) (count : ℕ) (all : start_at count asks ≡ length asks)
    (rows : 2 * count ≤ length outcomes) (room : longest_answer * count ≤ length out) where
  goes_still : (n : ℕ) → start_at n asks < length asks → goes asks (batch_at n s asks outcomes out) ≡ true
  unfolding goes batch_at
  goes_still n h =
      let before : n < count = earlier (dec_le count n) in
      let a = answers_short s asks n in
      let x = length-append (rows_of n s asks) (drop (2 * n) outcomes) in
      let y = length-append (answers_of n s asks) (drop (length (answers_of n s asks)) out) in
      let p : 2 * n + 2 ≤ length (rows_of n s asks ++ drop (2 * n) outcomes) = omega (arith, x, rows_long s asks n, length-drop (2 * n) outcomes) in
      let q : length (answers_of n s asks) + longest_answer ≤ length (answers_of n s asks ++ drop (length (answers_of n s asks)) out) = omega (arith, y, a, length-drop (length (answers_of n s asks)) out) in
      rw (
        lt-ltb (start_at n asks) (length asks) h,
        le-leb (2 * n + 2) (length (rows_of n s asks ++ drop (2 * n) outcomes)) p,
        le-leb (length (answers_of n s asks) + longest_answer) (length (answers_of n s asks ++ drop (length (answers_of n s asks)) out)) q,
      )
    where
      earlier : Dec (count ≤ n) → n < count
      earlier (yes le) =
          let k : count + (n - count) ≡ n = omega arith in
          let m = start_later asks count (n - count) in
          let w : start_at count asks ≤ start_at n asks = subst (λ (i : ℕ). start_at count asks ≤ start_at i asks) k m in
          absurd (omega arith)
      earlier (no gt) = omega arith

  pub all_lines_answered : (batch_answered (length asks) s asks (batch_start outcomes out)).used ≡ length asks
  unfolding batch_at
  all_lines_answered =
      let n = (batch_answered (length asks) s asks (batch_start outcomes out)).lines in
      let is = batch_is s asks outcomes out (length asks) in
      let u : (batch_answered (length asks) s asks (batch_start outcomes out)).used ≡ start_at n asks = ap (λ (b : Batch). b.used) is in
      let stop : goes asks (batch_at n s asks outcomes out) ≡ false = subst (λ (b : Batch). goes asks b ≡ false) is (stops_for_want s asks outcomes out) in
      u ∙ end n stop (dec_le (length asks) (start_at n asks))
    where
      end : (n : ℕ) → goes asks (batch_at n s asks outcomes out) ≡ false → Dec (length asks ≤ start_at n asks) → start_at n asks ≡ length asks
      end n stop (yes le) = let h = start_inside asks n in omega arith
      end n stop (no gt) = absurd (let z : ◌≡◌ {A = Bool} true false = sym (goes_still n (omega arith)) ∙ stop in let w : ◌≡◌ {A = ℕ} 0 1 = cc in omega arith)
