-- What reads is in range, and what reads as an answer begins with an answer's kind. Assumes nothing.
use Prim.Native.Nat.{ℕ, ◌+◌, ◌-◌, ◌*◌, ◌^◌, ◌<◌}
use mathlib.Core.Path.{◌≡◌, ap, ◌∙◌, subst}
use mathlib.Core.Bool.{true, ◌||◌}
use mathlib.Core.List.{List, Memᴰ}
use native.Mathlib.Omega.{arith}
use lib.Dec.{leb, eqb}
use lib.IntN.{ℤ}
use lib.ListN.{length, take, drop, replicate}
use borrow.Author.Tests.{leb-true}
use Rattle.paper.specs.declared.orders.Order.{Order}
use Rattle.paper.specs.Frames.{num, frame_of, is_line}
use Rattle.paper.specs.Points.{in_range}
use Rattle.paper.specs.Orders.{query_in}
use Rattle.paper.specs.Fields.{coords_in, in_slots, scope_in, scope_ok, item_slots}
use Rattle.paper.specs.Fields as fields
use Rattle.paper.specs.Lines.{answer_kind, ask_order, answer_order, behind, query_at, ask_ranges, is_ask, ask_at, answer_ranges, count_in, is_answer, answer_at}
use Rattle.paper.specs.Outcomes.{gives}
use Rattle.paper.specs.Ends.{Ask, Answer}
use Rattle.paper.specs.Codec.{ask_meant, answer_meant, read_ask, read_answer}
use Rattle.line_digits.proofs.NumbersAndFrames.{Bytes, bytes_drop, num_lt}
use Rattle.line_digits.proofs.LinesAndFrames.{bytes_frame}
use Rattle.line_fields.proofs.PartLaws.{length_coords_in}
use Rattle.line_fields.proofs.Round.{take_slots}
use Rattle.lines.proofs.AskTests.{any_ask}
use Rattle.lines.proofs.AnswerTests.{any_answer}
use Rattle.orders.specs.LawfulLines.{QueryInRange, AskInRange, AnswerInRange}
use Rattle.paper.proofs.Tests.{and_first, and_second}
use Rattle.paper.proofs.Outcomes.{must_test, must_rest, same_given}
use Rattle.orders.proofs.Lists.{all_mem}
use Rattle.orders.proofs.Rooms.{length_in}
use Rattle.journey_lent.proofs.LineParts.{place_ok, place_used, scope_small, probe_read, items_ok}
use Rattle.paper.specs.Limits.{item_room}

-- ---- what a frame holds is in range

-- what stands behind the probe is bytes
bytes_behind : (f : List ℕ) → Bytes f → Bytes (behind f)
unfolding behind
bytes_behind f b = bytes_drop (7 + 4 * num 1 (drop 6 f)) f b

module _ (f : List ℕ) (b : Bytes f) where
  query_ok : (o : Order) → in_range (num 1 (drop 5 f)) (num 1 (drop 6 f)) ≡ true → QueryInRange (query_in (query_at o f))
  unfolding query_at
  query_ok o e =
      let d = num 1 (drop 6 f) in
      let t : take d (in_slots d (coords_in d (drop 7 f))) ≡ coords_in d (drop 7 f) = take_slots d (drop 7 f) in
      record {
        range = e;
        long = ap length t ∙ length_coords_in d (drop 7 f);
        typed = record {
          table = num_lt 4 (drop 1 f) (bytes_drop 1 f b);
          reach = num_lt 8 (behind f) (bytes_behind f b);
          probe = λ x m. all_mem _ x _ (probe_read d (drop 7 f) (bytes_drop 7 f b)) (subst (λ (l : List ℤ). Memᴰ x l) t m);
        };
      }

  far : (scope_in (behind f)).distance < 2 ^ 64
  unfolding scope_in
  far = num_lt 8 (drop 11 (behind f)) (bytes_drop 11 (behind f) (bytes_behind f b))

  frame_ask : is_ask f ≡ true → AskInRange (ask_meant (ask_at f))
  unfolding ask_meant ask_at ask_ranges query_at
  frame_ask e =
      let q = any_ask f e in
      let r = q.rest in
      let r1 = and_second (scope_ok (scope_in (behind f))) _ r in
      let r2 = and_second (eqb (scope_in (behind f)).from 1 || eqb (scope_in (behind f)).snapshot 0) _ r1 in
      record {
        query = query_ok (ask_order (num 1 f)) q.headed.test;
        place = place_ok (scope_in (behind f)) (and_first (scope_ok (scope_in (behind f))) _ r) far;
        one = leb-true _ _ (and_first _ _ r2);
        most = leb-true _ _ (and_second (leb 1 (num 1 (drop 21 (behind f)))) _ r2);
      }

  frame_answer : is_answer f ≡ true → AnswerInRange (answer_meant (answer_at f))
  unfolding answer_meant answer_at answer_ranges item_slots query_at
  frame_answer e =
      let q = any_answer f e in
      let s = and_first (scope_ok (scope_in (behind f))) _ q.rest in
      let n = count_in f in
      let room = item_slots n (fields.item_numbers n (drop 23 (behind f))) in
      record {
        query = query_ok (answer_order (num 1 f)) q.headed.test;
        place = place_ok (scope_in (behind f)) s far;
        snapshot = scope_small (scope_in (behind f)) s;
        used = place_used (scope_in (behind f));
        few = omega (arith, q.few, length_in n room);
        items = λ x m. all_mem _ x _ (items_ok n (drop 23 (behind f)) (replicate (item_room - 3 * n) 0) (bytes_drop 23 (behind f) (bytes_behind f b)) q.numbers) m;
      }

-- ---- handed on

-- a line that reads is in range
pub ask_is_ok : (l : List ℕ) (a : Ask) → read_ask l ≡ gives a → AskInRange a
unfolding read_ask
ask_is_ok l a e₀ =
    let e = must_rest (is_line l) 9 _ _ e₀ in
    let is : ask_meant (ask_at (frame_of l)) ≡ a = same_given _ _ (must_rest (is_ask (frame_of l)) 10 _ _ e) in
    subst AskInRange is (frame_ask (frame_of l) (bytes_frame l) (must_test (is_ask (frame_of l)) 10 _ _ e))

module _ (l : List ℕ) (y : Answer) (e : read_answer l ≡ gives y) where
  test : is_answer (frame_of l) ≡ true
  unfolding read_answer
  test = must_test (is_answer (frame_of l)) 10 _ _ (must_rest (is_line l) 9 _ _ e)

  pub answer_is_ok : AnswerInRange y
  unfolding read_answer
  answer_is_ok =
      let is : answer_meant (answer_at (frame_of l)) ≡ y = same_given _ _ (must_rest (is_answer (frame_of l)) 10 _ _ (must_rest (is_line l) 9 _ _ e)) in
      subst AnswerInRange is (frame_answer (frame_of l) (bytes_frame l) test)

  -- and begins with an answer's kind
  pub answer_begins : num 1 (frame_of l) ≡ answer_kind (answer_order (num 1 (frame_of l)))
  answer_begins = (any_answer (frame_of l) test).headed.kind
