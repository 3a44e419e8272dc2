-- What the tests of an answer say, how long its frame is, and the ways through its reader. No contract cites this file. Assumes nothing.
use Prim.Native.Nat.{ℕ, ◌+◌, ◌-◌, ◌*◌, ◌≤◌}
use native.Mathlib.Omega.{arith}
use mathlib.Core.Path.{◌≡◌, sym, ◌∙◌}
use mathlib.Core.Bool.{Bool, true, false, ◌&&◌}
use mathlib.Core.List.{List, ◌++◌}
use lib.ListN.{length, drop, length-append}
use lib.Seq.{drop-drop}
use lib.Dec.{leb, eqb}
use borrow.Author.Tests.{leb-true, eqb-true}
use Rattle.paper.specs.Outcomes.{refused, gives}
use Rattle.paper.specs.Frames.{be, num, frame_of, is_line}
use Rattle.paper.specs.Fields.{front, scope_in, scope_ok, item_bytes, item_numbers, item_slots, numbers_ok, references_ok}
use Rattle.paper.specs.Orders.{Query}
use Rattle.paper.specs.Lines.{answer_kind, answer_order, head_ok, behind, query_at, query_fits, answer_frame, answer_ranges, answer_fits, count_in, answer_ok, is_answer, answer_at, read_as_answer}
use Rattle.paper.specs.declared.lines.Scope.{Scope}
use Rattle.paper.specs.declared.queries.Query as queries
use Rattle.std.proofs.lemmas.Bool.{and_parts}
use Rattle.line_digits.proofs.NumbersAndFrames.{Bytes, bytes_append, bytes_be, length_be}
use Rattle.line_digits.specs.FrameBytes.{HasBytes}
use Rattle.line_fields.specs.Layout.{laid_out}
use Rattle.line_fields.proofs.PartLaws.{HeadOk, is_head, laid_then, laid_bytes, length_front, bytes_front}
use Rattle.line_fields.proofs.ItemLaws.{length_items, bytes_items}
use Rattle.line_fields.proofs.Round.{behind_eq}
use Rattle.paper.specs.Limits.{most_page}
use Rattle.lines.proofs.QueryTests.{last_at, QueryFits, query_fits_lem}
use Rattle.lines.proofs.WritersReaders.{reads, reads_10}

-- ---- the frame

pub length_answer : (q : Query) (p : Scope) (last n : ℕ) (ns : List ℕ) → length ns ≡ 3 * n
    → length (answer_frame q p last n ns) ≡ 30 + 4 * length q.probe + 14 * n
unfolding answer_frame
length_answer q p last n ns e =
    let l = length_items n ns e in
    simp (length-append, length_front, length_be) (omega arith)

pub bytes_answer : (q : Query) (p : Scope) (last n : ℕ) (ns : List ℕ) → Bytes (answer_frame q p last n ns)
unfolding answer_frame
bytes_answer q p last n ns =
    bytes_append (front (answer_kind q.order) q p) (be 1 last ++ (be 1 n ++ item_bytes ns)) (bytes_front (answer_kind q.order) q p)
    (bytes_append (be 1 last) (be 1 n ++ item_bytes ns) (bytes_be 1 last) (bytes_append (be 1 n) (item_bytes ns) (bytes_be 1 n) (bytes_items ns)))

-- ---- what the tests say

-- what the writer's test says
pub record AnswerFits (q : Query) (p : Scope) (last n : ℕ) (ns : List ℕ) : Type 0 where
  pub query : QueryFits q
  pub rest : answer_ranges p last n ≡ true
  pub last_high : last ≤ 1
  pub few : n ≤ most_page
  pub count : length ns ≡ 3 * n
  pub references : references_ok ns ≡ true
  pub numbers : numbers_ok ns ≡ true

pub few_items : (p : Scope) (last n : ℕ) → answer_ranges p last n ≡ true → (last ≤ 1) × (n ≤ most_page)
unfolding answer_ranges
few_items p last n e =
    let a = and_parts (scope_ok p) (leb last 1 && leb n most_page) e in
    let b = and_parts (leb last 1) (leb n most_page) a.1 in
    (leb-true last 1 b.0, leb-true n most_page b.1)

pub answer_fits_lem : (q : Query) (p : Scope) (last n : ℕ) (ns : List ℕ) → answer_fits q p last n ns ≡ true → AnswerFits q p last n ns
unfolding answer_fits
answer_fits_lem q p last n ns e =
    let t5 = references_ok ns && numbers_ok ns in
    let t4 = eqb (length ns) (3 * n) && t5 in
    let a = and_parts (query_fits q) (answer_ranges p last n && t4) e in
    let r = and_parts (answer_ranges p last n) t4 a.1 in
    let s = and_parts (eqb (length ns) (3 * n)) t5 r.1 in
    let u = and_parts (references_ok ns) (numbers_ok ns) s.1 in
    let w = few_items p last n r.0 in
    record {
      query = query_fits_lem q a.0;
      rest = r.0;
      last_high = w.0;
      few = w.1;
      count = eqb-true (length ns) (3 * n) s.0;
      references = u.0;
      numbers = u.1;
    }

-- what the reader's test says
pub record AnswerOk (k : ℕ) (f : List ℕ) : Type 0 where
  pub headed : HeadOk k f
  pub size : length f ≡ 30 + 4 * num 1 (drop 6 f) + 14 * count_in f
  pub rest : answer_ranges (scope_in (behind f)) (num 1 (drop 21 (behind f))) (count_in f) ≡ true
  pub few : count_in f ≤ most_page
  pub numbers : numbers_ok (item_numbers (count_in f) (drop 23 (behind f))) ≡ true

pub is_answer_lem : (k : ℕ) (f : List ℕ) → answer_ok k f ≡ true → AnswerOk k f
unfolding answer_ok
is_answer_lem k f e =
    let numbers = numbers_ok (item_numbers (count_in f) (drop 23 (behind f))) in
    let ranges = answer_ranges (scope_in (behind f)) (num 1 (drop 21 (behind f))) (count_in f) in
    let size = eqb (length f) (30 + 4 * num 1 (drop 6 f) + 14 * count_in f) in
    let p = and_parts (head_ok k f) (size && (ranges && numbers)) e in
    let q = and_parts size (ranges && numbers) p.1 in
    let r = and_parts ranges numbers q.1 in
    record {
      headed = is_head k f p.0;
      size = eqb-true (length f) (30 + 4 * num 1 (drop 6 f) + 14 * count_in f) q.0;
      rest = r.0;
      few = (few_items (scope_in (behind f)) (num 1 (drop 21 (behind f))) (count_in f) r.0).1;
      numbers = r.1;
    }

pub any_answer : (f : List ℕ) → is_answer f ≡ true → AnswerOk (answer_kind (answer_order (num 1 f))) f
unfolding is_answer
any_answer f e = is_answer_lem (answer_kind (answer_order (num 1 f))) f e

-- ---- where its parts stand

-- where the item count stands
pub count_at : (f : List ℕ) (at : ℕ) → at ≡ 28 + 4 * num 1 (drop 6 f) → count_in f ≡ num 1 (drop (at + 1) f)
unfolding count_in behind
count_at f at e =
    let q : 7 + 4 * num 1 (drop 6 f) + 22 ≡ at + 1 = omega arith in
    rw (drop-drop, q)

-- where the items stand
pub items_from : (f : List ℕ) (at : ℕ) → at ≡ 28 + 4 * num 1 (drop 6 f) → drop (at + 2) f ≡ drop 23 (behind f)
unfolding behind
items_from f at e = let q : at + 2 ≡ 7 + 4 * num 1 (drop 6 f) + 23 = omega arith in rw (drop-drop, q)

-- ---- reading

-- the layout, and then the ranges
pub answer_rule : (k : ℕ) (f : List ℕ) → answer_ok k f
    ≡ laid_out k (30 + 14 * count_in f) f && (answer_ranges (scope_in (behind f)) (num 1 (drop 21 (behind f))) (count_in f) && numbers_ok (item_numbers (count_in f) (drop 23 (behind f))))
unfolding answer_ok
answer_rule k f =
    let e : 30 + 4 * num 1 (drop 6 f) + 14 * count_in f ≡ 30 + 14 * count_in f + 4 * num 1 (drop 6 f) = omega arith in
    rw e (laid_then k (30 + 14 * count_in f) f _)

-- the ways through the reader of a sound line
module _ (l : List ℕ) (s : is_line l ≡ true) (b : Bool) (be : b ≡ laid_out (answer_kind (answer_order (num 1 (frame_of l)))) (30 + 14 * count_in (frame_of l)) (frame_of l)) where
  pub unlaid_answer : b ≡ false → refused 10 ≡ read_as_answer l
  unfolding read_as_answer is_answer
  unlaid_answer h = sym (reads_10 is_answer answer_at l s (answer_rule _ (frame_of l) ∙ rw (sym be ∙ h)))

  module _ (h : b ≡ true) (d : ℕ) (de : d ≡ num 1 (drop 6 (frame_of l))) (at : ℕ) (ate : at ≡ 28 + 4 * d) (n : ℕ) (ne : n ≡ num 1 (drop (at + 1) (frame_of l))) where
    place : at ≡ 28 + 4 * num 1 (drop 6 (frame_of l))
    place = omega arith

    counted : n ≡ count_in (frame_of l)
    counted = ne ∙ sym (count_at (frame_of l) at place)

    -- how long the frame is by the item count that was read
    pub answer_bytes_lem : (m : ℕ) → m ≤ at + 2 + 14 * n → HasBytes l m
    answer_bytes_lem m q = laid_bytes _ _ l s b be h d de m (omega (arith, counted))

    reach_at : drop (at - 21) (frame_of l) ≡ behind (frame_of l)
    reach_at = let e : at - 21 ≡ 7 + 4 * num 1 (drop 6 (frame_of l)) = omega arith in rw e (sym (behind_eq (frame_of l)))

    module _ (p : Scope) (pe : p ≡ scope_in (drop (at - 21) (frame_of l))) (last : ℕ) (le : last ≡ num 1 (drop at (frame_of l))) (t : Bool) (te : t ≡ answer_ranges p last n) where
      tested : is_answer (frame_of l) ≡ t && numbers_ok (item_numbers n (drop (at + 2) (frame_of l)))
      unfolding is_answer
      tested = answer_rule _ (frame_of l) ∙ rw (sym be ∙ h, te, pe, le, counted, reach_at, last_at (frame_of l) at place, items_from (frame_of l) at place)

      pub answer_out_lem : t ≡ false → refused 10 ≡ read_as_answer l
      unfolding read_as_answer
      answer_out_lem q = sym (reads_10 is_answer answer_at l s (tested ∙ rw q))

      module _ (v : t ≡ true) (u : Bool) (ue : u ≡ numbers_ok (item_numbers n (drop (at + 2) (frame_of l)))) where
        numbered : is_answer (frame_of l) ≡ u
        numbered = tested ∙ rw (v, ue)

        pub items_out : u ≡ false → refused 10 ≡ read_as_answer l
        unfolding read_as_answer
        items_out z = sym (reads_10 is_answer answer_at l s (numbered ∙ z))

        pub answer_read_lem : u ≡ true → (x : queries.Query) → x ≡ query_at (answer_order (num 1 (frame_of l))) (frame_of l) → (ns : List ℕ) → ns ≡ item_slots n (item_numbers n (drop (at + 2) (frame_of l)))
            → gives (record { last = last; count = n; scope = p; query = x; items = ns }) ≡ read_as_answer l
        unfolding read_as_answer
        answer_read_lem z x xe ns q =
            sym (reads is_answer answer_at l s (numbered ∙ z)
            ∙ (unfold answer_at in rw (xe, q, pe, le, counted, reach_at, last_at (frame_of l) at place, items_from (frame_of l) at place)))
