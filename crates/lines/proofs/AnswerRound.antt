-- [5.13] The answer line there and back, in either order: what a writer accepts is read back, and whatever a reader accepts is the line that
-- the writer writes for the fields read. Assumes nothing.
use Prim.Native.Nat.{ℕ, ◌+◌, ◌-◌, ◌*◌}
use native.Mathlib.Omega.{arith}
use mathlib.Core.Path.{◌≡◌, refl, sym, ap, subst, ◌∙◌}
use mathlib.Core.Bool.{true}
use mathlib.Core.List.{List, [], ◌++◌, append-nil}
use lib.ListN.{length, drop, take, replicate, length-drop, drop_of_length-le}
use lib.Seq.{drop-drop, take_at}
use borrow.Author.Tests.{eq-eqb}
use Rattle.paper.specs.Outcomes.{gives}
use Rattle.paper.specs.Frames.{be, num, line_of, frame_of, is_line}
use Rattle.paper.specs.Orders.{Query, query_in}
use Rattle.paper.specs.Fields.{front, query_in_slots, scope_in, item_bytes, item_numbers, item_slots}
use Rattle.paper.specs.Lines.{answer_kind, answer_order, behind, query_at, answer_frame, answer_fits, count_in, answer_ok, is_answer, answer_at, read_as_answer}
use Rattle.paper.specs.declared.lines.Scope.{Scope}
use Rattle.paper.specs.declared.lines.Answer.{Answer}
use Rattle.paper.specs.declared.orders.Order.{Order}
use Rattle.paper.proofs.LineKinds.{answer_small, answer_order_back}
use Rattle.line_digits.proofs.NumbersAndFrames.{Bytes, bytes_drop, field_read, field_back}
use Rattle.line_digits.proofs.LinesAndFrames.{bytes_frame, frame_line, sound_line, line_of_sound}
use Rattle.line_fields.proofs.PartLaws.{head_rule}
use Rattle.line_fields.proofs.ItemLaws.{Distances, items_fitting, items_read, items_back, length_items_in, references_in}
use Rattle.line_fields.proofs.Round.{QueryFit, ScopeFit, Fronts, front_read, front_back}
use Rattle.lines.proofs.WritersReaders.{reads, accepted, holds}
use Rattle.lines.proofs.QueryTests.{read_fits, last_at}
use Rattle.lines.proofs.AnswerTests.{items_from, length_answer, bytes_answer, answer_fits_lem, is_answer_lem}
use Rattle.paper.specs.Limits.{item_room}

-- ---- what is written is read

module _ (q : Query) (p : Scope) (last n : ℕ) (ns : List ℕ) (fit : answer_fits q p last n ns ≡ true) (hq : QueryFit q) (hp : ScopeFit p) (hn : Distances ns) where
  abbrev k : ℕ
  k = answer_kind q.order

  abbrev frame : List ℕ
  frame = answer_frame q p last n ns

  begins : Fronts frame k q p (be 1 last ++ (be 1 n ++ item_bytes ns))
  unfolding answer_frame
  begins = front_read (front k q p ++ (be 1 last ++ (be 1 n ++ item_bytes ns))) k q p (be 1 last ++ (be 1 n ++ item_bytes ns)) refl (answer_small q.order) hq hp

  -- what stands behind the mark number
  last_read : (num 1 (drop 21 (behind frame)) ≡ last) × (drop 22 (behind frame) ≡ be 1 n ++ item_bytes ns)
  last_read =
      let w = answer_fits_lem q p last n ns fit in
      field_read (behind frame) 21 1 last (be 1 n ++ item_bytes ns) begins.rest (omega arith)

  count_read : (count_in frame ≡ n) × (drop 23 (behind frame) ≡ item_bytes ns)
  unfolding count_in
  count_read =
      let w = answer_fits_lem q p last n ns fit in
      field_read (behind frame) 22 1 n (item_bytes ns) last_read.1 (omega arith)

  items_in_lem : item_numbers n (item_bytes ns) ≡ ns
  items_in_lem =
      let w = answer_fits_lem q p last n ns fit in
      ap (item_numbers n) (sym (append-nil (item_bytes ns))) ∙ items_read n ns [] (items_fitting n ns w.count w.references w.numbers hn)

  frame_ok : answer_ok k frame ≡ true
  unfolding answer_ok
  frame_ok =
      let w = answer_fits_lem q p last n ns fit in
      let l : length frame ≡ 30 + 4 * q.d + 14 * n =
      length_answer q p last n ns w.count ∙ ap (λ (x : ℕ). 30 + 4 * x + 14 * n) w.query.count in
      rw (
        head_rule k q.measure q.d frame begins.kind begins.measure begins.dim w.query.test,
        begins.dim,
        l,
        count_read.0,
        eq-eqb (30 + 4 * q.d + 14 * n) (30 + 4 * q.d + 14 * n) refl,
        begins.scope,
        last_read.0,
        w.rest,
        count_read.1,
        items_in_lem,
      )
      w.numbers

  -- the order that the frame's kind tells
  order_read : answer_order (num 1 frame) ≡ q.order
  order_read = ap answer_order begins.kind ∙ answer_order_back q.order

  frame_is : is_answer frame ≡ true
  unfolding is_answer
  frame_is = ap (λ (o : Order). answer_ok (answer_kind o) frame) order_read ∙ frame_ok

  frame_at : answer_at frame ≡ record { query = query_in_slots q; scope = p; last = last; count = n; items = item_slots n ns }
  unfolding answer_at
  frame_at = rw (order_read, begins.query, begins.scope, last_read.0, count_read.0, count_read.1, items_in_lem)

  pub answer_reads_back : read_as_answer (line_of frame) ≡ gives (record { query = query_in_slots q; scope = p; last = last; count = n; items = item_slots n ns })
  unfolding read_as_answer
  answer_reads_back =
      let w = answer_fits_lem q p last n ns fit in
      let l = length_answer q p last n ns w.count in
      let b = frame_line frame (bytes_answer q p last n ns) in
      reads is_answer answer_at (line_of frame) (sound_line frame (bytes_answer q p last n ns) (omega arith) (omega arith)) (rw b frame_is)
      ∙ rw (b, frame_at)

-- ---- what is read was written

tail_back : (g : List ℕ) (n : ℕ) → Bytes g → length g ≡ 2 + 14 * n → n ≡ num 1 (drop 1 g) → be 1 (num 1 g) ++ (be 1 n ++ item_bytes (item_numbers n (drop 2 g))) ≡ g
tail_back g n p l e =
    let b = bytes_drop 2 g p in
    let lb : length (drop 2 g) ≡ length g - 2 = length-drop 2 g in
    let z : drop (14 * n) (drop 2 g) ≡ [] = drop_of_length-le (drop 2 g) {i = 14 * n} (omega arith) in
    let i : item_bytes (item_numbers n (drop 2 g)) ≡ drop 2 g =
    sym (append-nil (item_bytes (item_numbers n (drop 2 g)))) ∙ ap (λ (x : List ℕ). item_bytes (item_numbers n (drop 2 g)) ++ x) (sym z) ∙ items_back n (drop 2 g) b (omega arith) in
    rw (i, e, field_back g 1 1 p (omega arith)) (field_back g 0 1 p (omega arith))

-- a frame of the kind that an order's answers have
module _ (o : Order) (f : List ℕ) (p : Bytes f) (e : answer_ok (answer_kind o) f ≡ true) where
  abbrev rest : List ℕ
  rest = drop 21 (behind f)

  abbrev listed : List ℕ
  listed = item_numbers (count_in f) (drop 23 (behind f))

  frame_back : answer_frame (query_in (query_at o f)) (scope_in (behind f)) (num 1 rest) (count_in f) listed ≡ f
  unfolding answer_frame
  frame_back =
      let w = is_answer_lem (answer_kind o) f e in
      let at = 28 + 4 * num 1 (drop 6 f) in
      let b : rest ≡ drop at f = sym (last_at f at refl) in
      let lb : length (drop at f) ≡ length f - at = length-drop at f in
      let l : length rest ≡ 2 + 14 * count_in f = rw b (omega arith) in
      let pb : Bytes rest = rw b (bytes_drop at f p) in
      let c : count_in f ≡ num 1 (drop 1 rest) = unfold count_in in ap (num 1) (sym (drop-drop 1 21 (behind f))) in
      let i : drop 23 (behind f) ≡ drop 2 rest = sym (drop-drop 2 21 (behind f)) in
      let of-order : (query_in (query_at o f)).order ≡ o = unfold query_at in refl in
      let kinds : answer_kind (query_in (query_at o f)).order ≡ num 1 f = ap answer_kind of-order ∙ sym w.headed.kind in
      rw (i, tail_back rest (count_in f) pb l c, kinds) (front_back o f p (omega (arith, w.size)))

  fits_back : answer_fits (query_in (query_at o f)) (scope_in (behind f)) (num 1 rest) (count_in f) listed ≡ true
  unfolding answer_fits
  fits_back =
      let w = is_answer_lem (answer_kind o) f e in
      let n = count_in f in
      let b : Bytes (drop 23 (behind f)) = rw (← items_from f (28 + 4 * num 1 (drop 6 f)) refl) (bytes_drop (28 + 4 * num 1 (drop 6 f) + 2) f p) in
      rw (read_fits o f w.headed.test, w.rest, eq-eqb _ _ (length_items_in n (drop 23 (behind f))), references_in n (drop 23 (behind f)) b)
      w.numbers

-- the fields of an answer that was read, as a writer takes them
pub record AnswerBack (l : List ℕ) (a : Answer) : Type 0 where
  pub fits : answer_fits (query_in a.query) a.scope a.last a.count (take (3 * a.count) a.items) ≡ true
  pub line : line_of (answer_frame (query_in a.query) a.scope a.last a.count (take (3 * a.count) a.items)) ≡ l

take_items : (n : ℕ) (g : List ℕ) → take (3 * n) (item_slots n (item_numbers n g)) ≡ item_numbers n g
unfolding item_slots
take_items n g = take_at (item_numbers n g) (replicate (item_room - 3 * n) 0) (3 * n) (length_items_in n g)

answer_back : (l : List ℕ) → is_line l ≡ true → is_answer (frame_of l) ≡ true → AnswerBack l (answer_at (frame_of l))
unfolding answer_at is_answer
answer_back l s e =
    let f = frame_of l in
    let o = answer_order (num 1 f) in
    let i = take_items (count_in f) (drop 23 (behind f)) in
    record { fits = rw i (fits_back o f (bytes_frame l) e); line = rw i (ap line_of (frame_back o f (bytes_frame l) e) ∙ line_of_sound l s) }

pub answer_writes_back : (l : List ℕ) (x : Answer) → read_as_answer l ≡ gives x → AnswerBack l x
unfolding read_as_answer
answer_writes_back l x e =
    let p = accepted is_answer answer_at l x e in
    subst (AnswerBack l) (sym (holds is_answer answer_at l x e).1) (answer_back l p.0 p.1)
