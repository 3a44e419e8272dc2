-- [5.13] The ask line there and back, in either order: what a writer accepts is read back, and whatever a reader accepts is the line that
-- the writer writes for the fields read. Assumes nothing.
use Prim.Native.Nat.{ℕ, ◌+◌, ◌-◌, ◌*◌}
use native.Mathlib.Omega.{arith}
use mathlib.Core.Path.{◌≡◌, refl, sym, ap, subst, ◌∙◌}
use mathlib.Core.Bool.{true}
use mathlib.Core.List.{List, [], ◌++◌, append-nil}
use lib.ListN.{length, drop, length-drop}
use borrow.Author.Tests.{eq-eqb}
use Rattle.paper.specs.Outcomes.{gives}
use Rattle.paper.specs.Frames.{be, num, line_of, frame_of, is_line}
use Rattle.paper.specs.Orders.{Query, query_in}
use Rattle.paper.specs.Fields.{front, query_in_slots, scope_in}
use Rattle.paper.specs.Lines.{ask_kind, ask_order, behind, query_at, ask_frame, ask_fits, ask_ok, is_ask, ask_at, read_as_ask}
use Rattle.paper.specs.declared.lines.Scope.{Scope}
use Rattle.paper.specs.declared.lines.Ask.{Ask}
use Rattle.paper.specs.declared.orders.Order.{Order}
use Rattle.paper.proofs.LineKinds.{ask_small, ask_order_back}
use Rattle.line_digits.proofs.NumbersAndFrames.{Bytes, bytes_drop, field_read}
use Rattle.line_digits.proofs.LinesAndFrames.{bytes_frame, frame_line, sound_line, line_of_sound}
use Rattle.line_fields.proofs.PartLaws.{head_rule}
use Rattle.line_fields.proofs.Round.{QueryFit, ScopeFit, Fronts, front_read, front_back, last_field}
use Rattle.lines.proofs.WritersReaders.{reads, accepted, holds}
use Rattle.lines.proofs.QueryTests.{read_fits, last_at}
use Rattle.lines.proofs.AskTests.{page_size, length_ask, bytes_ask, ask_fits_lem, is_ask_lem}

-- ---- what is written is read

module _ (q : Query) (p : Scope) (s : ℕ) (fit : ask_fits q p s ≡ true) (hq : QueryFit q) (hp : ScopeFit p) where
  abbrev k : ℕ
  k = ask_kind q.order

  begins : Fronts (ask_frame q p s) k q p (be 1 s)
  unfolding ask_frame
  begins = front_read (front k q p ++ be 1 s) k q p (be 1 s) refl (ask_small q.order) hq hp

  size_read : num 1 (drop 21 (behind (ask_frame q p s))) ≡ s
  size_read =
      let h = page_size p s (ask_fits_lem q p s fit).rest in
      rw begins.rest (field_read (be 1 s) 0 1 s [] (sym (append-nil (be 1 s))) (omega arith)).0

  -- the order that the frame's kind tells
  order_read : ask_order (num 1 (ask_frame q p s)) ≡ q.order
  order_read = ap ask_order begins.kind ∙ ask_order_back q.order

  frame_ok : ask_ok k (ask_frame q p s) ≡ true
  unfolding ask_ok
  frame_ok =
      let w = ask_fits_lem q p s fit in
      let l : length (ask_frame q p s) ≡ 29 + 4 * q.d = length_ask q p s ∙ ap (λ (n : ℕ). 29 + 4 * n) w.query.count in
      rw (head_rule k q.measure q.d (ask_frame q p s) begins.kind begins.measure begins.dim w.query.test, begins.dim, l, eq-eqb (29 + 4 * q.d) (29 + 4 * q.d) refl, begins.scope, size_read)
      w.rest

  frame_is : is_ask (ask_frame q p s) ≡ true
  unfolding is_ask
  frame_is = ap (λ (o : Order). ask_ok (ask_kind o) (ask_frame q p s)) order_read ∙ frame_ok

  frame_at : ask_at (ask_frame q p s) ≡ record { query = query_in_slots q; scope = p; size = s }
  unfolding ask_at
  frame_at = rw (order_read, begins.query, begins.scope, size_read)

  pub ask_reads_back : read_as_ask (line_of (ask_frame q p s)) ≡ gives (record { query = query_in_slots q; scope = p; size = s })
  unfolding read_as_ask
  ask_reads_back =
      let w = ask_fits_lem q p s fit in
      let f = ask_frame q p s in
      let l = length_ask q p s in
      let b = frame_line f (bytes_ask q p s) in
      reads is_ask ask_at (line_of f) (sound_line f (bytes_ask q p s) (omega arith) (omega arith)) (rw b frame_is)
      ∙ rw (b, frame_at)

-- ---- what is read was written

-- the fields of an ask that was read, as a writer takes them
pub record AskBack (l : List ℕ) (a : Ask) : Type 0 where
  pub fits : ask_fits (query_in a.query) a.scope a.size ≡ true
  pub line : line_of (ask_frame (query_in a.query) a.scope a.size) ≡ l

-- a frame of the kind that an order's asks have
module _ (o : Order) (f : List ℕ) (e : ask_ok (ask_kind o) f ≡ true) where
  abbrev tail : List ℕ
  tail = drop 21 (behind f)

  frame_back : Bytes f → ask_frame (query_in (query_at o f)) (scope_in (behind f)) (num 1 tail) ≡ f
  unfolding ask_frame
  frame_back p =
      let w = is_ask_lem (ask_kind o) f e in
      let d = num 1 (drop 6 f) in
      let b : tail ≡ drop (28 + 4 * d) f = sym (last_at f (28 + 4 * d) refl) in
      let lb : length (drop (28 + 4 * d) f) ≡ length f - (28 + 4 * d) = length-drop (28 + 4 * d) f in
      let l : length tail ≡ 1 = rw b (omega arith) in
      let pb : Bytes tail = rw b (bytes_drop (28 + 4 * d) f p) in
      let of-order : (query_in (query_at o f)).order ≡ o = unfold query_at in refl in
      let kinds : ask_kind (query_in (query_at o f)).order ≡ num 1 f = ap ask_kind of-order ∙ sym w.headed.kind in
      rw (last_field tail 1 pb l, kinds) (front_back o f p (omega (arith, w.size)))

  fits_back : ask_fits (query_in (query_at o f)) (scope_in (behind f)) (num 1 tail) ≡ true
  unfolding ask_fits
  fits_back =
      let w = is_ask_lem (ask_kind o) f e in
      rw (read_fits o f w.headed.test) w.rest

ask_back : (l : List ℕ) → is_line l ≡ true → is_ask (frame_of l) ≡ true → AskBack l (ask_at (frame_of l))
unfolding ask_at is_ask
ask_back l s e =
    let o = ask_order (num 1 (frame_of l)) in
    record { fits = fits_back o (frame_of l) e; line = ap line_of (frame_back o (frame_of l) e (bytes_frame l)) ∙ line_of_sound l s }

pub ask_writes_back : (l : List ℕ) (x : Ask) → read_as_ask l ≡ gives x → AskBack l x
unfolding read_as_ask
ask_writes_back l x e =
    let p = accepted is_ask ask_at l x e in
    subst (AskBack l) (sym (holds is_ask ask_at l x e).1) (ask_back l p.0 p.1)
