-- The ways through a writer and through a reader, whatever the kind, and the line end that every writer stores. Assumes nothing.
use Prim.Native.Nat.{ℕ, suc, ◌+◌, ◌*◌, ◌≤◌, ◌<◌}
use native.Mathlib.Omega.{arith}
use mathlib.Core.Path.{◌≡◌, refl, sym, ap, ◌∙◌}
use mathlib.Core.Bool.{Bool, true, false}
use mathlib.Core.List.{List, [], ◌∷◌, ◌++◌, append_assoc}
use lib.ListN.{length, get_or, take, drop, set}
use lib.Seq.{drop-cons, set_at, take_at}
use lib.Dec.{leb}
use borrow.Author.Tests.{le-leb, lt-leb}
use Rattle.paper.specs.Frames.{hexes, line_of, frame_of, is_line, written}
use Rattle.paper.specs.Outcomes.{Outcome, refused, gives, must}
use Rattle.paper.specs.Lines.{wrote_shown, put_line, Writes, bare_line, reading}
use Rattle.paper.proofs.Outcomes.{must_go, must_stop, must_test, must_rest, same_given, given_refused, promise_refused, promise_given}
use Rattle.paper.proofs.Tests.{refuted}
use Rattle.line_digits.specs.FrameBytes.{overlaid}
use Rattle.line_digits.proofs.WritingOver.{over_eq}
use Rattle.line_digits.proofs.LinesAndFrames.{length_hexes, length_line}

-- ---- writers

line_eq : (f : List ℕ) → line_of f ≡ hexes f ++ (10 ∷ [])
unfolding line_of
line_eq f = refl

-- the line end behind a frame that stands in the room
pub finish : (o f : List ℕ) (n : ℕ) → n ≡ 2 * length f → n < length o → set (overlaid o 0 f) n 10 ≡ written f o
unfolding written
finish o f n e h =
    let l = length_line f in
    let e1 : 2 * 0 + 2 * length f ≡ n = omega arith in
    let e2 : length (line_of f) ≡ suc n = omega arith in
    rw (over_eq o 0 f, e1, e2, drop-cons o n 0 h, line_eq f)
    (set_at (hexes f) (get_or o n 0) (drop (suc n) o) 10 n (length_hexes f ∙ sym e) ∙ sym (append_assoc (hexes f) (10 ∷ []) (drop (suc n) o)))

-- a refusal, whatever call gives it
pub writes_refused : (o : Outcome (List ℕ)) (n : ℕ) (before : List ℕ) → o ≡ refused n → Writes o before (refused n) before
writes_refused o n before e = promise_refused wrote_shown put_line o before n (refused n) e refl

-- a line that was written
pub writes_line : (o : Outcome (List ℕ)) (line : List ℕ) (n : ℕ) (before after : List ℕ) → o ≡ gives line → n ≡ length line
    → after ≡ put_line line before → Writes o before (gives n) after
writes_line o line n before after e q m =
    promise_given wrote_shown put_line o before line (gives n) after e (ap (λ (k : ℕ). gives k) q) m

module _ (b : Bool) (need : ℕ) (f o : List ℕ) where
  pub wrote_line : (r : ℕ) (x : List ℕ) → b ≡ true → need ≤ length o → r ≡ length (line_of f) → x ≡ written f o
      → Writes (bare_line b need f (length o)) o (gives r) x
  unfolding bare_line written
  wrote_line r x e h p q = writes_line _ (line_of f) r o x (must_go b 10 _ e ∙ must_go (leb need (length o)) 12 _ (le-leb need (length o) h)) p q

  pub refused_12 : b ≡ true → length o < need → Writes (bare_line b need f (length o)) o (refused 12) o
  unfolding bare_line
  refused_12 e h = writes_refused _ 12 o (must_go b 10 _ e ∙ must_stop (leb need (length o)) 12 _ (lt-leb need (length o) h))

  pub refused_10 : b ≡ false → Writes (bare_line b need f (length o)) o (refused 10) o
  unfolding bare_line
  refused_10 e = writes_refused _ 10 o (must_stop b 10 _ e)

-- fields that fit, in a room that is large enough, are written as their line
pub bare_fits : (b : Bool) (need : ℕ) (f : List ℕ) (out : ℕ) → b ≡ true → need ≤ out → bare_line b need f out ≡ gives (line_of f)
unfolding bare_line
bare_fits b need f out e h = must_go b 10 _ e ∙ must_go (leb need out) 12 _ (le-leb need out h)

-- the front of the room that a writer filled is the line
pub front_is_line : (f o : List ℕ) → take (length (line_of f)) (written f o) ≡ line_of f
unfolding written
front_is_line f o = take_at (line_of f) (drop (length (line_of f)) o) (length (line_of f)) refl

-- ---- readers

module _ {A : Type 0} (ok : List ℕ → Bool) (value : List ℕ → A) (l : List ℕ) where
  pub reads : is_line l ≡ true → ok (frame_of l) ≡ true → reading ok value l ≡ gives (value (frame_of l))
  unfolding reading
  reads s k = must_go (is_line l) 9 _ s ∙ must_go (ok (frame_of l)) 10 _ k

  pub reads_10 : is_line l ≡ true → ok (frame_of l) ≡ false → reading ok value l ≡ refused 10
  unfolding reading
  reads_10 s k = must_go (is_line l) 9 _ s ∙ must_stop (ok (frame_of l)) 10 _ k

  pub reads_9 : is_line l ≡ false → reading ok value l ≡ refused 9
  unfolding reading
  reads_9 s = must_stop (is_line l) 9 _ s

  -- a reader that gave something found both tests true, and gave what the frame holds
  module _ (x : A) (e : reading ok value l ≡ gives x) where
    sound_first : is_line l ≡ true
    unfolding reading
    sound_first = must_test (is_line l) 9 _ x e

    then_ok : must (ok (frame_of l)) 10 (gives (value (frame_of l))) ≡ gives x
    unfolding reading
    then_ok = must_rest (is_line l) 9 _ x e

    pub accepted : (is_line l ≡ true) × (ok (frame_of l) ≡ true)
    accepted = (sound_first, must_test (ok (frame_of l)) 10 _ x then_ok)

    pub holds : (ok (frame_of l) ≡ true) × (x ≡ value (frame_of l))
    holds = (must_test (ok (frame_of l)) 10 _ x then_ok, sym (same_given _ x (must_rest (ok (frame_of l)) 10 _ x then_ok)))

  -- one that refused a sound line found its frame wanting
  pub holds_none : is_line l ≡ true → (n : ℕ) → reading ok value l ≡ refused n → ok (frame_of l) ≡ false
  holds_none s n e = refuted (ok (frame_of l)) (λ k. given_refused _ n (sym (reads s k) ∙ e))
