-- Digits there and back, a frame from its line and a line from its frame, when characters are a line, and what is known of one. No contract cites this file. Assumes nothing.
use Prim.Native.Nat.{ℕ, zero, suc, ◌+◌, ◌-◌, ◌*◌, ◌/◌, ◌%◌, ◌≤◌, ◌<◌}
use native.Mathlib.Omega.{arith}
use mathlib.Core.Path.{◌≡◌, refl, sym, ap, ◌∙◌}
use mathlib.Core.Bool.{Bool, true, false, cond, ◌&&◌}
use mathlib.Core.List.{List, [], ◌∷◌, ◌++◌}
use lib.ListN.{length, get_or, take, length-append}
use lib.Dec.{ltb, eqb}
use borrow.Author.Tests.{eqb-true, ltb-true, lt-ltb, le-leb}
use Rattle.std.specs.List.{fold}
use Rattle.std.proofs.lemmas.Bool.{and_parts}
use Rattle.std.proofs.lemmas.Bool.Decides.{nat_tests}
use Rattle.std.proofs.lemmas.List.{length-take-le, get_or-take}
use Rattle.std.proofs.lemmas.List.Recursion.{and_at}
use Rattle.std.proofs.Math.Bool.{and-true}
use Rattle.std.proofs.Math.Bool.{and-false}
use Rattle.paper.specs.Frames.{glyph, digit, hexes, line_of, pairs_ended, is_line, frame_of}
use Rattle.paper.specs.Limits.{longest_answer, longest_frame}
use Rattle.line_digits.proofs.NumbersAndFrames.{Bytes}

-- ---- digits

pub digit_glyph : (n : ℕ) → n < 16 → digit (glyph n) ≡ n
unfolding digit glyph
digit_glyph n h = grind (arith, nat_tests)

pub glyph_digit : (b : ℕ) → digit b < 16 → glyph (digit b) ≡ b
unfolding digit glyph
glyph_digit b h = grind (arith, nat_tests)

-- ---- lines

pub length_hexes : (f : List ℕ) → length (hexes f) ≡ 2 * length f
unfolding hexes
length_hexes [] = refl
length_hexes (b ∷ f) = let e : length (hexes f) ≡ 2 * length f = length_hexes f in omega arith

pub hexes_append : (f g : List ℕ) → hexes (f ++ g) ≡ hexes f ++ hexes g
unfolding hexes
hexes_append [] g = refl
hexes_append (b ∷ f) g = rw (hexes_append f g)

pub length_line : (f : List ℕ) → length (line_of f) ≡ 2 * length f + 1
unfolding line_of
length_line f = simp (length-append, length_hexes) (omega arith)

pub frame_line : (f : List ℕ) → Bytes f → frame_of (line_of f) ≡ f
unfolding line_of hexes frame_of
frame_line [] p = refl
frame_line (b ∷ f) p =
    let k : b < 256 = p.0 in
    let e : (b / 16) % 16 * 16 + b % 16 % 16 ≡ b = omega arith in
    rw (digit_glyph (b / 16) (omega arith), digit_glyph (b % 16) (omega arith), e, frame_line f p.1)

pub ended_line : (f : List ℕ) → Bytes f → pairs_ended (line_of f) ≡ true
unfolding line_of hexes pairs_ended
ended_line [] p = refl
ended_line (b ∷ f) p =
    let k : b < 256 = p.0 in
    let h : b / 16 < 16 = omega arith in
    let l : b % 16 < 16 = omega arith in
    rw (digit_glyph (b / 16) h, digit_glyph (b % 16) l, lt-ltb (b / 16) 16 h, lt-ltb (b % 16) 16 l) (ended_line f p.1)

pub line_frame : (l : List ℕ) → pairs_ended l ≡ true → line_of (frame_of l) ≡ l
unfolding line_of hexes pairs_ended frame_of
line_frame [] e = sym (ap (λ (t : Bool). cond t (10 ∷ []) []) e)
line_frame (a ∷ []) e = rw (eqb-true a 10 e)
line_frame (a ∷ b ∷ l) e =
    let p = and_parts (ltb (digit a) 16) (ltb (digit b) 16 && pairs_ended l) e in
    let q = and_parts (ltb (digit b) 16) (pairs_ended l) p.1 in
    let ha : digit a < 16 = ltb-true (digit a) 16 p.0 in
    let hb : digit b < 16 = ltb-true (digit b) 16 q.0 in
    let e1 : (digit a % 16 * 16 + digit b % 16) / 16 ≡ digit a = omega arith in
    let e2 : (digit a % 16 * 16 + digit b % 16) % 16 ≡ digit b = omega arith in
    rw (e1, e2, glyph_digit a ha, glyph_digit b hb, line_frame l q.1)

pub sound_line : (f : List ℕ) → Bytes f → 0 < length f → length f ≤ longest_frame → is_line (line_of f) ≡ true
unfolding is_line
sound_line f p h k =
    rw (length_line f, lt-ltb 1 (2 * length f + 1) (omega arith), le-leb (2 * length f + 1) longest_answer (omega arith)) (ended_line f p)

pub length_frame : (l : List ℕ) → length (frame_of l) ≡ length l / 2
unfolding frame_of
length_frame [] = omega arith
length_frame (a ∷ []) = omega arith
length_frame (a ∷ b ∷ l) = let e : length (frame_of l) ≡ length l / 2 = length_frame l in omega arith

-- no more bytes than the line has characters
pub frame_le : (l : List ℕ) → length (frame_of l) ≤ length l
frame_le l = omega (arith, length_frame l)

pub bytes_frame : (l : List ℕ) → Bytes (frame_of l)
unfolding frame_of
bytes_frame [] = tt
bytes_frame (a ∷ []) = tt
bytes_frame (a ∷ b ∷ l) = (omega arith, bytes_frame l)

-- a byte of the frame, from its two characters
pub frame_at : (l : List ℕ) (i : ℕ) → 2 * i + 1 < length l → get_or (frame_of l) i 0 ≡ digit (get_or l (2 * i) 0) % 16 * 16 + digit (get_or l (2 * i + 1) 0) % 16
unfolding frame_of
frame_at [] i h = omega arith
frame_at (a ∷ []) i h = omega arith
frame_at (a ∷ b ∷ l) zero h = refl
frame_at (a ∷ b ∷ l) (suc i) h =
    let e1 : 2 * suc i ≡ suc (suc (2 * i)) = omega arith in
    let e2 : 2 * suc i + 1 ≡ suc (suc (2 * i + 1)) = omega arith in
    rw (e2, e1) (frame_at l i (omega arith))

-- ---- when characters are a line

-- all characters are digits
abbrev pub are_digits : Bool → List ℕ → Bool
are_digits t l = fold (λ ok b. ok && ltb (digit b) 16) t l

none : (l : List ℕ) → are_digits false l ≡ false
none [] = refl
none (a ∷ l) = none l

first : (t : Bool) (l : List ℕ) → are_digits t l ≡ t && are_digits true l
first true l = refl
first false l = none l

-- no characters, and then any: the last is 0A, and those before it are even in number, and digits

pub ended_none : (l : List ℕ) → length l < 1 → pairs_ended l ≡ false
unfolding pairs_ended
ended_none [] h = refl
ended_none (a ∷ l) h = absurd (omega arith)

ended_of : (n : ℕ) (l : List ℕ) → length l ≡ suc n → pairs_ended l ≡ (eqb (get_or l n 0) 10 && (eqb (n % 2) 0 && are_digits true (take n l)))
unfolding pairs_ended
ended_of n [] h = absurd (omega arith)
ended_of zero (a ∷ []) h = simp and-true
ended_of zero (a ∷ b ∷ l) h = absurd (omega arith)
ended_of (suc zero) (a ∷ []) h = absurd (omega arith)
ended_of (suc zero) (a ∷ b ∷ []) h = simp and-false
ended_of (suc zero) (a ∷ b ∷ c ∷ l) h = absurd (omega arith)
ended_of (suc (suc n)) (a ∷ []) h = absurd (omega arith)
ended_of (suc (suc n)) (a ∷ b ∷ l) h =
    let e : suc (suc n) % 2 ≡ n % 2 = omega arith in
    rw (ended_of n l (omega arith), e, first (ltb (digit a) 16 && ltb (digit b) 16) (take n l))
    (regroup (ltb (digit a) 16) (ltb (digit b) 16) (eqb (get_or l n 0) 10) (eqb (n % 2) 0) (are_digits true (take n l)))
  where
    regroup : (a b e z d : Bool) → a && (b && (e && (z && d))) ≡ (e && (z && ((a && b) && d)))
    regroup true true e z d = refl
    regroup true false e z d = simp and-false
    regroup false b e z d = simp and-false

pub ended_is : (l : List ℕ) → pairs_ended l ≡ (eqb (get_or l (length l - 1) 0) 10 && (eqb (length (take (length l - 1) l) % 2) 0 && are_digits true (take (length l - 1) l)))
unfolding pairs_ended
ended_is [] = refl
ended_is (a ∷ l) = let n = length (a ∷ l) - 1 in rw (length-take-le n (a ∷ l) (omega arith)) (ended_of n (a ∷ l) (omega arith))

-- what the test of the characters meets
pub ruleset endings = (ended_none, ended_is)

-- ---- what a sound line is known for

module _ (l : List ℕ) (e : is_line l ≡ true) where
  sound_ended : pairs_ended l ≡ true
  unfolding is_line
  sound_ended = (and_parts _ _ (and_parts _ _ e).1).1

  pub line_of_sound : line_of (frame_of l) ≡ l
  line_of_sound = line_frame l sound_ended

  -- its frame has a byte at least
  pub sound_byte : 1 ≤ length (frame_of l)
  unfolding is_line
  sound_byte = let some : 1 < length l = ltb-true 1 (length l) (and_parts _ _ e).0 in omega (arith, length_frame l)

  sound_pairs : eqb (length (take (length l - 1) l) % 2) 0 && are_digits true (take (length l - 1) l) ≡ true
  sound_pairs = (and_parts _ _ (sym (ended_is l) ∙ sound_ended)).1

  -- a character stands behind its pairs

  pub sound_odd : length l % 2 ≡ 1
  sound_odd =
      let n : length (take (length l - 1) l) % 2 ≡ 0 = eqb-true _ 0 (and_parts _ _ sound_pairs).0 in
      omega (arith, length-take-le (length l - 1) l (omega arith), length_frame l, sound_byte)

  -- every character but the last is a digit
  pub sound_at : (i : ℕ) → i + 1 < length l → digit (get_or l i 0) < 16
  sound_at i h =
      let t = take (length l - 1) l in
      let k = length-take-le (length l - 1) l (omega arith) in
      rw (← get_or-take (length l - 1) l i 0 (omega arith))
      (ltb-true _ 16 (and_at (are_digits true) (λ b. ltb (digit b) 16) refl (λ x xs. first (ltb (digit x) 16) xs) t i 0 (omega arith) (and_parts _ _ sound_pairs).1))

-- what a byte of a sound line is read by
pub ruleset pairwise = (length_frame, frame_at, sound_odd, sound_at)
