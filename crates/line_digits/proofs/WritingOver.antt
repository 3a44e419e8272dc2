-- What writing over a part of a room does to it. No contract cites this file. Assumes nothing.
use Prim.Native.Nat.{ℕ, zero, suc, ◌+◌, ◌-◌, ◌*◌, ◌/◌, ◌%◌, ◌≤◌, ◌<◌}
use native.Mathlib.Numerals.{unary_clauses}
use native.Mathlib.Omega.{arith}
use mathlib.Core.Path.{◌≡◌, refl, ap}
use mathlib.Core.List.{List, [], ◌∷◌, ◌++◌, append_assoc}
use lib.ListN.{length, take, drop, set, length-append, length-take, take-append-drop}
use lib.Seq.{take_at, drop_at, drop-drop}
use Rattle.std.proofs.lemmas.List.{length-take-le, take-append-le, take-take}
use Rattle.paper.specs.Frames.{be, hexes}
use Rattle.line_digits.specs.FrameBytes.{overlaid}
use Rattle.line_digits.proofs.NumbersAndFrames.{length_be}
use Rattle.line_digits.proofs.LinesAndFrames.{length_hexes, hexes_append}

-- ---- what stands before and behind

pub over_eq : (o : List ℕ) (at : ℕ) (f : List ℕ) → overlaid o at f ≡ take (2 * at) o ++ (hexes f ++ drop (2 * at + 2 * length f) o)
unfolding overlaid
over_eq o at f = refl

pub over_nil : (o : List ℕ) (at : ℕ) → overlaid o at [] ≡ o
unfolding overlaid hexes
over_nil o at = let e : 2 * at + 2 * 0 ≡ 2 * at = omega arith in rw (e, take-append-drop)

-- what stands before the end of what was written over, and what stands behind it
length_head : (o : List ℕ) (at : ℕ) (f : List ℕ) → 2 * (at + length f) ≤ length o → length (take (2 * at) o ++ hexes f) ≡ 2 * (at + length f)
length_head o at f h = simp (length-append, length-take, length_hexes) (omega arith)

pub take_over : (o : List ℕ) (at : ℕ) (f : List ℕ) → 2 * (at + length f) ≤ length o → take (2 * (at + length f)) (overlaid o at f) ≡ take (2 * at) o ++ hexes f
unfolding overlaid
take_over o at f h =
    rw (← append_assoc (take (2 * at) o) (hexes f) (drop (2 * at + 2 * length f) o))
    (take_at (take (2 * at) o ++ hexes f) (drop (2 * at + 2 * length f) o) (2 * (at + length f)) (length_head o at f h))

pub drop_over : (o : List ℕ) (at : ℕ) (f : List ℕ) (m : ℕ) → 2 * (at + length f) ≤ length o → drop (2 * (at + length f) + m) (overlaid o at f) ≡ drop (2 * (at + length f) + m) o
unfolding overlaid
drop_over o at f m h =
    let e : 2 * at + 2 * length f ≡ 2 * (at + length f) = omega arith in
    rw (← append_assoc (take (2 * at) o) (hexes f) (drop (2 * at + 2 * length f) o))
    (rw (e, ← drop-drop m (2 * (at + length f)) (take (2 * at) o ++ hexes f ++ drop (2 * (at + length f)) o), drop_at (take (2 * at) o ++ hexes f) (drop (2 * (at + length f)) o) (2 * (at + length f)) (length_head o at f h))
    (drop-drop m (2 * (at + length f)) o))

-- ---- one part behind the other

-- writing f and g is writing f, and then g behind it
pub over_append : (o : List ℕ) (at : ℕ) (f g : List ℕ) → 2 * (at + length f) ≤ length o
    → overlaid o at (f ++ g) ≡ overlaid (overlaid o at f) (at + length f) g
over_append o at f g h =
    let e : 2 * at + 2 * length (f ++ g) ≡ 2 * (at + length f) + 2 * length g = simp length-append (omega arith) in
    rw (over_eq o at (f ++ g), over_eq (overlaid o at f) (at + length f) g, take_over o at f h, drop_over o at f (2 * length g) h, e, hexes_append f g)
    (simp append_assoc)

-- ---- a byte, and a number byte by byte from its last on

-- two characters stored one behind the other
pub set_pair : (o : List ℕ) (k a b : ℕ) → k + 1 < length o → set (set o k a) (k + 1) b ≡ take k o ++ a ∷ b ∷ drop (k + 2) o
set_pair [] k a b h = absurd (omega arith)
set_pair (x ∷ []) zero a b h = absurd (omega arith)
set_pair (x ∷ y ∷ o) zero a b h = refl
set_pair (x ∷ o) (suc k) a b h = simp unary_clauses (ap (λ l. x ∷ l) (simp unary_clauses at (set_pair o k a b (omega arith))))

pub over_none : (o : List ℕ) (at i n : ℕ) → i ≡ 0 → overlaid o at (be i n) ≡ o
unfolding be
over_none o at zero n e = over_nil o at
over_none o at (suc i) n e = absurd (omega arith)

-- writing g, and then f before it, is writing both
pub over_over : (o : List ℕ) (at : ℕ) (f g : List ℕ) → 2 * (at + length f + length g) ≤ length o
    → overlaid (overlaid o (at + length f) g) at f ≡ overlaid o at (f ++ g)
unfolding overlaid
over_over o at f g h =
    let n = 2 * (at + length f) in
    let e1 : 2 * at + 2 * length f ≡ n = omega arith in
    let e2 : 2 * at + 2 * length (f ++ g) ≡ n + 2 * length g = simp length-append (omega arith) in
    let l : length (take n o) ≡ n = length-take-le n o (omega arith) in
    let t : 2 * at ≤ n = omega arith in
    let u : 2 * at ≤ length (take n o) = omega arith in
    rw (e1, e2, hexes_append f g, append_assoc, take-append-le (2 * at) (take n o) (hexes g ++ drop (n + 2 * length g) o) u, take-take (2 * at) n o t, drop_at (take n o) (hexes g ++ drop (n + 2 * length g) o) n l)

pub over_last : (o : List ℕ) (at i n : ℕ) → 0 < i → 2 * (at + i) ≤ length o
    → overlaid (overlaid o (at + (i - 1)) (n % 256 ∷ [])) at (be (i - 1) (n / 256)) ≡ overlaid o at (be i n)
unfolding be
over_last o at zero n p h = absurd (omega arith)
over_last o at (suc i) n p h =
    let e : suc i - 1 ≡ i = omega arith in
    let l : length (be i (n / 256)) ≡ i = length_be i (n / 256) in
    rw e (rw l at (over_over o at (be i (n / 256)) (n % 256 ∷ []) (omega arith)))

pub ruleset bytewise = (over_none, over_last)
