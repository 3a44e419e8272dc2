-- A number is read back at every width, and so is a field of a frame, there and back. No contract cites this file. Assumes nothing.
use Prim.Native.Nat.{ℕ, zero, suc, ◌+◌, ◌*◌, ◌/◌, ◌%◌, ◌^◌, ◌≤◌, ◌<◌}
use native.Mathlib.Nat.{pow-le-pow_right, pow-suc}
use native.Mathlib.Numerals.{add-one}
use native.Mathlib.Omega.{arith}
use mathlib.Core.Path.{◌≡◌, refl, sym, ap, ◌∙◌}
use mathlib.Core.List.{List, [], ◌∷◌, ◌++◌, append_assoc}
use lib.ListN.{length, get_or, take, drop, length-append, length-drop, take-append-drop}
use lib.Seq.{take-suc, get_or-drop, get_or_at, drop_at, drop-drop}
use Rattle.paper.specs.Frames.{be, num, frame_of}
use Rattle.line_digits.specs.FrameBytes.{Field}

-- ---- bytes

-- every number of the list is a byte
abbrev pub Bytes : List ℕ → Type 0
Bytes [] = Unit {0}
Bytes (b ∷ f) = (b < 256) × Bytes f

pub bytes_append : (f g : List ℕ) → Bytes f → Bytes g → Bytes (f ++ g)
bytes_append [] g p q = q
bytes_append (b ∷ f) g p q = (p.0, bytes_append f g p.1 q)

pub bytes_at : (f : List ℕ) (i : ℕ) → Bytes f → get_or f i 0 < 256
bytes_at [] i p = omega arith
bytes_at (b ∷ f) zero p = p.0
bytes_at (b ∷ f) (suc i) p = bytes_at f i p.1

pub bytes_drop : (n : ℕ) (f : List ℕ) → Bytes f → Bytes (drop n f)
bytes_drop zero f p = p
bytes_drop (suc n) [] p = tt
bytes_drop (suc n) (b ∷ f) p = bytes_drop n f p.1

-- ---- numbers, at every width

pub length_be : (w n : ℕ) → length (be w n) ≡ w
unfolding be
length_be zero n = refl
length_be (suc w) n = simp (length-append, length_be w (n / 256)) (omega arith)

pub bytes_be : (w n : ℕ) → Bytes (be w n)
unfolding be
bytes_be zero n = tt
bytes_be (suc w) n = bytes_append (be w (n / 256)) (n % 256 ∷ []) (bytes_be w (n / 256)) (omega arith, tt)

-- a number that fits w bytes is read back from its bytes, whatever follows them
pub num_be : (w n : ℕ) (q : List ℕ) → n < 256 ^ w → num w (be w n ++ q) ≡ n
unfolding be num
num_be zero n q h = omega arith
num_be (suc w) n q h =
    let p : n < 256 ^ w * 256 = rw pow-suc at h in
    let k : n / 256 < 256 ^ w = omega arith in
    rw append_assoc
    (rw (num_be w (n / 256) (n % 256 ∷ q) k, get_or_at (be w (n / 256)) (n % 256) q 0 w (length_be w (n / 256)))
    (omega arith))

-- the bytes of the number that w bytes are
pub be_num : (w : ℕ) (f : List ℕ) → Bytes f → w ≤ length f → be w (num w f) ≡ take w f
unfolding be num
be_num zero f p h = refl
be_num (suc w) f p h =
    let b : get_or f w 0 < 256 = bytes_at f w p in
    let e1 : (num w f * 256 + get_or f w 0) / 256 ≡ num w f = omega arith in
    let e2 : (num w f * 256 + get_or f w 0) % 256 ≡ get_or f w 0 = omega arith in
    rw (e1, e2, take-suc f w 0) (rw (be_num w f p (omega arith)))

pub num_lt : (w : ℕ) (f : List ℕ) → Bytes f → num w f < 256 ^ w
unfolding num
num_lt zero f p = omega arith
num_lt (suc w) f p =
    let b : get_or f w 0 < 256 = bytes_at f w p in
    let k : num w f < 256 ^ w = num_lt w f p in
    rw pow-suc (omega arith)

-- ---- fields of a frame, there and back

-- a field is read byte by byte, in at most eight turns
pub field_none : (line : List ℕ) (at : ℕ) → Field line at 0 0
unfolding num
field_none line at = record { value = refl; small = omega arith }

pub field_more : (line : List ℕ) (at w r b : ℕ) → Field line at w r → b ≡ get_or (frame_of line) (at + w) 0 → b < 256 → Field line at (w + 1) (r * 256 + b)
unfolding num
field_more line at w r b h e k = record { value = rw (h.value, e, add-one, get_or-drop); small = let p : r < 256 ^ w = h.small in rw (add-one, pow-suc) (omega arith) }

pub seven : (w : ℕ) → w < 8 → 256 ^ w ≤ 72057594037927936
seven w h = pow-le-pow_right {n = 256} (omega arith) {i = w} {j = 7} (omega arith)

pub ruleset bytewise = (field_none, field_more, seven)

-- a field that was written is read, and what stands behind it is known
pub field_read : (f : List ℕ) (at w n : ℕ) (g : List ℕ) → drop at f ≡ be w n ++ g → n < 256 ^ w → (num w (drop at f) ≡ n) × (drop (at + w) f ≡ g)
field_read f at w n g e h =
    (rw e (num_be w n g h), sym (drop-drop w at f) ∙ ap (drop w) e ∙ drop_at (be w n) g w (length_be w n))

-- a field that was read is written as it stood
pub field_back : (f : List ℕ) (at w : ℕ) → Bytes f → at + w ≤ length f → be w (num w (drop at f)) ++ drop (at + w) f ≡ drop at f
field_back f at w p h =
    let k : w ≤ length (drop at f) = simp length-drop (omega arith) in
    rw (be_num w (drop at f) (bytes_drop at f p) k, ← drop-drop w at f) (take-append-drop w (drop at f))
