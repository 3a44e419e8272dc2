-- The items of an answer: what a turn of each loop does, there and back, and what their tests say. Assumes nothing.
use Prim.Native.Nat.{ℕ, zero, suc, ◌+◌, ◌-◌, ◌*◌, ◌^◌, ◌≤◌, ◌<◌}
use native.Mathlib.Numerals.{add-one}
use native.Mathlib.Omega.{arith}
use mathlib.Core.Path.{◌≡◌, refl, ap}
use mathlib.Core.Bool.{Bool, true, false, ◌&&◌}
use mathlib.Core.List.{List, [], ◌∷◌, ◌++◌, append_assoc}
use lib.ListN.{length, get_or, drop, set, replicate, length-append, length-drop}
use lib.Dec.{ltb, leb}
use borrow.Author.Tests.{ltb-true, leb-true, lt-ltb}
use lib.Seq.{drop-cons, drop-drop}
use Rattle.paper.specs.Frames.{be, num}
use Rattle.line_digits.specs.FrameBytes.{overlaid}
use Rattle.std.specs.List.{list_all, range_with_len}
use Rattle.std.specs.Simd.{first_chunks}
use Rattle.std.proofs.Math.Bool.{and-false}
use Rattle.std.proofs.lemmas.Bool.{and_parts}
use Rattle.std.proofs.lemmas.List.{drop_all}
use Rattle.line_digits.proofs.WritingOver.{over_nil, over_append}
use Rattle.line_digits.proofs.NumbersAndFrames.{num_lt, Bytes, bytes_append, bytes_be, bytes_drop, length_be, field_read, field_back}
use Rattle.paper.specs.Fields.{item_frame, item_bytes, item_numbers, numbers_ok, references_ok}
use Rattle.paper.specs.Limits.{item_room, most_number, most_page}

-- ---- the bytes of items

pub length_item : (n r x : ℕ) → length (item_frame n r x) ≡ 14
unfolding item_frame
length_item n r x = simp (length-append, length_be)

pub bytes_item : (n r x : ℕ) → Bytes (item_frame n r x)
unfolding item_frame
bytes_item n r x = bytes_append (be 2 n) (be 4 r ++ be 8 x) (bytes_be 2 n) (bytes_append (be 4 r) (be 8 x) (bytes_be 4 r) (bytes_be 8 x))

pub length_items : (k : ℕ) (ns : List ℕ) → length ns ≡ 3 * k → length (item_bytes ns) ≡ 14 * k
unfolding item_bytes
length_items zero [] e = refl
length_items (suc k) [] e = absurd (omega arith)
length_items k (n ∷ []) e = absurd (omega arith)
length_items k (n ∷ r ∷ []) e = absurd (omega arith)
length_items zero (n ∷ r ∷ x ∷ ns) e = absurd (omega arith)
length_items (suc k) (n ∷ r ∷ x ∷ ns) e =
    let h : length (item_bytes ns) ≡ 14 * k = length_items k ns (omega arith) in
    simp (length-append, length_item) (omega arith)

pub bytes_items : (ns : List ℕ) → Bytes (item_bytes ns)
unfolding item_bytes
bytes_items [] = tt
bytes_items (n ∷ []) = tt
bytes_items (n ∷ r ∷ []) = tt
bytes_items (n ∷ r ∷ x ∷ ns) = bytes_append (item_frame n r x) (item_bytes ns) (bytes_item n r x) (bytes_items ns)

-- ---- items written one by one

three_drop : (ns : List ℕ) (j : ℕ) → j + 2 < length ns → drop j ns ≡ get_or ns j 0 ∷ get_or ns (j + 1) 0 ∷ get_or ns (j + 2) 0 ∷ drop (j + 3) ns
three_drop ns j h =
    let e1 : j + 1 ≡ suc j = omega arith in
    let e2 : j + 2 ≡ suc (suc j) = omega arith in
    let e3 : j + 3 ≡ suc (suc (suc j)) = omega arith in
    rw (e1, e2, e3, drop-cons ns j 0 (omega arith), drop-cons ns (suc j) 0 (omega arith), drop-cons ns (suc (suc j)) 0 (omega arith))

-- of those that are left to write the first, and none

pub item_step : (o : List ℕ) (p j : ℕ) (ns : List ℕ) → j + 2 < length ns → 2 * (p + 14) ≤ length o
    → overlaid o p (item_bytes (drop j ns)) ≡ overlaid (overlaid o p (item_frame (get_or ns j 0) (get_or ns (j + 1) 0) (get_or ns (j + 2) 0))) (p + 14) (item_bytes (drop (j + 3) ns))
unfolding item_bytes
item_step o p j ns h k =
    let l = length_item (get_or ns j 0) (get_or ns (j + 1) 0) (get_or ns (j + 2) 0) in
    rw (three_drop ns j h) (rw l at (over_append o p (item_frame (get_or ns j 0) (get_or ns (j + 1) 0) (get_or ns (j + 2) 0)) (item_bytes (drop (j + 3) ns)) (omega arith)))

pub items_end : (o : List ℕ) (p j : ℕ) (ns : List ℕ) → length ns ≤ j → overlaid o p (item_bytes (drop j ns)) ≡ o
unfolding item_bytes
items_end o p j ns h = rw (drop_all j ns h) (over_nil o p)

pub ruleset one_by_one = (item_step, items_end)

-- ---- items read one by one

pub length_items_in : (k : ℕ) (f : List ℕ) → length (item_numbers k f) ≡ 3 * k
unfolding item_numbers
length_items_in zero f = refl
length_items_in (suc k) f = let e : length (item_numbers k (drop 14 f)) ≡ 3 * k = length_items_in k (drop 14 f) in omega arith

pub items_snoc : (k : ℕ) (f : List ℕ)
    → item_numbers (suc k) f ≡ item_numbers k f ++ (num 2 (drop (14 * k) f) ∷ num 4 (drop (14 * k + 2) f) ∷ num 8 (drop (14 * k + 6) f) ∷ [])
unfolding item_numbers
items_snoc zero f = refl
items_snoc (suc k) f =
    let e1 : 14 * suc k ≡ 14 + 14 * k = omega arith in
    let e2 : 14 + 14 * k + 2 ≡ 14 + (14 * k + 2) = omega arith in
    let e3 : 14 + 14 * k + 6 ≡ 14 + (14 * k + 6) = omega arith in
    rw (e1, e2, e3, ← drop-drop (14 * k) 14 f, ← drop-drop (14 * k + 2) 14 f, ← drop-drop (14 * k + 6) 14 f)
    (ap (λ (l : List ℕ). num 2 f ∷ num 4 (drop 2 f) ∷ num 8 (drop 6 f) ∷ l) (items_snoc k (drop 14 f)))

-- three stores behind a front
three : (p q : List ℕ) (n a b c x y z : ℕ) → length p ≡ n
    → set (set (set (p ++ (x ∷ y ∷ z ∷ q)) n a) (n + 1) b) (n + 2) c ≡ (p ++ (a ∷ b ∷ c ∷ [])) ++ q
three [] q n a b c x y z e = rw (← e)
three (h ∷ p) q zero a b c x y z e = absurd (omega arith)
three (h ∷ p) q (suc n) a b c x y z e =
    let e1 : suc n + 1 ≡ suc (n + 1) = omega arith in
    let e2 : suc n + 2 ≡ suc (n + 2) = omega arith in
    rw (e1, e2) (ap (λ (l : List ℕ). h ∷ l) (three p q n a b c x y z (omega arith)))

pub slots_step : (f : List ℕ) (i : ℕ) → i < most_page
    → set (set (set (item_numbers i f ++ replicate (item_room - 3 * i) 0) (3 * i) (num 2 (drop (14 * i) f))) (3 * i + 1) (num 4 (drop (14 * i + 2) f))) (3 * i + 2) (num 8 (drop (14 * i + 6) f))
    ≡ item_numbers (i + 1) f ++ replicate (item_room - 3 * (i + 1)) 0
slots_step f i h =
    let e : item_room - 3 * i ≡ suc (suc (suc (item_room - 3 * (i + 1)))) = omega arith in
    rw (e, add-one i, items_snoc i f, ← add-one i)
    (three (item_numbers i f) (replicate (item_room - 3 * (i + 1)) 0) (3 * i) (num 2 (drop (14 * i) f)) (num 4 (drop (14 * i + 2) f)) (num 8 (drop (14 * i + 6) f)) 0 0 0 (length_items_in i f))

-- ---- there and back

pub items_back : (k : ℕ) (f : List ℕ) → Bytes f → 14 * k ≤ length f → item_bytes (item_numbers k f) ++ drop (14 * k) f ≡ f
unfolding item_numbers item_bytes item_frame
items_back zero f p h = refl
items_back (suc k) f p h =
    let e : 14 * suc k ≡ 14 + 14 * k = omega arith in
    let l : 14 * k ≤ length (drop 14 f) = simp length-drop (omega arith) in
    rw (e, ← drop-drop (14 * k) 14 f)
    (simp append_assoc
    (rw (items_back k (drop 14 f) (bytes_drop 14 f p) l, field_back f 6 8 p (omega arith), field_back f 2 4 p (omega arith)) (field_back f 0 2 p (omega arith))))

abbrev pub ItemsFit : ℕ → List ℕ → Type 0
ItemsFit zero [] = Unit {0}
ItemsFit zero (n ∷ ns) = ⊥
ItemsFit (suc k) [] = ⊥
ItemsFit (suc k) (n ∷ []) = ⊥
ItemsFit (suc k) (n ∷ r ∷ []) = ⊥
ItemsFit (suc k) (n ∷ r ∷ x ∷ ns) = (n < 2 ^ 16) × ((r < 2 ^ 32) × ((x < 2 ^ 64) × ItemsFit k ns))

pub items_read : (k : ℕ) (ns g : List ℕ) → ItemsFit k ns → item_numbers k (item_bytes ns ++ g) ≡ ns
unfolding item_numbers item_bytes item_frame
items_read zero [] g p = refl
items_read zero (n ∷ ns) g p = absurd p
items_read (suc k) [] g p = absurd p
items_read (suc k) (n ∷ []) g p = absurd p
items_read (suc k) (n ∷ r ∷ []) g p = absurd p
items_read (suc k) (n ∷ r ∷ x ∷ ns) g p =
    let f = ((be 2 n ++ (be 4 r ++ be 8 x)) ++ item_bytes ns) ++ g in
    let s : f ≡ be 2 n ++ (be 4 r ++ (be 8 x ++ (item_bytes ns ++ g))) = simp append_assoc in
    let p1 = field_read f 0 2 n (be 4 r ++ (be 8 x ++ (item_bytes ns ++ g))) s p.0 in
    let p2 = field_read f 2 4 r (be 8 x ++ (item_bytes ns ++ g)) p1.1 p.1.0 in
    let p3 = field_read f 6 8 x (item_bytes ns ++ g) p2.1 p.1.1.0 in
    rw (p1.0, p2.0, p3.0, p3.1, items_read k ns g p.1.1.1)

-- ---- tests

-- the numbers of k items, one by one
numbers_from : (k a i : ℕ) (f : List ℕ) → list_all (λ i. leb (num 2 (drop (a + 14 * i) f)) most_number) (range_with_len i k) ≡ numbers_ok (item_numbers k (drop (a + 14 * i) f))
unfolding item_numbers numbers_ok
numbers_from zero a i f = refl
numbers_from (suc k) a i f =
    let e : a + 14 * (i + 1) ≡ a + 14 * i + 14 = omega arith in
    rw (numbers_from k a (i + 1) f, e, drop-drop 14 (a + 14 * i) f)

pub numbers_all : (k a : ℕ) (f : List ℕ) → list_all (λ i. leb (num 2 (drop (a + 14 * i) f)) most_number) (range_with_len 0 k) ≡ numbers_ok (item_numbers k (drop a f))
numbers_all k a f = let e : a + 14 * 0 ≡ a = omega arith in rw e at (numbers_from k a 0 f)

-- the same of items that a writer is handed
pub fit_all : (k : ℕ) (ns : List ℕ) → length ns ≡ 3 * k → list_all (λ t. leb (get_or t 0 0) most_number && ltb (get_or t 1 0) 4294967296) (first_chunks 3 k ns) ≡ references_ok ns && numbers_ok ns
unfolding references_ok numbers_ok
fit_all zero [] e = refl
fit_all (suc k) [] e = absurd (omega arith)
fit_all k (n ∷ []) e = absurd (omega arith)
fit_all k (n ∷ r ∷ []) e = absurd (omega arith)
fit_all zero (n ∷ r ∷ x ∷ ns) e = absurd (omega arith)
fit_all (suc k) (n ∷ r ∷ x ∷ ns) e =
    rw (fit_all k ns (omega arith)) (regroup (leb n most_number) (ltb r 4294967296) (references_ok ns) (numbers_ok ns))
  where
    regroup : (a b p q : Bool) → (a && b) && (p && q) ≡ (b && p) && (a && q)
    regroup true true p q = refl
    regroup true false p q = refl
    regroup false b p q = simp and-false

-- ---- handed on

-- what the tests give for reading items back; distances come in as many bits as they have
abbrev pub Distances : List ℕ → Type 0
Distances [] = Unit {0}
Distances (n ∷ []) = Unit {0}
Distances (n ∷ r ∷ []) = Unit {0}
Distances (n ∷ r ∷ x ∷ ns) = (x < 2 ^ 64) × Distances ns

pub items_fitting : (k : ℕ) (ns : List ℕ) → length ns ≡ 3 * k → references_ok ns ≡ true → numbers_ok ns ≡ true → Distances ns → ItemsFit k ns
unfolding references_ok numbers_ok
items_fitting zero [] e p q h = tt
items_fitting (suc k) [] e p q h = absurd (omega arith)
items_fitting zero (n ∷ ns) e p q h = absurd (omega arith)
items_fitting (suc k) (n ∷ []) e p q h = absurd (omega arith)
items_fitting (suc k) (n ∷ r ∷ []) e p q h = absurd (omega arith)
items_fitting (suc k) (n ∷ r ∷ x ∷ ns) e p q h =
    let a = and_parts (ltb r 4294967296) (references_ok ns) p in
    let b = and_parts (leb n most_number) (numbers_ok ns) q in
    let hr : r < 4294967296 = ltb-true r 4294967296 a.0 in
    let hn : n ≤ most_number = leb-true n most_number b.0 in
    (omega arith, (omega arith, (h.0, items_fitting k ns (omega arith) a.1 b.1 h.1)))

-- a reference that was read is in range
pub references_in : (k : ℕ) (f : List ℕ) → Bytes f → references_ok (item_numbers k f) ≡ true
unfolding item_numbers references_ok
references_in zero f p = refl
references_in (suc k) f p =
    rw (lt-ltb (num 4 (drop 2 f)) 4294967296 (num_lt 4 (drop 2 f) (bytes_drop 2 f p))) (references_in k (drop 14 f) (bytes_drop 14 f p))
