-- The parts of a line: how long they are, that they are bytes, what a turn of each loop does, and what their tests say.
-- No contract cites this file. Assumes nothing.
use Prim.Native.Nat.{ℕ, zero, suc, ◌+◌, ◌-◌, ◌*◌, ◌≤◌, ◌<◌}
use native.Mathlib.Numerals.{add-one}
use native.Mathlib.Omega.{arith}
use mathlib.Core.Path.{◌≡◌, refl, sym, ap, ◌∙◌}
use mathlib.Core.Bool.{Bool, true, false, ◌&&◌}
use mathlib.Core.List.{List, [], ◌∷◌, ◌++◌, append_assoc}
use lib.ListN.{length, get_or, drop, set, replicate, length-append}
use lib.Seq.{drop-cons, drop-drop, set_at}
use lib.Dec.{eqb}
use lib.IntN.{ℤ, pos}
use mir.Syntax.{w32}
use mir.Val.{of_z, to_z}
use Rattle.paper.specs.Frames.{be, num, frame_of, is_line}
use Rattle.line_digits.specs.FrameBytes.{overlaid, HasBytes}
use Rattle.line_digits.proofs.NumbersAndFrames.{Bytes, bytes_append, bytes_be, length_be}
use Rattle.line_digits.proofs.WritingOver.{over_nil, over_append}
use Rattle.std.proofs.lemmas.Bool.{and_parts}
use Rattle.std.proofs.lemmas.List.{drop_all, length-take-le}
use borrow.Author.Tests.{eqb-true, eq-eqb}
use Rattle.paper.specs.Points.{in_range, InRange}
use Rattle.paper.specs.Orders.{Query}
use Rattle.paper.proofs.Ranges.{range_is}
use Rattle.paper.specs.Fields.{head, front, coord_bytes, coords_in, scope_bytes}
use Rattle.paper.specs.Lines.{head_ok}
use Rattle.paper.specs.declared.lines.Scope.{Scope}
use Rattle.paper.specs.Limits.{most_coordinates}
use Rattle.line_fields.specs.Layout.{laid_out}

-- ---- writing

-- a number written, and then what stands behind it
pub over_then : (o : List ℕ) (at w n : ℕ) (g : List ℕ) → 2 * (at + w) ≤ length o → overlaid o at (be w n ++ g) ≡ overlaid (overlaid o at (be w n)) (at + w) g
over_then o at w n g h =
    let e : length (be w n) ≡ w = length_be w n in
    over_append o at (be w n) g (omega arith) ∙ ap (λ (k : ℕ). overlaid (overlaid o at (be w n)) (at + k) g) e

-- the same, of what a call left, with the next place by its name
pub over_be : (o o' : List ℕ) (at at' w n : ℕ) (g : List ℕ) → at + w ≡ at' → 2 * at' ≤ length o → o' ≡ overlaid o at (be w n) → overlaid o at (be w n ++ g) ≡ overlaid o' at' g
over_be o o' at at' w n g p h e =
    over_then o at w n g (omega arith) ∙ ap (λ (k : ℕ). overlaid (overlaid o at (be w n)) k g) p ∙ ap (λ (x : List ℕ). overlaid x at' g) (sym e)

pub over_to : (o o' : List ℕ) (at at' : ℕ) (f g : List ℕ) → at + length f ≡ at' → 2 * at' ≤ length o → o' ≡ overlaid o at f → overlaid o at (f ++ g) ≡ overlaid o' at' g
over_to o o' at at' f g p h e = over_append o at f g (omega arith) ∙ ap (λ (k : ℕ). overlaid (overlaid o at f) k g) p ∙ ap (λ (x : List ℕ). overlaid x at' g) (sym e)

pub length_scope : (reach : ℕ) (p : Scope) → length (scope_bytes reach p) ≡ 21
unfolding scope_bytes
length_scope reach p = simp (length-append, length_be)

pub bytes_scope : (reach : ℕ) (p : Scope) → Bytes (scope_bytes reach p)
unfolding scope_bytes
bytes_scope reach p =
    bytes_append (be 8 reach) (be 1 p.from ++ (be 2 p.snapshot ++ (be 8 p.distance ++ be 2 p.number))) (bytes_be 8 reach)
    (bytes_append (be 1 p.from) (be 2 p.snapshot ++ (be 8 p.distance ++ be 2 p.number)) (bytes_be 1 p.from)
    (bytes_append (be 2 p.snapshot) (be 8 p.distance ++ be 2 p.number) (bytes_be 2 p.snapshot)
    (bytes_append (be 8 p.distance) (be 2 p.number) (bytes_be 8 p.distance) (bytes_be 2 p.number))))

pub length_head : (k t m d : ℕ) → length (head k t m d) ≡ 7
unfolding head
length_head k t m d = simp (length-append, length_be)

pub bytes_head : (k t m d : ℕ) → Bytes (head k t m d)
unfolding head
bytes_head k t m d =
    bytes_append (be 1 k) (be 4 t ++ (be 1 m ++ be 1 d)) (bytes_be 1 k)
    (bytes_append (be 4 t) (be 1 m ++ be 1 d) (bytes_be 4 t) (bytes_append (be 1 m) (be 1 d) (bytes_be 1 m) (bytes_be 1 d)))

pub length_coord_bytes : (cs : List ℤ) → length (coord_bytes cs) ≡ 4 * length cs
unfolding coord_bytes
length_coord_bytes [] = refl
length_coord_bytes (z ∷ cs) = simp (length-append, length_be, length_coord_bytes cs) (omega arith)

pub bytes_coord_bytes : (cs : List ℤ) → Bytes (coord_bytes cs)
unfolding coord_bytes
bytes_coord_bytes [] = tt
bytes_coord_bytes (z ∷ cs) = bytes_append (be 4 (of_z w32 z)) (coord_bytes cs) (bytes_be 4 (of_z w32 z)) (bytes_coord_bytes cs)

pub length_front : (k : ℕ) (q : Query) (p : Scope) → length (front k q p) ≡ 28 + 4 * length q.probe
unfolding front
length_front k q p = simp (length-append, length_head, length_coord_bytes, length_scope) (omega arith)

pub bytes_front : (k : ℕ) (q : Query) (p : Scope) → Bytes (front k q p)
unfolding front
bytes_front k q p =
    bytes_append (head k q.table q.measure q.d) (coord_bytes q.probe ++ scope_bytes q.reach p) (bytes_head k q.table q.measure q.d)
    (bytes_append (coord_bytes q.probe) (scope_bytes q.reach p) (bytes_coord_bytes q.probe) (bytes_scope q.reach p))

pub ruleset fronting = (over_append, length_head, length_coord_bytes, length-take-le)

-- coordinates one by one: of those that are left to write the first, and none

pub coord_step : (o : List ℕ) (p i : ℕ) (cs : List ℤ) → i < length cs → 2 * (p + 4) ≤ length o
    → overlaid o p (coord_bytes (drop i cs)) ≡ overlaid (overlaid o p (be 4 (of_z w32 (get_or cs i (pos 0))))) (p + 4) (coord_bytes (drop (i + 1) cs))
unfolding coord_bytes
coord_step o p i cs h k =
    rw (add-one i, drop-cons cs i (pos 0) h) (over_then o p 4 (of_z w32 (get_or cs i (pos 0))) (coord_bytes (drop (suc i) cs)) k)

pub coords_end : (o : List ℕ) (p i : ℕ) (cs : List ℤ) → length cs ≤ i → overlaid o p (coord_bytes (drop i cs)) ≡ o
unfolding coord_bytes
coords_end o p i cs h = rw (drop_all i cs h) (over_nil o p)

pub ruleset one_by_one = (coord_step, coords_end)

-- ---- reading

pub length_coords_in : (d : ℕ) (f : List ℕ) → length (coords_in d f) ≡ d
unfolding coords_in
length_coords_in zero f = refl
length_coords_in (suc d) f = ap suc (length_coords_in d (drop 4 f))

pub coords_snoc : (d : ℕ) (f : List ℕ) → coords_in (suc d) f ≡ coords_in d f ++ (to_z w32 (num 4 (drop (4 * d) f)) ∷ [])
unfolding coords_in
coords_snoc zero f = refl
coords_snoc (suc d) f =
    let e : 4 * suc d ≡ 4 + 4 * d = omega arith in
    rw (e, ← drop-drop (4 * d) 4 f) (ap (λ (l : List ℤ). to_z w32 (num 4 f) ∷ l) (coords_snoc d (drop 4 f)))

-- one place more is filled
pub place_step : (f : List ℕ) (i : ℕ) → i < 8
    → set (coords_in i f ++ replicate (8 - i) (pos 0)) i (to_z w32 (num 4 (drop (4 * i) f))) ≡ coords_in (i + 1) f ++ replicate (8 - (i + 1)) (pos 0)
place_step f i h =
    let e : 8 - i ≡ suc (8 - (i + 1)) = omega arith in
    rw (e, add-one i, coords_snoc i f, append_assoc)
    (rw (← add-one i) (set_at (coords_in i f) (pos 0) (replicate (8 - (i + 1)) (pos 0)) (to_z w32 (num 4 (drop (4 * i) f))) i (length_coords_in i f)))

-- ---- ranges

-- what a head of kind k is known for
pub record HeadOk (k : ℕ) (f : List ℕ) : Type 0 where
  pub kind : num 1 f ≡ k
  pub test : in_range (num 1 (drop 5 f)) (num 1 (drop 6 f)) ≡ true
  pub range : InRange (num 1 (drop 5 f)) (num 1 (drop 6 f))

pub is_head : (k : ℕ) (f : List ℕ) → head_ok k f ≡ true → HeadOk k f
unfolding head_ok
is_head k f e =
    let p = and_parts (eqb (num 1 f) k) (in_range (num 1 (drop 5 f)) (num 1 (drop 6 f))) e in
    record {
      kind = eqb-true (num 1 f) k p.0;
      test = p.1;
      range = range_is (num 1 (drop 5 f)) (num 1 (drop 6 f)) p.1;
    }

pub head_rule : (k m d : ℕ) (f : List ℕ) → num 1 f ≡ k → num 1 (drop 5 f) ≡ m → num 1 (drop 6 f) ≡ d → in_range m d ≡ true → head_ok k f ≡ true
unfolding head_ok
head_rule k m d f a b c e = rw (a, b, c, eq-eqb k k refl) e

-- what a frame that is laid out is known for
pub laid_is : (k n : ℕ) (f : List ℕ) → laid_out k n f ≡ true → (HeadOk k f) × (length f ≡ n + 4 * num 1 (drop 6 f))
unfolding laid_out
laid_is k n f e =
    let p = and_parts (head_ok k f) (eqb (length f) (n + 4 * num 1 (drop 6 f))) e in
    (is_head k f p.0, eqb-true (length f) (n + 4 * num 1 (drop 6 f)) p.1)

-- head and length, and then what is tested behind them
pub laid_then : (k n : ℕ) (f : List ℕ) (t : Bool) → head_ok k f && (eqb (length f) (n + 4 * num 1 (drop 6 f)) && t) ≡ laid_out k n f && t
unfolding laid_out
laid_then k n f t = go (head_ok k f) (eqb (length f) (n + 4 * num 1 (drop 6 f)))
  where
    go : (a b : Bool) → a && (b && t) ≡ (a && b) && t
    go true b = refl
    go false b = refl

-- a line that the layout's test let through, by the d that was read from it
module _ (k n : ℕ) (l : List ℕ) (s : is_line l ≡ true) (b : Bool) (be : b ≡ laid_out k n (frame_of l)) (h : b ≡ true) (d : ℕ) (de : d ≡ num 1 (drop 6 (frame_of l))) where
  laid : (HeadOk k (frame_of l)) × (length (frame_of l) ≡ n + 4 * num 1 (drop 6 (frame_of l)))
  laid = laid_is k n (frame_of l) (sym be ∙ h)

  pub laid_narrow : d ≤ most_coordinates
  laid_narrow = omega (arith, laid.0.range.narrow)

  pub laid_bytes : (m : ℕ) → m ≤ n + 4 * d → HasBytes l m
  laid_bytes m q = (s, omega (arith, laid.1))
