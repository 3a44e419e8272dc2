-- Comparing the fronts of two memories. Assumes nothing.
use Prim.Native.Nat.{ℕ, zero, suc, ◌+◌, ◌*◌, ◌/◌, ◌%◌, ◌<◌, ◌≤◌}
use mathlib.Core.Path.{◌≡◌, refl, sym, ap, ◌∙◌}
use mathlib.Core.Bool.{Bool, true}
use mathlib.Core.List.{List}
use mathlib.Core.Logic.{⊎_elim}
use native.Mathlib.Omega.{arith}
use native.Mathlib.Nat.{eq-or-lt_of_le}
use lib.ListN.{length, get_or, take}
use lib.Seq.{get_or-take, length-take-le, ext_get_or}
use lib.Dec.{eqb}
use borrow.Author.Tests.{eqb-true, eq-eqb}
use Rattle.std.specs.Cmp.Lexicographic.{pointwise}
use Rattle.std.proofs.lemmas.Bool.Decides.{same_from_decides, Decides-eqb}
use Rattle.std.proofs.lemmas.Slice.Eq.{slice_eq-Decides}
use Rattle.paper.specs.Tree.{field_at, same_front}
use Rattle.paper.proofs.Tests.{and_first, and_second}

pub front_at_lem : (w : ℕ) (a b : List ℕ) → same_front w a b ≡ true → (i : ℕ) → i < w → get_or a i 0 ≡ get_or b i 0
unfolding same_front
front_at_lem zero a b h i hi = absurd (omega arith)
front_at_lem (suc w) a b h i hi = ⊎_elim
    (λ p. let q : i ≡ w = p in rw q (eqb-true _ _ (and_second (same_front w a b) (eqb (get_or a w 0) (get_or b w 0)) h)))
    (λ l. front_at_lem w a b (and_first (same_front w a b) (eqb (get_or a w 0) (get_or b w 0)) h) i l) (eq-or-lt_of_le (omega arith))

pub front_all : (w : ℕ) (a b : List ℕ) → ((i : ℕ) → i < w → get_or a i 0 ≡ get_or b i 0) → same_front w a b ≡ true
unfolding same_front
front_all zero a b h = refl
front_all (suc w) a b h = rw (front_all w a b (λ i hi. h i (omega arith)), eq-eqb (get_or a w 0) (get_or b w 0) (h w (omega arith)))

pub front_ext : (w : ℕ) (a b c : List ℕ) → ((i : ℕ) → i < w → get_or a i 0 ≡ get_or b i 0) → same_front w a c ≡ same_front w b c
unfolding same_front
front_ext zero a b c h = refl
front_ext (suc w) a b c h = rw (front_ext w a b c (λ i hi. h i (omega arith)), h w (omega arith))

-- fields that agree are numbers that agree
pub agree_at : (w : ℕ) (a b : List ℕ) → ((m g : ℕ) → m < w → g < 6 → field_at a m g ≡ field_at b m g) → (i : ℕ) → i < w * 6 → get_or a i 0 ≡ get_or b i 0
agree_at w a b h i hi = let q : i / 6 * 6 + i % 6 ≡ i = omega arith in rw q at (h (i / 6) (i % 6) (omega arith) (omega arith))

-- two fronts compared at once
pub front_is : (w : ℕ) (a b : List ℕ) {r : Bool} → w ≤ length a → w ≤ length b → r ≡ pointwise eqb (take w a) (take w b) → r ≡ same_front w a b
front_is w a b {r} h k e = same_from_decides r (same_front w a b) (slice_eq-Decides Decides-eqb (take w a) (take w b) r e) (equal, same)
  where
    equal : same_front w a b ≡ true → take w a ≡ take w b
    equal t =
        ext_get_or 0 (take w a) (take w b) (length-take-le w a h ∙ sym (length-take-le w b k))
        (λ i hi. let l : i < w = omega (arith, length-take-le w a h) in
        get_or-take w a i 0 l ∙ front_at_lem w a b t i l ∙ sym (get_or-take w b i 0 l))

    same : take w a ≡ take w b → same_front w a b ≡ true
    same q = front_all w a b (λ i l. sym (get_or-take w a i 0 l) ∙ ap (λ (s : List ℕ). get_or s i 0) q ∙ get_or-take w b i 0 l)
