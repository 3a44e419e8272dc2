-- Laws of cutting: where a line ends, that a line is put into the room at once as byte by byte, and what a cut means. Assumes nothing.
use Prim.Native.Nat.{ℕ, suc, ◌+◌, ◌-◌, ◌<◌, ◌≤◌}
use mathlib.Core.Path.{◌≡◌, refl, sym, ap, ◌∙◌, subst}
use mathlib.Core.List.{List, [], ◌∷◌, ◌++◌, append_assoc}
use mathlib.Core.Bool.{Bool, true, false, cond}
use native.Mathlib.Omega.{arith}
use native.Mathlib.Numerals.{add-one}
use native.Mathlib.Decide.{dec_le}
use lib.ListN.{length, set, drop, take, length-set, length-append, length-drop, length-take}
use Rattle.std.specs.List.{position, position_or_len}
use Rattle.std.proofs.Common.{Option, Some, None, MatchOption, ◌==◌, leb, nat_lt, not, add-zero, take_all, min, take-append-drop}
use Rattle.std.proofs.lemmas.Slice.{between_to_end}
use Rattle.std.proofs.lemmas.List.{drop_min}
use Rattle.std.proofs.lemmas.Grind.{common_steps}
use Rattle.std.proofs.lemmas.Bool.Decides.{nat_tests}
use lib.Dec.{eqb}
use lib.Seq.{take-nil, take-suc-set, drop-set-lt, set_out, drop-drop}
use borrow.Author.Tests.{le-leb}
use Rattle.office_cut.specs.Cut.{one_more, grown, kept_of, CutLine, cut_with, cut_of, line_in, rest_in, has_end, LineHeld}

-- ---- the first end of a line

abbrev before_end : List ℕ → ℕ
before_end xs = position_or_len (λ b. b == 10) xs

-- what a search for the first end tells of the line
abbrev pub LineAt : List ℕ → Option ℕ → Type 0
LineAt xs k = MatchOption k ((xs ≡ line_in xs) × (false ≡ has_end xs)) (λ k. (take (k + 1) xs ≡ line_in xs) × (true ≡ has_end xs))

line_until : (xs : List ℕ) → take (before_end xs + 1) xs ≡ line_in xs
unfolding line_in
line_until [] = refl
line_until (x ∷ xs) = go (x == 10) (line_until xs)
  where
    go : (b : Bool) → take (before_end xs + 1) xs ≡ line_in xs → take (cond (not b) (1 + before_end xs) 0 + 1) (x ∷ xs) ≡ x ∷ cond b [] (line_in xs)
    go true e = refl
    go false e =
        let q : 1 + before_end xs + 1 ≡ suc (before_end xs + 1) = omega arith in
        rw q (ap (λ l. x ∷ l) e)

end_within : (xs : List ℕ) → nat_lt (before_end xs) (length xs) ≡ has_end xs
unfolding has_end
end_within [] = refl
end_within (x ∷ xs) = go (x == 10) (end_within xs)
  where
    go : (b : Bool) → nat_lt (before_end xs) (length xs) ≡ has_end xs → nat_lt (cond (not b) (1 + before_end xs) 0) (suc (length xs)) ≡ cond b true (has_end xs)
    go true e = grind (arith, nat_tests)
    go false e = grind (arith, nat_tests)

pub line_at : (xs : List ℕ) (k : Option ℕ) → k ≡ position (λ b. b == 10) xs → LineAt xs k
line_at xs k e = rw (e, end_within xs) (go (has_end xs) refl)
  where
    go : (b : Bool) → b ≡ has_end xs → LineAt xs (cond b (Some (before_end xs)) None)
    go true e = (line_until xs, e)
    go false e =
        let h : length xs ≤ before_end xs + 1 = grind (arith, nat_tests, end_within xs) in
        (sym (take_all _ xs h) ∙ line_until xs, e)

-- the part of a chunk that a cut reads
pub rest_from : (xs : List ℕ) (i m : ℕ) → m ≡ min i (length xs) → take (length xs - m) (drop m xs) ≡ drop i xs
rest_from xs i m e = rw e (between_to_end xs (min i (length xs)) (length xs) (omega arith) ∙ drop_min i xs)

pub line_short : (xs : List ℕ) → length (line_in xs) ≤ length xs
line_short xs = omega (arith, ap length (line_until xs), length-take (before_end xs + 1) xs)

-- ---- a cut at once

kept_no_more : (l : List ℕ) (n : ℕ) → kept_of l n [] ≡ l
kept_no_more l n = simp (take-nil, add-zero, take-append-drop)

kept_past : (l : List ℕ) (n : ℕ) (ys : List ℕ) → length l ≤ n → kept_of l n ys ≡ l
kept_past l n ys h = grind (arith, common_steps)

pub kept_next : (most : ℕ) (l : List ℕ) (n x : ℕ) (ys : List ℕ) → length l ≡ most → kept_of (set l n x) (one_more most n) ys ≡ kept_of l n (x ∷ ys)
unfolding one_more
kept_next most l n x ys e = go (dec_le (suc n) most)
  where
    go : Dec (n < most) → kept_of (set l n x) (cond (leb n most) (n + 1) n) ys ≡ kept_of l n (x ∷ ys)
    go (yes h) =
        let q : length l - n ≡ suc (length l - suc n) = omega arith in
        let r : n + suc (length ys) ≡ suc n + length ys = omega arith in
        let past : n < suc n + length ys = omega arith in
        rw (le-leb n most (omega arith), add-one n, length-set l n x, drop-set-lt (suc n + length ys) l n x past, take-suc-set l n x (omega arith), append_assoc, q, r) refl
    go (no h) =
        rw (set_out l n x (omega arith)) (kept_past l (cond (leb n most) (n + 1) n) ys (grind (arith, nat_tests)) ∙ sym (kept_past l n (x ∷ ys) (omega arith)))

grown_no_more : (most n : ℕ) → grown most n 0 ≡ n
grown_no_more most n = grind (arith, nat_tests)

pub grown_next : (most n k : ℕ) → grown most (one_more most n) k ≡ grown most n (suc k)
unfolding one_more
grown_next most n k = grind (arith, nat_tests)

same_cut : {l l' : List ℕ} {i i' n n' : ℕ} {b b' : Bool} → l ≡ l' → i ≡ i' → n ≡ n' → b ≡ b'
    → cut_with l (record { at = i; size = n; whole = b }) ≡ cut_with l' (record { at = i'; size = n'; whole = b' })
same_cut p q r s = cc

-- a whole line at once, as byte by byte
cut_whole : (most : ℕ) (l : List ℕ) (n i : ℕ) (xs : List ℕ) → length l ≡ most
    → cut_with (kept_of l n (line_in xs)) (record { at = i + length (line_in xs); size = grown most n (length (line_in xs)); whole = has_end xs }) ≡ cut_of most l n i xs
unfolding cut_of line_in has_end
cut_whole most l n i [] e = same_cut (kept_no_more l n) (omega arith) (grown_no_more most n) refl
cut_whole most l n i (x ∷ xs) e = go (eqb x 10) (cut_whole most (set l n x) (one_more most n) (i + 1) xs (length-set l n x ∙ e))
  where
    go : (b : Bool)
        → cut_with (kept_of (set l n x) (one_more most n) (line_in xs)) (record { at = i + 1 + length (line_in xs); size = grown most (one_more most n) (length (line_in xs)); whole = has_end xs })
        ≡ cut_of most (set l n x) (one_more most n) (i + 1) xs
        → cut_with (kept_of l n (x ∷ cond b [] (line_in xs))) (record { at = i + suc (length (cond b [] (line_in xs))); size = grown most n (suc (length (cond b [] (line_in xs)))); whole = cond b true (has_end xs) })
        ≡ cond b (cut_with (set l n x) (record { at = i + 1; size = one_more most n; whole = true })) (cut_of most (set l n x) (one_more most n) (i + 1) xs)
    go true deep =
        same_cut (sym (kept_next most l n x [] e) ∙ kept_no_more (set l n x) _) (omega arith) (sym (grown_next most n 0) ∙ grown_no_more most _) refl
    go false deep =
        same_cut (sym (kept_next most l n x (line_in xs) e)) (omega arith) (sym (grown_next most n (length (line_in xs)))) refl ∙ deep

length_kept : (l : List ℕ) (n : ℕ) (ys : List ℕ) → length (kept_of l n ys) ≡ length l
length_kept l n ys = grind (arith, common_steps)

-- what the code leaves
pub cut_done : (l l' ys xs : List ℕ) (n n' i : ℕ) (b : Bool) → l' ≡ kept_of l n ys → ys ≡ line_in xs → b ≡ has_end xs → n' ≡ grown (length l') n (length ys)
    → cut_with l' (record { at = i + length ys; size = n'; whole = b }) ≡ cut_of (length l) l n i xs
cut_done l l' ys xs n n' i b p q r s =
    rw (s, p, length_kept l n ys, q, r) (cut_whole (length l) l n i xs refl)

-- ---- what a cut means

pub kept_none : (l : List ℕ) → LineHeld (length l) l 0 []
kept_none l = record { room = refl; size = omega arith; front = λ h. refl }

front_kept : (l ys : List ℕ) (n : ℕ) → n + length ys ≤ length l → take (n + length ys) (kept_of l n ys) ≡ take n l ++ ys
front_kept l ys n h = grind (arith, common_steps)

pub kept_more : (most : ℕ) (l ys : List ℕ) (n : ℕ) (h : List ℕ) → LineHeld most l n h → LineHeld most (kept_of l n ys) (grown most n (length ys)) (h ++ ys)
kept_more most l ys n h k = record {
  room = length_kept l n ys ∙ k.room;
  size = grind (arith, nat_tests, length-append h ys, k.size);
  front = λ hn.
      let e : grown most n (length ys) ≡ n + length ys = grind (arith, nat_tests) in
      rw e (front_kept l ys n (omega (arith, k.room)) ∙ ap (λ (a : List ℕ). a ++ ys) (k.front (omega arith)));
}

rest_after : (xs : List ℕ) → drop (length (line_in xs)) xs ≡ rest_in xs
unfolding line_in rest_in
rest_after [] = refl
rest_after (x ∷ xs) = go (eqb x 10) (rest_after xs)
  where
    go : (b : Bool) → drop (length (line_in xs)) xs ≡ rest_in xs → drop (length (cond b [] (line_in xs))) xs ≡ cond b xs (rest_in xs)
    go true e = refl
    go false e = e

pub record Meant (most : ℕ) (chunk h : List ℕ) (i : ℕ) (xs : List ℕ) (r : CutLine) : Type 0 where
  pub kept : LineHeld most r.line r.piece.size (h ++ line_in xs)
  pub whole : r.piece.whole ≡ has_end xs
  pub rest : drop r.piece.at chunk ≡ rest_in xs
  pub on : i + length (line_in xs) ≡ r.piece.at

pub cut_means : (most : ℕ) (chunk xs l : List ℕ) (n i : ℕ) (h : List ℕ) → drop i chunk ≡ xs → LineHeld most l n h → Meant most chunk h i xs (cut_of most l n i xs)
cut_means most chunk xs l n i h d k =
    subst (λ (r : CutLine). Meant most chunk h i xs r) (cut_whole most l n i xs k.room) record {
      kept = kept_more most l (line_in xs) n h k;
      whole = refl;
      rest = sym (drop-drop (length (line_in xs)) i chunk) ∙ ap (λ (l : List ℕ). drop (length (line_in xs)) l) d ∙ rest_after xs;
      on = refl;
    }

-- ---- a cut goes on

-- a cut of a chunk that is not used up goes on
pub line_some : (xs : List ℕ) → 0 < length xs → 0 < length (line_in xs)
unfolding line_in
line_some [] h = absurd (omega arith)
line_some (x ∷ xs) h = omega arith

pub cut_at : (most : ℕ) (xs l : List ℕ) (n i : ℕ) → (cut_of most l n i xs).piece.at ≡ i + length (line_in xs)
unfolding cut_of line_in
cut_at most [] l n i = omega arith
cut_at most (x ∷ xs) l n i = go (eqb x 10) (cut_at most xs (set l n x) (one_more most n) (i + 1))
  where
    go : (b : Bool) → (cut_of most (set l n x) (one_more most n) (i + 1) xs).piece.at ≡ i + 1 + length (line_in xs)
        → (cond b (cut_with (set l n x) (record { at = i + 1; size = one_more most n; whole = true })) (cut_of most (set l n x) (one_more most n) (i + 1) xs)).piece.at ≡ i + length (x ∷ cond b [] (line_in xs))
    go true deep = refl
    go false deep = omega (arith, deep)

-- a cut goes on where there is a byte
pub cut_on : (most : ℕ) (l chunk : List ℕ) (n i : ℕ) → i < length chunk → i < (cut_of most l n i (drop i chunk)).piece.at
cut_on most l chunk n i h =
    let d : length (drop i chunk) ≡ length chunk - i = length-drop i chunk in
    omega (arith, cut_at most (drop i chunk) l n i, line_some (drop i chunk) (omega arith))
