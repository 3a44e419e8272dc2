-- The first line of a buffer: how long it is, and that a search finds its end. Assumes nothing.
use Prim.Native.Nat.{ℕ, suc, ◌+◌, ◌-◌, ◌<◌, ◌≤◌}
use mathlib.Core.Path.{◌≡◌, refl, ap, ◌∙◌}
use mathlib.Core.Bool.{Bool, true, false, cond}
use mathlib.Core.List.{List, [], ◌∷◌}
use native.Mathlib.Omega.{arith}
use Rattle.std.specs.List.{position, position_or_len}
use Rattle.std.proofs.Common.{Option, Some, None, MatchOption, ◌==◌, nat_lt, not, min}
use Rattle.std.proofs.lemmas.Slice.{between_to_end}
use Rattle.std.proofs.lemmas.Bool.Decides.{nat_tests}
use lib.Dec.{eqb}
use lib.ListN.{length, take, drop, length-drop}
use Rattle.nearby_batch.specs.Batch.{cut_at}

-- ---- how long it is

cut_until : (xs : List ℕ) → min (position_or_len (λ b. b == 10) xs + 1) (length xs) ≡ cut_at xs
unfolding cut_at
cut_until [] = refl
cut_until (x ∷ xs) = go (x == 10) (cut_until xs)
  where
    go : (b : Bool) → min (position_or_len (λ b. b == 10) xs + 1) (length xs) ≡ cut_at xs
        → min (cond (not b) (1 + position_or_len (λ b. b == 10) xs) 0 + 1) (suc (length xs)) ≡ cond b 1 (suc (cut_at xs))
    go true e = grind (arith, nat_tests)
    go false e = grind (arith, nat_tests)

-- what a search for the first end tells of it
cut_found : (xs : List ℕ) (k : Option ℕ) → k ≡ position (λ b. b == 10) xs → MatchOption k (length xs ≡ cut_at xs) (λ k. k + 1 ≡ cut_at xs)
cut_found xs k e = rw e (go (nat_lt (position_or_len (λ b. b == 10) xs) (length xs)) refl)
  where
    go : (b : Bool) → nat_lt (position_or_len (λ b. b == 10) xs) (length xs) ≡ b
        → MatchOption (cond b (Some (position_or_len (λ b. b == 10) xs)) None) (length xs ≡ cut_at xs) (λ k. k + 1 ≡ cut_at xs)
    go true h = grind (arith, nat_tests, cut_until xs)
    go false h = grind (arith, nat_tests, cut_until xs)

pub line_found : (asks : List ℕ) (at : ℕ) → at < length asks → (k : Option ℕ) → k ≡ position (λ b. b == 10) (take (length asks - at) (drop at asks))
    → MatchOption k (length asks ≡ at + cut_at (drop at asks)) (λ k. at + k + 1 ≡ at + cut_at (drop at asks))
line_found asks at h k e = go k (cut_found (drop at asks) k (e ∙ ap (λ l. position (λ b. b == 10) l) (between_to_end asks at (length asks) (omega arith))))
  where
    go : (k : Option ℕ) → MatchOption k (length (drop at asks) ≡ cut_at (drop at asks)) (λ k. k + 1 ≡ cut_at (drop at asks))
        → MatchOption k (length asks ≡ at + cut_at (drop at asks)) (λ k. at + k + 1 ≡ at + cut_at (drop at asks))
    go None m = omega (arith, m, length-drop at asks)
    go (Some k) m = omega (arith, m)

cut_one : (b : Bool) (n : ℕ) → 0 < cond b 1 (suc n)
cut_one true n = omega arith
cut_one false n = omega arith

cut_within : (b : Bool) (m n : ℕ) → m ≤ n → cond b 1 (suc m) ≤ suc n
cut_within true m n h = omega arith
cut_within false m n h = omega arith

cut_some : (l : List ℕ) → 0 < length l → 0 < cut_at l
unfolding cut_at
cut_some [] h = absurd (omega arith)
cut_some (x ∷ l) h = cut_one (eqb x 10) (cut_at l)

pub cut_short : (l : List ℕ) → cut_at l ≤ length l
unfolding cut_at
cut_short [] = omega arith
cut_short (x ∷ l) = cut_within (eqb x 10) (cut_at l) (length l) (cut_short l)

-- a line has a byte, and ends in the buffer
module _ (asks : List ℕ) (at : ℕ) (h : at < length asks) where
  pub cut_on : at < at + cut_at (drop at asks)
  cut_on = let m = length-drop at asks in let n = cut_some (drop at asks) (omega arith) in omega arith

  pub cut_inside : at + cut_at (drop at asks) ≤ length asks
  cut_inside = let m = length-drop at asks in let n = cut_short (drop at asks) in omega arith
