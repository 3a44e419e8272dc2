-- Laws of tests: what holds where a chain of them passes, and when two are equal. Assumes nothing.
use Prim.Native.Nat.{ℕ}
use mathlib.Core.Path.{◌≡◌, refl, sym, ◌∙◌}
use mathlib.Core.Bool.{Bool, true, false, ◌&&◌, ◌||◌, not}
use native.Mathlib.Omega.{arith}

pub no_way : true ≡ false → ⊥
no_way z = let y : ◌≡◌ {A = ℕ} 0 1 = cc in omega arith

pub never : (b : Bool) → b ≡ true → b ≡ false → ⊥
never b p q = no_way (sym p ∙ q)

pub and_first : (a b : Bool) → (a && b) ≡ true → a ≡ true
and_first true b p = refl
and_first false b p = p

pub and_second : (a b : Bool) → (a && b) ≡ true → b ≡ true
and_second true b p = p
and_second false b p = absurd (no_way (sym p))

pub and_both : (a b : Bool) → a ≡ true → b ≡ true → (a && b) ≡ true
and_both true b p q = q
and_both false b p q = p

pub or_right : (a b : Bool) → b ≡ true → (a || b) ≡ true
or_right true b p = refl
or_right false b p = p

pub or_left : (a b : Bool) → (a || b) ≡ true → b ≡ false → a ≡ true
or_left true b p q = refl
or_left false b p q = absurd (never b p q)

pub false_not : (b : Bool) → b ≡ false → not b ≡ true
false_not b p = rw p

-- a test that cannot pass
pub refuted : (b : Bool) → (b ≡ true → ⊥) → b ≡ false
refuted true h = absurd (h refl)
refuted false h = refl

-- two tests that pass together
pub alike : (a b : Bool) → (a ≡ true → b ≡ true) → (b ≡ true → a ≡ true) → a ≡ b
alike true true p q = refl
alike true false p q = absurd (no_way (sym (p refl)))
alike false true p q = absurd (no_way (sym (q refl)))
alike false false p q = refl
