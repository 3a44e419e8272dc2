-- |x - y| of two integers as a number, by their signs. Assumes nothing.
use mathlib.Core.Path.{◌≡◌, refl, ap, ◌∙◌}
use mathlib.Core.Bool.{Bool, true, false, cond}
use Prim.Native.Nat.{ℕ, zero, suc, ◌+◌, ◌-◌, ◌≤◌}
use native.Mathlib.Omega.{arith}
use lib.Dec.{ltb}
use lib.IntN.{ℤ, pos, negsuc, sub_ℕ, ◌-ℤ◌, nat_abs}
use borrow.Author.Tests.{ltb-true, ltb-false}
use mir.Syntax.{w32}
use mir.Val.{SFits, to_z, of_z}
use mir.Facts.{to_z-of_z}

-- ---- the distance of two integers

abbrev pub away : ℤ → ℤ → ℕ
away (pos a) (pos b) = (a - b) + (b - a)
away (pos a) (negsuc b) = a + b + 1
away (negsuc a) (pos b) = a + b + 1
away (negsuc a) (negsuc b) = (a - b) + (b - a)

nat_subℕ : (a b : ℕ) → nat_abs (sub_ℕ a b) ≡ (a - b) + (b - a)
nat_subℕ a b = go (ltb a b) refl
  where
    go : (t : Bool) → ltb a b ≡ t → nat_abs (cond t (negsuc (b - suc a)) (pos (a - b))) ≡ (a - b) + (b - a)
    go true h = omega (arith, ltb-true a b h)
    go false h = omega (arith, ltb-false a b h)

pub abs_away : (x y : ℤ) → nat_abs (x -ℤ y) ≡ away x y
abs_away (pos a) (pos zero) = omega arith
abs_away (pos a) (pos (suc b)) = nat_subℕ a (suc b)
abs_away (pos a) (negsuc b) = omega arith
abs_away (negsuc a) (pos zero) = nat_subℕ 0 (suc a) ∙ omega arith
abs_away (negsuc a) (pos (suc b)) = omega arith
abs_away (negsuc a) (negsuc b) = nat_subℕ (suc b) (suc a) ∙ omega arith

pub away_sym : (x y : ℤ) → away x y ≡ away y x
away_sym (pos a) (pos b) = omega arith
away_sym (pos a) (negsuc b) = omega arith
away_sym (negsuc a) (pos b) = omega arith
away_sym (negsuc a) (negsuc b) = omega arith

pub away_triangle : (x y z : ℤ) → away x z ≤ away x y + away y z
away_triangle (pos a) (pos b) (pos c) = omega arith
away_triangle (pos a) (pos b) (negsuc c) = omega arith
away_triangle (pos a) (negsuc b) (pos c) = omega arith
away_triangle (pos a) (negsuc b) (negsuc c) = omega arith
away_triangle (negsuc a) (pos b) (pos c) = omega arith
away_triangle (negsuc a) (pos b) (negsuc c) = omega arith
away_triangle (negsuc a) (negsuc b) (pos c) = omega arith
away_triangle (negsuc a) (negsuc b) (negsuc c) = omega arith

pub away_bound : (x y : ℤ) → SFits w32 x → SFits w32 y → away x y ≤ 4294967295
away_bound (pos a) (pos b) h k = omega (arith, h.sfits, k.sfits)
away_bound (pos a) (negsuc b) h k = omega (arith, h.sfits, k.sfits)
away_bound (negsuc a) (pos b) h k = omega (arith, h.sfits, k.sfits)
away_bound (negsuc a) (negsuc b) h k = omega (arith, h.sfits, k.sfits)

-- ---- arguments by their bits

-- a signed argument reaches a callee by way of its bits
abbrev pub B : ℤ → ℤ
B z = to_z w32 (of_z w32 z)

pub same_args : {x y : ℤ} {X : Type 0} (f : ℤ → ℤ → X) → SFits w32 x → SFits w32 y → f (B x) (B y) ≡ f x y
same_args {x} {y} f h k = ap (λ (z : ℤ). f z (B y)) (to_z-of_z h) ∙ ap (λ (z : ℤ). f x z) (to_z-of_z k)
