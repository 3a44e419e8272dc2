-- A key put in its place, and the step of a claim. Assumes nothing.
use Prim.Native.Nat.{ℕ, ◌-◌, ◌<◌, ◌≤◌, min}
use mathlib.Core.Path.{◌≡◌, refl, ap, ◌∙◌}
use mathlib.Core.Bool.{Bool, true, false}
use mathlib.Core.List.{List}
use native.Mathlib.Omega.{arith}
use lib.Dec.{ltb}
use lib.ListN.{length, get_or, set, length-set}
use lib.Seq.{get_or-set_same, get_or-set_other, set-get_or}
use borrow.Author.Tests.{ltb-true, ltb-false, lt-ltb, le-leb}
use Rattle.paper.proofs.Tests.{no_way}
use Rattle.walk_keep.specs.declared.sought.Sought.{Sought}
use Rattle.walk_keep.specs.Kept.{Shifted, Pushed, put, late, KeepIs}

module _ (n y : ℕ) (o : List ℕ) where
  pub pushed_put : (p : ℕ) (o₁ : List ℕ) → p < n → (0 < p → get_or o (p - 1) 0 < y) → y < get_or o p 0 → Shifted p n o o₁ → n ≤ length o → Pushed n y o (set o₁ p y)
  pushed_put p o₁ few front last s long =
      put p (length-set o₁ p y ∙ s.long) few front last
      (λ i hi. get_or-set_other o₁ p i y 0 (λ e. omega arith) ∙ s.front i (omega arith))
      (get_or-set_same o₁ p y 0 (omega (arith, s.long)))
      (λ i hi hn. get_or-set_other o₁ p i y 0 (λ e. omega arith) ∙ s.behind i hi hn)

  -- a room of one key
  pub pushed_one : n ≡ 1 → 1 ≤ length o → Pushed n y o (set o 0 (min y (get_or o 0 0)))
  pushed_one e long = go (ltb y (get_or o 0 0)) refl
    where
      go : (u : Bool) → ltb y (get_or o 0 0) ≡ u → Pushed n y o (set o 0 (min y (get_or o 0 0)))
      go true q =
          let l : y < get_or o 0 0 = ltb-true y (get_or o 0 0) q in
          let m : min y (get_or o 0 0) ≡ y = omega arith in
          put 0 (length-set o 0 (min y (get_or o 0 0))) (omega arith) (λ h. absurd (omega arith)) l (λ i h. absurd (omega arith)) (get_or-set_same o 0 _ 0 long ∙ m) (λ i h hn. absurd (omega arith))
      go false q =
          let l : get_or o 0 0 ≤ y = ltb-false y (get_or o 0 0) q in
          let m : min y (get_or o 0 0) ≡ get_or o 0 0 = omega arith in
          let z : n - 1 ≡ 0 = omega arith in
          late (rw z l) (ap (set o 0) m ∙ set-get_or o 0 0)

module _ (sought : Sought) (k y : ℕ) (o : List ℕ) (seen : k < sought.snapshot) (later : sought.low ≤ y) where
  pub keep_pushed : (o' : List ℕ) → Pushed sought.size y o o' → KeepIs sought k y o o'
  keep_pushed o' p =
      let e = lt-ltb k sought.snapshot seen in
      let f = le-leb sought.low y later in
      record { put = λ _. p; left = λ q. absurd (no_way (rw (e, f) at q)) }
