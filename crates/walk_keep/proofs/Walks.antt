-- Laws of walks: nothing done, one walk after the other, fewer claims. Assumes nothing.
use Prim.Native.Nat.{ℕ}
use mathlib.Core.Path.{◌≡◌}
use mathlib.Core.Logic.{◌⊎◌}
use mathlib.Core.Bool.{true}
use mathlib.Core.List.{List}
use Rattle.walk_keep.specs.declared.asked.Asked.{Asked}
use Rattle.walk_keep.specs.Page.{ranks}
use Rattle.walk_keep.specs.Kept.{Covered, ok_by, Holding, Walked}
use Rattle.walk_keep.proofs.Keeping.{still, then, fewer}

module _ (ask : Asked) (dist : ℕ → ℕ) where
  pub walked_still : (C : ℕ → Type 0) (o : List ℕ)
      → ((l : List ℕ) → Holding ask dist o l → (j : ℕ) → C j → ok_by ask dist j ≡ true → Covered (ranks ask.order dist) j ask.sought.size l) → Walked ask dist C o o
  walked_still C o f l g =
      record { kept = l; holds = g; is = still (ranks ask.order dist) (ok_by ask dist) ask.sought.snapshot ask.sought.size C l g.rising (f l g) }

  pub walked_then : (C C₁ C₂ : ℕ → Type 0) (o o₁ o₂ : List ℕ) → Walked ask dist C₁ o o₁ → Walked ask dist C₂ o₁ o₂ → ((j : ℕ) → C j → C₁ j ⊎ C₂ j) → Walked ask dist C o o₂
  walked_then C C₁ C₂ o o₁ o₂ w₁ w₂ split l g =
      let t₁ = w₁ l g in
      let t₂ = w₂ t₁.kept t₁.holds in
      record { kept = t₂.kept; holds = t₂.holds; is = then (ranks ask.order dist) (ok_by ask dist) ask.sought.snapshot ask.sought.size C C₁ C₂ l _ _ t₁.is t₂.is split }

  pub walked_fewer : (C D : ℕ → Type 0) (o o' : List ℕ) → ((j : ℕ) → C j → D j) → Walked ask dist D o o' → Walked ask dist C o o'
  walked_fewer C D o o' h w l g =
      let t = w l g in
      record { kept = t.kept; holds = t.holds; is = fewer (ranks ask.order dist) (ok_by ask dist) ask.sought.snapshot ask.sought.size C D l _ h t.is }
