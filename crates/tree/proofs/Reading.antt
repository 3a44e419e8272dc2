-- What the numbers of a side say of the claims under it. Assumes nothing.
use Prim.Native.Nat.{ℕ, ◌+◌, ◌-◌, ◌<◌}
use mathlib.Core.Path.{◌≡◌}
use mathlib.Core.List.{List}
use native.Mathlib.Omega.{arith}
use Rattle.paper.specs.Tree.{field_at}
use Rattle.tree.specs.BuiltNodes.{Linked, Under, here, deeper, Searchable}

module _ (nodes : List ℕ) (e : ℕ → ℕ → ℕ) (m s : ℕ) where
  pub not_free : (j : ℕ) → Under nodes e m s j → field_at nodes m s ≡ 0 → ⊥
  not_free j (here p) z = omega arith
  not_free j (deeper k x w y p q f g t r h u) z = omega arith

  -- a claim under a side with nothing below is the side's
  pub only : (k j : ℕ) → field_at nodes m s ≡ k + 1 → field_at nodes m (4 + s) ≡ 0 → Under nodes e m s j → j ≡ k
  only k j at0 at4 (here p) = omega arith
  only k j at0 at4 (deeper l x w y p q f g t r h u) = absurd (omega arith)

-- a claim on a side is stored
pub stored_here : (nodes : List ℕ) (used n m s : ℕ) → Searchable nodes used n m → s < 2 → (field_at nodes m s ≡ 0 → ⊥) → field_at nodes m s - 1 < n
unfolding Linked
stored_here nodes used n m s h hs no0 = omega (arith, (h.linked m h.in_use).stored s hs)

-- the node below a side lies above
pub rises_here : (nodes : List ℕ) (used n m s : ℕ) → Searchable nodes used n m → s < 2 → (field_at nodes m (4 + s) ≡ 0 → ⊥) → m < field_at nodes m (4 + s) - 1
unfolding Linked
rises_here nodes used n m s h hs no4 = omega (arith, (h.linked m h.in_use).rises s hs no4)

-- and can be searched
pub next_here : (nodes : List ℕ) (used n m s : ℕ) → Searchable nodes used n m → s < 2 → (field_at nodes m (4 + s) ≡ 0 → ⊥)
    → Searchable nodes used n (field_at nodes m (4 + s) - 1)
unfolding Linked
next_here nodes used n m s h hs no4 =
    record { linked = h.linked; room = h.room; in_use = omega (arith, (h.linked m h.in_use).leads s hs) }
