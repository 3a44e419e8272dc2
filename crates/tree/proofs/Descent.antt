-- Entering goes down from node to node: what holds where it ends, and at a node where it holds below, holds wherever entering begins.
-- Assumes nothing.
use Prim.Native.Nat.{ℕ, zero, suc, ◌+◌, ◌-◌, ◌*◌, ◌<◌, ◌≤◌}
use mathlib.Core.Path.{◌≡◌, refl}
use mathlib.Core.List.{List}
use native.Mathlib.Omega.{arith}
use lib.ListN.{length}
use Rattle.paper.specs.Tree.{Grown, grown, field_at, put_field, new_node, near_side, raise, entered_from}
use Rattle.tree.specs.BuiltNodes.{Linked}
use Rattle.tree.proofs.OneEntering.{still_linked, raise_length, side_small, entered_stop, entered_new, entered_down}

-- P f m nodes out: claim k, entered from node m with at most f nodes still to go through, makes `out` of the nodes
module _ (e : ℕ → ℕ → ℕ) (used k : ℕ) (P : ℕ → ℕ → List ℕ → Grown → Type 0) where
  -- the three ways through a node
  pub record Descends : Type 0 where
    pub stop : (f m : ℕ) (nodes : List ℕ) → m < used → used * 6 + 6 ≤ length nodes → Linked nodes used k → field_at nodes m 1 ≡ 0
        → P (suc f) m nodes (grown (put_field nodes m 1 (k + 1)) used)
    pub new : (f m : ℕ) (nodes : List ℕ) → m < used → used * 6 + 6 ≤ length nodes → Linked nodes used k → (field_at nodes m 1 ≡ 0 → ⊥)
        → field_at nodes m (4 + near_side e nodes m k) ≡ 0
        → P (suc f) m nodes (grown (new_node (put_field (raise e nodes m (near_side e nodes m k) k) m (4 + near_side e nodes m k) (used + 1)) used k) (used + 1))
    pub down : (f m w : ℕ) (nodes : List ℕ) (out : Grown) → m < used → used * 6 + 6 ≤ length nodes → Linked nodes used k → (field_at nodes m 1 ≡ 0 → ⊥)
        → field_at nodes m (4 + near_side e nodes m k) ≡ w + 1 → P f w (raise e nodes m (near_side e nodes m k) k) out → P (suc f) m nodes out

  pub descend : Descends → (f m : ℕ) (nodes : List ℕ) → m < used → used ≤ m + f → used * 6 + 6 ≤ length nodes → Linked nodes used k
      → P f m nodes (entered_from f e used k m nodes)
  unfolding Linked
  descend d zero m nodes hm en room lk = absurd (omega arith)
  descend d (suc f) m nodes hm en room lk =
      right (field_at nodes m 1) refl
      (λ w hw up. descend d f w nodes₁ hw up (rw (raise_length e nodes m k s) room) (still_linked e nodes m k s used k hs lk))
    where
      s : ℕ
      s = near_side e nodes m k

      hs : s < 2
      hs = side_small e nodes m k

      nodes₁ : List ℕ
      nodes₁ = raise e nodes m s k

      below : (x : ℕ) → field_at nodes m (4 + s) ≡ x → (field_at nodes m 1 ≡ 0 → ⊥)
          → ((w : ℕ) → w < used → used ≤ w + f → P f w nodes₁ (entered_from f e used k w nodes₁)) → P (suc f) m nodes (entered_from (suc f) e used k m nodes)
      below zero p no1 deep = rw (entered_new f e used k m nodes no1 p) (d.new f m nodes hm room lk no1 p)
      below (suc w) p no1 deep =
          let q : field_at nodes m (4 + s) ≡ w + 1 = omega arith in
          let v : field_at nodes m (4 + s) - 1 ≡ w = omega arith in
          let no4 : field_at nodes m (4 + s) ≡ 0 → ⊥ = λ z. omega arith in
          rw (entered_down f e used k m nodes no1 no4, v)
          (d.down f m w nodes _ hm room lk no1 q (deep w (omega (arith, (lk m hm).leads s hs)) (omega (arith, (lk m hm).rises s hs no4))))

      right : (x : ℕ) → field_at nodes m 1 ≡ x → ((w : ℕ) → w < used → used ≤ w + f → P f w nodes₁ (entered_from f e used k w nodes₁))
          → P (suc f) m nodes (entered_from (suc f) e used k m nodes)
      right zero p deep = rw (entered_stop f e used k m nodes p) (d.stop f m nodes hm room lk p)
      right (suc x) p deep = below (field_at nodes m (4 + s)) refl (λ z. omega arith) deep
