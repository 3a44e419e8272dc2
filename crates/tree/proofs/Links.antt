-- The links of nodes stay right where a claim is stored on the right, and where there is a new node below a side. Assumes nothing.
use Prim.Native.Nat.{ℕ, ◌+◌, ◌*◌, ◌<◌, ◌≤◌}
use mathlib.Core.Path.{◌≡◌, ◌∙◌}
use mathlib.Core.Logic.{◌⊎◌, inl, inr, ⊎_elim}
use mathlib.Core.List.{List}
use native.Mathlib.Omega.{arith}
use native.Mathlib.Nat.{eq-or-lt_of_le}
use lib.ListN.{length, length-set}
use lib.Dec.{lit<}
use Rattle.paper.specs.Tree.{field_at, put_field, new_node}
use Rattle.tree.specs.BuiltNodes.{Inside, NodeOk, Linked}
use Rattle.tree.proofs.OneEntering.{other}
use Rattle.tree.proofs.Stores.{put_cases, fresh_other, fresh_left, fresh_rest, fresh_small}

-- a claim stored on the right keeps them
pub linked_right : (nodes : List ℕ) (used k m : ℕ) → m * 6 + 1 < length nodes → Linked nodes used k → Linked (put_field nodes m 1 (k + 1)) used (k + 1)
unfolding Linked
linked_right nodes used k m h lk w hw =
    let keep : (g : ℕ) → g < 6 → (1 ≡ g → ⊥) → field_at (put_field nodes m 1 (k + 1)) w g ≡ field_at nodes w g =
    λ g hg ne. other nodes m 1 (k + 1) w g (lit< tt) hg ne in
    record {
      left = rw (keep 0 (lit< tt) (λ q. omega arith)) (lk w hw).left;
      stored = λ s hs. ⊎_elim (λ p. omega (arith, p.1)) (λ q. omega (arith, q, (lk w hw).stored s hs)) (put_cases nodes m 1 (k + 1) w s h);
      rises = λ s hs ne. rw (keep (4 + s) (omega arith) (λ q. omega arith)) ((lk w hw).rises s hs (λ q. ne (keep (4 + s) (omega arith) (λ q. omega arith) ∙ q)));
      leads = λ s hs. rw (keep (4 + s) (omega arith) (λ q. omega arith)) ((lk w hw).leads s hs);
    }

-- so does a new node below a side
pub linked_new : (nodes : List ℕ) (used k m s : ℕ) → m < used → s < 2 → used * 6 + 6 ≤ length nodes → Linked nodes used k
    → Linked (new_node (put_field nodes m (4 + s) (used + 1)) used k) (used + 1) (k + 1)
unfolding Linked
linked_new nodes used k m s hm hs room lk w hw = ⊎_elim at_new at_old (eq-or-lt_of_le (omega arith))
  where
    nodes₂ : List ℕ
    nodes₂ = put_field nodes m (4 + s) (used + 1)

    in_nodes₂ : Inside nodes₂ used
    in_nodes₂ = simp length-set (omega arith)

    at_new : w ≡ used → NodeOk (new_node nodes₂ used k) (used + 1) (k + 1) w
    at_new e = rw e (record {
      left = let p = fresh_left nodes₂ used k in_nodes₂ in omega arith;
      stored = λ z hz. fresh_small nodes₂ used k z in_nodes₂ (omega arith);
      rises = λ z hz ne. absurd (ne (fresh_rest nodes₂ used k (4 + z) in_nodes₂ (omega arith) (omega arith)));
      leads = λ z hz. let p = fresh_rest nodes₂ used k (4 + z) in_nodes₂ (omega arith) (omega arith) in omega arith;
    })

    at_old : w < used → NodeOk (new_node nodes₂ used k) (used + 1) (k + 1) w
    at_old h =
        let keep : (g : ℕ) → g < 6 → (4 + s ≡ g → ⊥) → field_at (new_node nodes₂ used k) w g ≡ field_at nodes w g =
        λ g hg ne. fresh_other nodes₂ used k w g (λ q. omega arith) hg ∙ other nodes m (4 + s) (used + 1) w g (omega arith) hg ne in
        let cases : (z : ℕ) → z < 2 → ((w * 6 + (4 + z) ≡ m * 6 + (4 + s)) × (field_at (new_node nodes₂ used k) w (4 + z) ≡ used + 1)) ⊎ (field_at (new_node nodes₂ used k) w (4 + z) ≡ field_at nodes w (4 + z)) =
        λ z hz. ⊎_elim (λ p. inl (p.0, fresh_other nodes₂ used k w (4 + z) (λ q. omega arith) (omega arith) ∙ p.1)) (λ q. inr (fresh_other nodes₂ used k w (4 + z) (λ q. omega arith) (omega arith) ∙ q))
        (put_cases nodes m (4 + s) (used + 1) w (4 + z) (omega arith)) in
        record {
          left = rw (keep 0 (lit< tt) (λ q. omega arith)) (lk w h).left;
          stored = λ z hz. let p = keep z (omega arith) (λ q. omega arith) in omega (arith, (lk w h).stored z hz);
          rises = λ z hz ne. ⊎_elim (λ p. omega (arith, p.0, p.1)) (λ q. omega (arith, q, (lk w h).rises z hz (λ y. ne (q ∙ y)))) (cases z hz);
          leads = λ z hz. ⊎_elim (λ p. omega (arith, p.1)) (λ q. omega (arith, q, (lk w h).leads z hz)) (cases z hz);
        }
