-- What stores do to nodes: a store changes its own field alone, a new node leaves the others as they are, and numbers only grow: a claim or a node
-- below that is there stays, and a far distance never falls. Assumes nothing.
use Prim.Native.Nat.{ℕ, zero, suc, ◌+◌, ◌*◌, ◌<◌, ◌≤◌}
use mathlib.Core.Path.{◌≡◌, refl, sym, ap, ◌∙◌}
use mathlib.Core.Logic.{◌⊎◌, inl, inr, ⊎_elim}
use mathlib.Core.List.{List}
use native.Mathlib.Omega.{arith}
use native.Mathlib.Nat.{le_trans, eq-or-lt_of_le}
use native.Mathlib.Decide.{ℕ_discrete}
use lib.ListN.{length, get_or, length-set}
use lib.Seq.{get_or-set_same, get_or-set_other}
use Rattle.paper.specs.Tree.{field_at, put_field, cleared, new_node}
use Rattle.tree.specs.BuiltNodes.{Inside}

-- ---- nodes that only grow

pub record NodesGrow (used : ℕ) (nodes nodes' : List ℕ) : Type 0 where
  pub held : (m s : ℕ) → m < used → s < 2 → (field_at nodes m s ≡ 0 → ⊥) → field_at nodes' m s ≡ field_at nodes m s
  pub far : (m s : ℕ) → m < used → s < 2 → field_at nodes m (2 + s) ≤ field_at nodes' m (2 + s)
  pub below : (m s : ℕ) → m < used → s < 2 → (field_at nodes m (4 + s) ≡ 0 → ⊥) → field_at nodes' m (4 + s) ≡ field_at nodes m (4 + s)

pub grows_trans : (used : ℕ) (a b c : List ℕ) → NodesGrow used a b → NodesGrow used b c → NodesGrow used a c
grows_trans used a b c g h =
    record {
      held = λ m s hm hs no. let p = g.held m s hm hs no in h.held m s hm hs (λ q. no (sym p ∙ q)) ∙ p;
      far = λ m s hm hs. le_trans (g.far m s hm hs) (h.far m s hm hs);
      below = λ m s hm hs no. let p = g.below m s hm hs no in h.below m s hm hs (λ q. no (sym p ∙ q)) ∙ p;
    }

-- ---- a store

-- a store changes its own field alone
pub put_cases : (nodes : List ℕ) (m f v n g : ℕ) → m * 6 + f < length nodes
    → ((n * 6 + g ≡ m * 6 + f) × (field_at (put_field nodes m f v) n g ≡ v)) ⊎ (field_at (put_field nodes m f v) n g ≡ field_at nodes n g)
put_cases nodes m f v n g h = go (ℕ_discrete (n * 6 + g) (m * 6 + f))
  where
    go : Dec (n * 6 + g ≡ m * 6 + f) → ((n * 6 + g ≡ m * 6 + f) × (field_at (put_field nodes m f v) n g ≡ v)) ⊎ (field_at (put_field nodes m f v) n g ≡ field_at nodes n g)
    go (yes p) = inl (p, rw p (get_or-set_same nodes (m * 6 + f) v 0 h))
    go (no q) = inr (get_or-set_other nodes (m * 6 + f) (n * 6 + g) v 0 q)

-- a store where there was 0, or of a larger far distance, lets the nodes grow
pub grows_put : (used : ℕ) (nodes : List ℕ) (m f v : ℕ) → m * 6 + f < length nodes → f < 6
    → (f < 2 → field_at nodes m f ≡ 0) → (4 ≤ f → field_at nodes m f ≡ 0) → field_at nodes m f ≤ v → NodesGrow used nodes (put_field nodes m f v)
grows_put used nodes m f v h hf zero_held zero-below less =
    record {
      held = λ n s hm hs no. ⊎_elim
          (λ p. absurd (no (ap (λ (i : ℕ). get_or nodes i 0) p.0 ∙ zero_held (omega (arith, p.0)))))
          (λ q. q) (put_cases nodes m f v n s h);
      far = λ n s hm hs. ⊎_elim
          (λ p. omega (arith, p.1, ap (λ (i : ℕ). get_or nodes i 0) p.0))
          (λ q. omega arith) (put_cases nodes m f v n (2 + s) h);
      below = λ n s hm hs no. ⊎_elim
          (λ p. absurd (no (ap (λ (i : ℕ). get_or nodes i 0) p.0 ∙ zero-below (omega (arith, p.0)))))
          (λ q. q) (put_cases nodes m f v n (4 + s) h);
    }

-- ---- a new node

-- clearing keeps the other fields
cleared_other : (nodes : List ℕ) (w g m x : ℕ) → ((y : ℕ) → 0 < y → y ≤ g → m * 6 + x ≡ w * 6 + y → ⊥) → field_at (cleared nodes w g) m x ≡ field_at nodes m x
unfolding cleared
cleared_other nodes w zero m x far = refl
cleared_other nodes w (suc g) m x far =
    get_or-set_other (cleared nodes w g) (w * 6 + suc g) (m * 6 + x) 0 0 (far (suc g) (omega arith) (omega arith))
    ∙ cleared_other nodes w g m x (λ y hz hy. far y hz (omega arith))

cleared_length : (nodes : List ℕ) (w g : ℕ) → length (cleared nodes w g) ≡ length nodes
unfolding cleared
cleared_length nodes w zero = refl
cleared_length nodes w (suc g) = length-set (cleared nodes w g) (w * 6 + suc g) 0 ∙ cleared_length nodes w g

cleared_is : (nodes : List ℕ) (w g x : ℕ) → w * 6 + g < length nodes → 0 < x → x ≤ g → field_at (cleared nodes w g) w x ≡ 0
unfolding cleared
cleared_is nodes w zero x h hz hx = absurd (omega arith)
cleared_is nodes w (suc g) x h hz hx = ⊎_elim
    (λ p. let q : x ≡ suc g = p in rw q (get_or-set_same (cleared nodes w g) (w * 6 + suc g) 0 0 (omega (arith, cleared_length nodes w g))))
    (λ l. get_or-set_other (cleared nodes w g) (w * 6 + suc g) (w * 6 + x) 0 0 (λ q. omega arith) ∙ cleared_is nodes w g x (omega arith) hz (omega arith))
    (eq-or-lt_of_le hx)

-- a new node leaves the others as they are
pub fresh_other : (nodes : List ℕ) (w k m g : ℕ) → (m ≡ w → ⊥) → g < 6 → field_at (new_node nodes w k) m g ≡ field_at nodes m g
unfolding new_node
fresh_other nodes w k m g hm hg =
    cleared_other (put_field nodes w 0 (k + 1)) w 5 m g (λ y hz hy q. omega arith)
    ∙ get_or-set_other nodes (w * 6 + 0) (m * 6 + g) (k + 1) 0 (λ q. omega arith)

pub fresh_length : (nodes : List ℕ) (w k : ℕ) → length (new_node nodes w k) ≡ length nodes
unfolding new_node
fresh_length nodes w k = cleared_length (put_field nodes w 0 (k + 1)) w 5 ∙ length-set nodes (w * 6 + 0) (k + 1)

pub fresh_left : (nodes : List ℕ) (w k : ℕ) → Inside nodes w → field_at (new_node nodes w k) w 0 ≡ k + 1
unfolding new_node
fresh_left nodes w k h =
    cleared_other (put_field nodes w 0 (k + 1)) w 5 w 0 (λ y hz hy q. omega arith) ∙ get_or-set_same nodes (w * 6 + 0) (k + 1) 0 (omega arith)

pub fresh_rest : (nodes : List ℕ) (w k g : ℕ) → Inside nodes w → 0 < g → g < 6 → field_at (new_node nodes w k) w g ≡ 0
unfolding new_node
fresh_rest nodes w k g h hz hg = cleared_is (put_field nodes w 0 (k + 1)) w 5 g (omega (arith, length-set nodes (w * 6 + 0) (k + 1))) hz (omega arith)

pub fresh_small : (nodes : List ℕ) (w k g : ℕ) → Inside nodes w → g < 6 → field_at (new_node nodes w k) w g ≤ k + 1
fresh_small nodes w k zero h hg = let p = fresh_left nodes w k h in omega arith
fresh_small nodes w k (suc g) h hg = let p = fresh_rest nodes w k (suc g) h (omega arith) hg in omega arith

pub grows_fresh : (used : ℕ) (nodes : List ℕ) (k : ℕ) → NodesGrow used nodes (new_node nodes used k)
grows_fresh used nodes k =
    record {
      held = λ m s hm hs no. fresh_other nodes used k m s (λ q. omega arith) (omega arith);
      far = λ m s hm hs. let p = fresh_other nodes used k m (2 + s) (λ q. omega arith) (omega arith) in omega arith;
      below = λ m s hm hs no. fresh_other nodes used k m (4 + s) (λ q. omega arith) (omega arith);
    }
