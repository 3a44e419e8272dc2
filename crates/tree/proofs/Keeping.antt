-- Entering a claim keeps the nodes a neartree, and adds the claim. Assumes nothing.
use Prim.Native.Nat.{ℕ, zero, suc, ◌+◌, ◌-◌, ◌*◌, ◌<◌, ◌≤◌, max}
use mathlib.Core.Path.{◌≡◌, refl, sym, ap, ◌∙◌}
use mathlib.Core.Logic.{⊎_elim}
use mathlib.Core.List.{List}
use native.Mathlib.Omega.{arith}
use native.Mathlib.Nat.{le_trans, le_refl, eq-or-lt_of_le}
use lib.ListN.{length, length-set}
use lib.Dec.{lit<, leb}
use mathlib.Core.Bool.{Bool, true, false, cond}
use borrow.Author.Tests.{leb-true, leb-false}
use lib.Seq.{get_or-set_same}
use Rattle.paper.specs.Tree.{Grown, grown, field_at, put_field, side_claim, new_node, near_side, raise, entered_from, entered}
use Rattle.paper.specs.Limits.{most_claims}
use Rattle.paper.proofs.FreeNodes.{takes_one}
use Rattle.tree.specs.BuiltNodes.{Inside, Linked, Under, here, deeper, Holds, Neartree}
use Rattle.tree.proofs.OneEntering.{other, still_linked, raise_length, side_small}
use Rattle.tree.proofs.Stores.{NodesGrow, grows_trans, grows_put, fresh_length, fresh_left, fresh_rest, fresh_small, grows_fresh}
use Rattle.tree.proofs.Links.{linked_right, linked_new}
use Rattle.tree.proofs.Descent.{descend}

-- ---- what is under a side

-- where both sides have a claim, the right one has
right_taken : (nodes : List ℕ) (m s k o : ℕ) → s < 2 → field_at nodes m s ≡ k + 1 → field_at nodes m (1 - s) ≡ o + 1 → field_at nodes m 1 ≡ 0 → ⊥
right_taken nodes m zero k o hs p q z = omega arith
right_taken nodes m (suc zero) k o hs p q z = omega arith
right_taken nodes m (suc (suc s)) k o hs p q z = omega arith

-- so what is numbered above both sides stays so
later_grows : (used : ℕ) (nodes nodes' : List ℕ) → NodesGrow used nodes nodes' → (m s k o j : ℕ) → m < used → s < 2
    → field_at nodes m s ≡ k + 1 → field_at nodes m (1 - s) ≡ o + 1 → field_at nodes m 1 ≤ j → field_at nodes' m 1 ≤ j
later_grows used nodes nodes' g m s k o j hm hs p q later = rw (g.held m 1 hm (lit< tt) (right_taken nodes m s k o hs p q)) later

-- what is under a side stays there
pub under_grows : (used n : ℕ) (e : ℕ → ℕ → ℕ) (nodes nodes' : List ℕ) → Linked nodes used n → NodesGrow used nodes nodes'
    → (m s j : ℕ) → m < used → s < 2 → Under nodes e m s j → Under nodes' e m s j
unfolding Linked
under_grows used n e nodes nodes' lk g m s j hm hs (here p) = here (g.held m s hm hs (λ q. omega arith) ∙ p)
under_grows used n e nodes nodes' lk g m s j hm hs (deeper k o w z p q p' near later r hz u) =
    deeper k o w z (g.held m s hm hs (λ q. omega arith) ∙ p) (le_trans q (g.far m s hm hs)) (g.held m (1 - s) hm (omega arith) (λ q. omega arith) ∙ p') near
    (later_grows used nodes nodes' g m s k o j hm hs p p' later) (g.below m s hm hs (λ q. omega arith) ∙ r) hz
    (under_grows used n e nodes nodes' lk g w z j (omega (arith, (lk m hm).leads s hs)) hz u)

-- what the node below a side holds, the node above holds too, if the side's far distance reaches it
above_holds : (used : ℕ) (e : ℕ → ℕ → ℕ) (nodes nodes' : List ℕ) → NodesGrow used nodes nodes' → (m s c o w j : ℕ) → m < used → s < 2
    → field_at nodes m s ≡ c + 1 → e c j ≤ field_at nodes m (2 + s) → field_at nodes m (1 - s) ≡ o + 1 → e c j + s ≤ e o j → field_at nodes m 1 ≤ j → field_at nodes m (4 + s) ≡ w + 1 → Holds nodes' e w j → Holds nodes' e m j
above_holds used e nodes nodes' g m s c o w j hm hs p q p' near later r h =
    record {
      side = s;
      which = hs;
      under = deeper c o w h.side (g.held m s hm hs (λ q. omega arith) ∙ p) (le_trans q (g.far m s hm hs))
          (g.held m (1 - s) hm (omega arith) (λ q. omega arith) ∙ p') near (later_grows used nodes nodes' g m s c o j hm hs p p' later)
          (g.below m s hm hs (λ q. omega arith) ∙ r) h.which h.under;
    }

-- ---- a far distance raised

module _ (e : ℕ → ℕ → ℕ) (nodes : List ℕ) (m s k : ℕ) (hs : s < 2) (in_m : Inside nodes m) where
  raise_grows : (used : ℕ) → NodesGrow used nodes (raise e nodes m s k)
  unfolding raise
  raise_grows used =
      grows_put used nodes m (2 + s) (max (field_at nodes m (2 + s)) (e (side_claim nodes m s) k)) (omega arith) (omega arith)
      (λ h. absurd (omega arith)) (λ h. absurd (omega arith)) (omega arith)

  raise_keeps : (g : ℕ) → g < 6 → (2 + s ≡ g → ⊥) → field_at (raise e nodes m s k) m g ≡ field_at nodes m g
  unfolding raise
  raise_keeps g hg ne = other nodes m (2 + s) _ m g (omega arith) hg ne

  raise_reaches : (c : ℕ) → field_at nodes m s ≡ c + 1 → e c k ≤ field_at (raise e nodes m s k) m (2 + s)
  unfolding raise
  raise_reaches c p =
      let q : side_claim nodes m s ≡ c = omega arith in
      let v : ℕ = max (field_at nodes m (2 + s)) (e (side_claim nodes m s) k) in
      let at : field_at (put_field nodes m (2 + s) v) m (2 + s) ≡ v = get_or-set_same nodes (m * 6 + (2 + s)) v 0 (omega arith) in
      let r : e (side_claim nodes m s) k ≡ e c k = ap (λ (x : ℕ). e x k) q in
      omega arith

-- ---- the nearer side

-- the side that claim k goes below is the nearer
side_near : (e : ℕ → ℕ → ℕ) (nodes : List ℕ) (m k : ℕ) → e (side_claim nodes m (near_side e nodes m k)) k + near_side e nodes m k ≤ e (side_claim nodes m (1 - near_side e nodes m k)) k
unfolding near_side
side_near e nodes m k = go (leb (e (side_claim nodes m 0) k) (e (side_claim nodes m 1) k)) refl
  where
    go : (u : Bool) → leb (e (side_claim nodes m 0) k) (e (side_claim nodes m 1) k) ≡ u → e (side_claim nodes m (cond u 0 1)) k + cond u 0 1 ≤ e (side_claim nodes m (1 - cond u 0 1)) k
    go true p = omega (arith, leb-true (e (side_claim nodes m 0) k) (e (side_claim nodes m 1) k) p)
    go false p = omega (arith, leb-false (e (side_claim nodes m 0) k) (e (side_claim nodes m 1) k) p)

-- ---- entering from a node

-- what entering claim k from node m leaves
pub record EnteredFrom (e : ℕ → ℕ → ℕ) (used k m : ℕ) (nodes : List ℕ) (out : Grown) : Type 0 where
  pub grows : NodesGrow used nodes out.nodes
  pub linked : Linked out.nodes out.used (k + 1)
  pub holds : Holds out.nodes e m k
  pub long : length out.nodes ≡ length nodes
  pub more : used ≤ out.used

-- the three ways through a node
module _ (e : ℕ → ℕ → ℕ) (used k m : ℕ) (nodes : List ℕ) (hm : m < used) (room : used * 6 + 6 ≤ length nodes) (lk : Linked nodes used k) where
  stop : field_at nodes m 1 ≡ 0 → EnteredFrom e used k m nodes (grown (put_field nodes m 1 (k + 1)) used)
  stop p =
      record {
        grows = grows_put used nodes m 1 (k + 1) (omega arith) (lit< tt) (λ h. p) (λ h. absurd (omega arith)) (omega arith);
        linked = linked_right nodes used k m (omega arith) lk;
        holds = record { side = 1; which = lit< tt; under = here (get_or-set_same nodes (m * 6 + 1) (k + 1) 0 (omega arith)) };
        long = length-set nodes (m * 6 + 1) (k + 1);
        more = le_refl used;
      }

  -- side s of a node has a claim
  claimed : (s : ℕ) → s < 2 → (field_at nodes m 1 ≡ 0 → ⊥) → field_at nodes m s ≡ side_claim nodes m s + 1
  unfolding Linked
  claimed zero hs no1 = omega (arith, (lk m hm).left)
  claimed (suc zero) hs no1 = omega arith
  claimed (suc (suc s)) hs no1 = absurd (omega arith)

  -- claim k is numbered above the right claim
  above_right : field_at nodes m 1 ≤ k
  unfolding Linked
  above_right = (lk m hm).stored 1 (lit< tt)

  module _ (s : ℕ) (hs : s < 2) (no1 : field_at nodes m 1 ≡ 0 → ⊥) (near : e (side_claim nodes m s) k + s ≤ e (side_claim nodes m (1 - s)) k) where
    in_m : Inside nodes m
    in_m = omega arith

    right_kept : field_at (raise e nodes m s k) m 1 ≡ field_at nodes m 1
    right_kept = raise_keeps e nodes m s k hs in_m 1 (lit< tt) (λ q. omega arith)

    new : field_at nodes m (4 + s) ≡ 0
        → EnteredFrom e used k m nodes (grown (new_node (put_field (raise e nodes m s k) m (4 + s) (used + 1)) used k) (used + 1))
    new z =
        let nodes₁ : List ℕ = raise e nodes m s k in
        let nodes₂ : List ℕ = put_field nodes₁ m (4 + s) (used + 1) in
        let len₁ : length nodes₁ ≡ length nodes = raise_length e nodes m k s in
        let len₂ : length nodes₂ ≡ length nodes₁ = length-set nodes₁ (m * 6 + (4 + s)) (used + 1) in
        let z₁ : field_at nodes₁ m (4 + s) ≡ 0 = raise_keeps e nodes m s k hs in_m (4 + s) (omega arith) (λ q. omega arith) ∙ z in
        let g₂ : NodesGrow used nodes₁ nodes₂ = grows_put used nodes₁ m (4 + s) (used + 1) (omega arith) (omega arith) (λ h. absurd (omega arith)) (λ h. z₁) (omega arith) in
        let g₃ : NodesGrow used nodes₂ (new_node nodes₂ used k) = grows_fresh used nodes₂ k in
        let c : ℕ = side_claim nodes m s in
        let held₁' : field_at nodes₁ m (1 - s) ≡ side_claim nodes m (1 - s) + 1 = raise_keeps e nodes m s k hs in_m (1 - s) (omega arith) (λ q. omega arith) ∙ claimed (1 - s) (omega arith) no1 in
        let held₁ : field_at nodes₁ m s ≡ c + 1 = raise_keeps e nodes m s k hs in_m s (omega arith) (λ q. omega arith) ∙ claimed s hs no1 in
        record {
          grows = grows_trans used nodes nodes₁ _ (raise_grows e nodes m s k hs in_m used) (grows_trans used nodes₁ nodes₂ _ g₂ g₃);
          linked = linked_new nodes₁ used k m s hm hs (omega arith) (still_linked e nodes m k s used k hs lk);
          holds = above_holds used e nodes₂ (new_node nodes₂ used k) g₃ m s c _ used k hm hs
              (g₂.held m s hm hs (λ q. omega arith) ∙ held₁)
              (le_trans (raise_reaches e nodes m s k hs in_m c (claimed s hs no1)) (g₂.far m s hm hs))
              (g₂.held m (1 - s) hm (omega arith) (λ q. omega arith) ∙ held₁') near
              (rw (g₂.held m 1 hm (lit< tt) (λ q. no1 (sym right_kept ∙ q)), right_kept) above_right)
              (get_or-set_same nodes₁ (m * 6 + (4 + s)) (used + 1) 0 (omega arith))
              (record { side = 0; which = lit< tt; under = here (fresh_left nodes₂ used k (omega arith)) });
          long = fresh_length nodes₂ used k ∙ len₂ ∙ len₁;
          more = omega arith;
        }

    down : (w : ℕ) (out : Grown) → field_at nodes m (4 + s) ≡ w + 1 → EnteredFrom e used k w (raise e nodes m s k) out → EnteredFrom e used k m nodes out
    down w out r deep =
        let nodes₁ : List ℕ = raise e nodes m s k in
        let c : ℕ = side_claim nodes m s in
        record {
          grows = grows_trans used nodes nodes₁ _ (raise_grows e nodes m s k hs in_m used) deep.grows;
          linked = deep.linked;
          holds = above_holds used e nodes₁ out.nodes deep.grows m s c _ w k hm hs
              (raise_keeps e nodes m s k hs in_m s (omega arith) (λ q. omega arith) ∙ claimed s hs no1)
              (raise_reaches e nodes m s k hs in_m c (claimed s hs no1))
              (raise_keeps e nodes m s k hs in_m (1 - s) (omega arith) (λ q. omega arith) ∙ claimed (1 - s) (omega arith) no1) near (rw right_kept above_right)
              (raise_keeps e nodes m s k hs in_m (4 + s) (omega arith) (λ q. omega arith) ∙ r)
              deep.holds;
          long = deep.long ∙ raise_length e nodes m k s;
          more = deep.more;
        }

pub place : (f : ℕ) (e : ℕ → ℕ → ℕ) (used k m : ℕ) (nodes : List ℕ) → m < used → used ≤ m + f → used * 6 + 6 ≤ length nodes → Linked nodes used k
    → EnteredFrom e used k m nodes (entered_from f e used k m nodes)
place f e used k m = descend e used k (λ f m nodes out. EnteredFrom e used k m nodes out) (record {
  stop = λ f m nodes hm room lk p. stop e used k m nodes hm room lk p;
  new = λ f m nodes hm room lk no1 p. new e used k m nodes hm room lk (near_side e nodes m k) (side_small e nodes m k) no1 (side_near e nodes m k) p;
  down = λ f m w nodes out hm room lk no1 p deep.
      down e used k m nodes hm room lk (near_side e nodes m k) (side_small e nodes m k) no1 (side_near e nodes m k) w out p deep;
}) f m

-- ---- handed on

-- entering the next claim keeps a neartree
pub keeps : (e : ℕ → ℕ → ℕ) (used n : ℕ) (nodes : List ℕ) → Neartree nodes e used n → used * 6 + 6 ≤ length nodes → n + 1 ≤ most_claims
    → Neartree (entered e used n nodes).nodes e (entered e used n nodes).used (n + 1)
unfolding entered Linked
keeps e zero n nodes h room few =
    let z : n ≡ 0 = h.empty refl in
    let in-0 : Inside nodes 0 = omega arith in
    record {
      linked = λ m hm. let q : m ≡ 0 = omega arith in rw q (record {
        left = let p = fresh_left nodes 0 n in-0 in omega arith;
        stored = λ s hs. fresh_small nodes 0 n s in-0 (omega arith);
        rises = λ s hs ne. absurd (ne (fresh_rest nodes 0 n (4 + s) in-0 (omega arith) (omega arith)));
        leads = λ s hs. let p = fresh_rest nodes 0 n (4 + s) in-0 (omega arith) (omega arith) in omega arith;
      });
      room = let p = fresh_length nodes 0 n in omega arith;
      few = few;
      empty = λ q. absurd (omega arith);
      all = λ j hj. let q : j ≡ n = omega arith in rw q (record { side = 0; which = lit< tt; under = here (fresh_left nodes 0 n in-0) });
    }
keeps e (suc u) n nodes h room few =
    let p = place (suc u) e (suc u) n 0 nodes (omega arith) (omega arith) room h.linked in
    record {
      linked = p.linked;
      room = omega (arith, p.long, takes_one e (suc u) n nodes);
      few = few;
      empty = λ q. absurd (omega (arith, p.more));
      all = λ j hj. ⊎_elim
          (λ q. rw q p.holds)
          (λ l. let o = h.all j l in record { side = o.side; which = o.which; under = under_grows (suc u) n e nodes _ h.linked p.grows 0 o.side j (omega arith) o.which o.under })
          (eq-or-lt_of_le (omega arith));
    }
