-- A run that fits by its claims fits by its nodes: why no call has a refusal for nodes. Assumes nothing.
use Prim.Native.Nat.{ℕ, zero, suc, ◌+◌, ◌*◌, ◌≤◌}
use mathlib.Core.Path.{◌≡◌}
use mathlib.Core.Bool.{Bool, true, false, cond, ◌&&◌}
use mathlib.Core.List.{List}
use native.Mathlib.Omega.{arith}
use native.Mathlib.Nat.{le_refl}
use lib.Dec.{leb, eqb}
use lib.ListN.{replicate}
use borrow.Author.Tests.{eqb-true}
use Rattle.paper.specs.Tree.{Grown, field_at, near_side, entered_from, entered, built, afresh, Store, apart_in, same_front, sound}
use Rattle.paper.proofs.Tests.{and_first, and_second}

-- a bound of both is one of either
either : (b : Bool) (x y : Grown) (n : ℕ) → x.used ≤ n → y.used ≤ n → (cond b x y).used ≤ n
either true x y n p q = p
either false x y n p q = q

-- [3.6] [3.7] [3.10] from whatever node a claim is entered, it takes one node more at most
from_takes_one : (times : ℕ) (e : ℕ → ℕ → ℕ) (used k m : ℕ) (nodes : List ℕ) → (entered_from times e used k m nodes).used ≤ used + 1
unfolding entered_from
from_takes_one zero e used k m nodes = omega arith
from_takes_one (suc times) e used k m nodes =
    either (eqb (field_at nodes m 1) 0) _ _ (used + 1) (omega arith)
    (either (eqb (field_at nodes m (4 + near_side e nodes m k)) 0) _ _ (used + 1) (le_refl (used + 1)) (from_takes_one times e used k _ _))

-- [3.5] and so from the root, which the first claim makes
pub takes_one : (e : ℕ → ℕ → ℕ) (used k : ℕ) (nodes : List ℕ) → (entered e used k nodes).used ≤ used + 1
unfolding entered
takes_one e zero k nodes = le_refl 1
takes_one e (suc u) k nodes = from_takes_one (suc u) e (suc u) k 0 nodes

-- [3.12] so there are never more nodes in use than claims
pub built_takes : (e : ℕ → ℕ → ℕ) (n : ℕ) (nodes : List ℕ) → (built e n nodes).used ≤ n
unfolding built
built_takes e zero nodes = le_refl 0
built_takes e (suc n) nodes =
    omega (arith, takes_one e (built e n nodes).used n (built e n nodes).nodes, built_takes e n nodes)

module _ (s : Store) (well : sound s ≡ true) where
  pub no_more_nodes_than_claims : s.table.used ≤ s.table.count
  unfolding sound afresh
  no_more_nodes_than_claims =
      let n : ℕ = s.table.count in
      let e : ℕ → ℕ → ℕ = apart_in s in
      let same = eqb (afresh e n).used s.table.used in
      let front = same_front (s.table.used * 6) (afresh e n).nodes s.nodes in
      let is = eqb-true (afresh e n).used s.table.used (and_first same front (and_second (leb n s.table.capacity) (same && front) well)) in
      omega (arith, is, built_takes e n (replicate (n * 6) 0))

  -- [8.4] where the capacity leaves a claim free for each of a run, it leaves a node free for each
  pub a_node_is_free : (n : ℕ) → s.table.count + n ≤ s.table.capacity → s.table.used + n ≤ s.table.capacity
  a_node_is_free n room = omega (arith, no_more_nodes_than_claims, room)
