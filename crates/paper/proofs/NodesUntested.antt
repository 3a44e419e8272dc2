-- Behind the test of claims a test of nodes refuses nothing. Assumes nothing.
use Prim.Native.Nat.{ℕ, ◌+◌}
use mathlib.Core.Path.{◌≡◌, refl}
use mathlib.Core.Bool.{Bool, true, false}
use lib.Dec.{leb}
use borrow.Author.Tests.{leb-true, le-leb}
use Rattle.paper.specs.Tree.{Store, sound}
use Rattle.paper.specs.Outcomes.{Outcome, must}
use Rattle.paper.proofs.Outcomes.{must_go}
use Rattle.paper.proofs.FreeNodes.{a_node_is_free}

module _ (s : Store) (well : sound s ≡ true) where
  -- [8.4] a run that fits by its claims fits by its nodes, so that test, under whatever number, refuses nothing
  pub nodes_need_no_test : {A : Type 0} (n r : ℕ) (x : Outcome A)
      → must (leb (s.table.count + n) s.table.capacity) 3 (must (leb (s.table.used + n) s.table.capacity) r x)
      ≡ must (leb (s.table.count + n) s.table.capacity) 3 x
  nodes_need_no_test n r x = go (leb (s.table.count + n) s.table.capacity) refl
    where
      go : (b : Bool) → leb (s.table.count + n) s.table.capacity ≡ b
          → must b 3 (must (leb (s.table.used + n) s.table.capacity) r x) ≡ must b 3 x
      go true h = must_go _ r x (le-leb (s.table.used + n) s.table.capacity (a_node_is_free s well n (leb-true (s.table.count + n) s.table.capacity h)))
      go false h = refl
