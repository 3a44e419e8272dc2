-- `tree_repeats::index::fill` meets its contract: those so far are indexed, and each is none of those before it. Assumes nothing.
use Prim.Native.Nat.{ℕ, ◌<◌}
use lib.ListN.{get_or, take}
use Rattle.tree_repeats.specs.NewReferences.{Lacks}
use Rattle.tree_repeats.specs.Index.{Indexed}
use Rattle.tree_repeats.proofs.index.fill.Given as goal

abbrev pub invariant-loop-i : goal.invariant-loop-i
invariant-loop-i l = record {
  indexed : Indexed l.heads l.links l.given l.i;
  differ : (j : ℕ) → j < l.i → Lacks (take j l.given) (get_or l.given j 0);
}
