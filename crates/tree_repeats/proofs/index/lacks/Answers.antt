-- `tree_repeats::index::lacks` meets its contract: the search along a bucket's chain passes every reference of the bucket. Assumes nothing.
use native.Mathlib.Omega.{arith}
use mathlib.Core.Path.{refl}
use Rattle.tree_repeats.proofs.Chains.{search_finds, search_ends}
use Rattle.tree_repeats.proofs.index.lacks.Goals as goal

pub returns-then-indexed-x : goal.returns-then-indexed-x
returns-then-indexed-x c = search_finds _ _ _ _ (omega (arith, c.loop-x.invariant.before)) refl c.if-indexed-x.true

pub returns : goal.returns
returns c = search_ends _ _ _ c.loop-x.invariant c.loop-x-test.false
