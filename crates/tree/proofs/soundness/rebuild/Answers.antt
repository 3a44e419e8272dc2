-- `tree::soundness::rebuild` meets its contract. Assumes nothing.
use Rattle.std.proofs.Common.{arith}
use Rattle.tree.proofs.TestedTables.{rebuild_start, rebuild_ready, rebuild_next, rebuild_few}
use Rattle.tree.proofs.soundness.rebuild.Goals as goal

pub loop-k-init : goal.loop-k-init
loop-k-init c = rebuild_start _ _

pub enter-used-requires : goal.enter-used-requires
enter-used-requires c =
    let p = c.requires in
    rebuild_ready _ _ _ _ _ _ _ c.loop-k.invariant c.args.n p.0.0 p.0.1 p.1 c.loop-k-test.true

pub loop-k-preserved : goal.loop-k-preserved
loop-k-preserved c =
    rebuild_next _ _ _ _ _ _ _ c.loop-k.invariant _ _ c.enter-used.ensures.nodes c.enter-used.ensures.used

pub returns-clause-few : goal.returns-clause-few
returns-clause-few c = omega (arith, rebuild_few _ _ _ _ _ _ _ c.loop-k.invariant)
