-- `office_serve::feeding::feed` meets its contract: turns add up. Assumes nothing.
use mathlib.Core.Path.{refl}
use mathlib.Core.Logic.{inl, inr}
use native.Mathlib.Omega.{arith}
use Rattle.office_serve.proofs.Moves.{moved_none, moved_more, still_later}
use Rattle.office_serve.proofs.feeding.feed.Goals as goal

pub loop-references-init : goal.loop-references-init
loop-references-init c = record { moved = λ o st. moved_none _ _ _ _ _ _ st; ready = c.requires.0; went = inl refl; short = c.requires.1 }

pub loop-references-preserved : goal.loop-references-preserved
loop-references-preserved c =
    let v = c.loop-references.invariant in
    let t = c.turn-n.ensures in
    record {
      moved = λ o st. moved_more o _ _ _ _ _ _ _ _ _ _ _ (v.moved o st) t.moved;
      ready = t.ready;
      went = inr (still_later _ _ _ v.went t.on);
      short = omega (arith, t.short);
    }
