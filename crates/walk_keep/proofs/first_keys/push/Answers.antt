-- `walk_keep::first_keys::push` meets its contract. Assumes nothing.
use mathlib.Core.Path.{refl}
use native.Mathlib.Omega.{arith}
use Rattle.std.proofs.lemmas.Grind.{common_steps}
use Rattle.walk_keep.specs.Kept.{held}
use Rattle.walk_keep.proofs.Places.{pushed_put}
use Rattle.walk_keep.proofs.first_keys.push.Goals as goal

pub returns-then-room-p : goal.returns-then-room-p
returns-then-room-p c = held _ (omega (arith, c.position-p.ensures.few)) c.if-room-p.true refl

pub returns : goal.returns
returns c =
    let at = c.position-p.ensures in
    pushed_put _ _ _ _ _ (omega arith) at.front (grind (arith, common_steps)) c.shift.ensures (omega arith)
