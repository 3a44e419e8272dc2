-- `walk_keep::first_keys::Sought::keep` meets its contract. Assumes nothing.
use native.Mathlib.Omega.{arith}
use Rattle.walk_keep.proofs.Places.{pushed_one, keep_pushed}
use Rattle.walk_keep.proofs.sought.Sought.keep.Goals as goal

pub returns-then-self-eq1 : goal.returns-then-self-eq1
returns-then-self-eq1 c = keep_pushed _ _ _ _ c.if-self-k.false c.if-y-self.false _ (rw c.min.ensures (pushed_one _ _ _ c.if-self-eq1.true (omega arith)))

pub returns : goal.returns
returns c = keep_pushed _ _ _ _ c.if-self-k.false c.if-y-self.false _ c.push.ensures
