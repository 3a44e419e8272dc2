-- `walk_keep::limits::both_beyond` meets its contract. Assumes nothing.
use Rattle.walk_keep.proofs.LimitLaws.{both_limits}
use Rattle.walk_keep.proofs.limits.both_beyond.Goals as goal

pub returns : goal.returns
returns c =
    let args = c.args in
    both_limits args.last args.x args.xfar args.y args.yfar c.min.result (rw (← c.saturating_sub.ensures, ← c.saturating_sub-2.ensures) c.min.ensures)
