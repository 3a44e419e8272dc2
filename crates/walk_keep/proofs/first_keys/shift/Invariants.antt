-- `walk_keep::first_keys::shift` meets its contract: from the last key down, each takes the one in front of it. Assumes nothing.
use Prim.Native.Nat.{◌-◌, ◌<◌}
use Rattle.walk_keep.specs.Kept.{Shifted}
use Rattle.walk_keep.proofs.first_keys.shift.Given as goal

abbrev pub invariant-loop-i : goal.invariant-loop-i
invariant-loop-i l = record { inside : l.p < l.i; moved : Shifted (l.i - 1) l.n l.initial.room l.room }
