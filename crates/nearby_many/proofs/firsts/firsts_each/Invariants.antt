-- `nearby_many::firsts::firsts_each` meets its contract: question after question. Assumes nothing.
use Prim.Native.Nat.{ℕ}
use mathlib.Core.Path.{◌≡◌}
use Rattle.std.specs.Prelude.{Option}
use Rattle.paper.specs.declared.orders.Item.{Item}
use Rattle.nearby_many.specs.Rows.{each, put_found}
use Rattle.nearby_many.specs.Many.{Finds}
use Rattle.nearby_many.proofs.firsts.firsts_each.Given as goal

abbrev pub invariant-loop-i : goal.invariant-loop-i
invariant-loop-i g l =
    (answer : ℕ → Option Item) → Finds (goal.F-post g l.find) l.n answer → l.out ≡ each (put_found answer) l.i l.initial.out
