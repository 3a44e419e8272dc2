-- `walk::pages::give` meets its contract: after i turns the first i claims stand in the room. Assumes nothing.
use Rattle.walk.proofs.Giving.{Giving}
use Rattle.walk.proofs.pages.give.Given as goal

abbrev pub invariant-loop-i : goal.invariant-loop-i
invariant-loop-i l = Giving l.ask l.references l.kept l.initial.room l.room l.i
