-- `nearby_many::pages::pages_each` meets its contract: question after question. Assumes nothing.
use Prim.Native.Nat.{◌*◌}
use mathlib.Core.Path.{◌≡◌}
use Rattle.nearby_many.specs.Rows.{each}
use Rattle.nearby_many.specs.Pages.{page_at, put_outcome, put_page_items}
use Rattle.nearby_many.proofs.pages.pages_each.Given as goal

abbrev pub invariant-loop-i : goal.invariant-loop-i
invariant-loop-i l =
    (l.outcomes ≡ each (put_outcome (page_at l.table l.probes l.reaches l.places l.size)) l.i l.initial.outcomes)
    × (l.items ≡ each (put_page_items (page_at l.table l.probes l.reaches l.places l.size) (l.size * 3)) l.i l.initial.items)
