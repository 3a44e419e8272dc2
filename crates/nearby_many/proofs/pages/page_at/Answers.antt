-- `nearby_many::pages::page_at` meets its contract. Assumes nothing.
use Prim.Native.Nat.{◌*◌}
use mathlib.Core.Path.{ap, ◌∙◌}
use lib.ListN.{length}
use Rattle.nearby_many.proofs.FirstsOfMany.{probe_long}
use Rattle.nearby_many.specs.Pages.{page_at}
use Rattle.nearby_many.proofs.PagesOfMany.{lent_long, lent_put}
use Rattle.nearby_many.proofs.pages.page_at.Goals as goal

pub page_here-requires : goal.page_here-requires
page_here-requires c =
    let a = c.args in
    record {
      tested = c.requires.asked.tested;
      aimed = ap length c.probe_at.ensures ∙ probe_long a.table.now a.probes.now a.i c.requires.asked.aimed;
      size = c.requires.size;
    }

pub returns : goal.returns
returns c =
    let a = c.args in
    let page = page_at a.table.now a.probes.now a.reaches.now a.places.now a.size in
    let long = lent_long page (a.size * 3) a.i a.items.now c.requires.items in
    let given = rw (c.order_at.ensures, c.probe_at.ensures, c.place_at.ensures, long) at c.page_here.ensures in
    record { shown = given.result; filled = lent_put page (a.size * 3) a.i a.items.now _ given.memory }
