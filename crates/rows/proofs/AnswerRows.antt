-- How long the rows of an answer are. Assumes nothing.
use mathlib.Core.Path.{◌≡◌, refl}
use lib.ListN.{length}
use Rattle.std.specs.Prelude.{Option, None, Some}
use Rattle.paper.specs.declared.orders.Item.{Item}
use Rattle.paper.specs.declared.orders.Paged.{Paged}
use Rattle.paper.specs.Outcomes.{Outcome, refused, gives}
use Rattle.rows.specs.Answers.{found_row, page_row}

pub found_wide : (a : Option Item) → length (found_row a) ≡ 4
unfolding found_row
found_wide None = refl
found_wide (Some a) = refl

pub page_wide : (o : Outcome Paged) → length (page_row o) ≡ 3
unfolding page_row
page_wide (refused n) = refl
page_wide (gives p) = refl
