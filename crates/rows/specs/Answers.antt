-- Answers as rows of numbers. Definitions only.
use Rattle.std.specs.Prelude.{ℕ, cond, List, [], ◌∷◌, Option, None, Some}
use Rattle.paper.specs.declared.orders.Item.{Item}
use Rattle.paper.specs.declared.orders.Paged.{Paged}
use Rattle.paper.specs.Outcomes.{Outcome, refused, gives}

-- [4.17] what nearest and farthest found, as four numbers: whether there is an item, its number, reference and distance
unfoldable pub found_row : Option Item → List ℕ
found_row None = 0 ∷ 0 ∷ 0 ∷ 0 ∷ []
found_row (Some a) = 1 ∷ a.number ∷ a.reference ∷ a.distance ∷ []

-- [4.19] a page's outcome as three numbers: the refusal, how many items, and 1 where they are the last
unfoldable pub page_row : Outcome Paged → List ℕ
page_row (refused n) = n ∷ 0 ∷ 0 ∷ []
page_row (gives p) = 0 ∷ p.count ∷ cond p.last 1 0 ∷ []
