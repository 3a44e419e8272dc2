-- Section 9 of the rules: the public calls on tables in lent memory, as functions of their inputs. Definitions only.
-- Making and entering stand in `Runs`, lists in `Lists`, bare lines in `Lines`.
use Rattle.std.specs.Prelude.{ℕ, ◌*◌, ◌<◌, ◌≡◌, Bool, List, leb, eqb, ℤ, length, Option, None, Some}
use Rattle.paper.specs.declared.orders.Order.{Order}
use Rattle.paper.specs.declared.orders.Order.TheVariants.{Near}
use Rattle.paper.specs.declared.orders.Paged.{Paged}
use Rattle.paper.specs.declared.orders.Place.{Place}
use Rattle.paper.specs.declared.tables.Table.{Table}
use Rattle.paper.specs.declared.orders.Item.{Item}
use Rattle.paper.specs.Orders.{Query, following, page_of, last_of, nearest_of, farthest_of, snapshot_holds, mark_holds, fronted}
use Rattle.paper.specs.Outcomes.{Outcome, refused, gives, must, number, showing}
use Rattle.paper.specs.Tree.{Store, claims_in, fits, sound}
use Rattle.paper.specs.Ends.{table_of, line_answered, answer_room, size_holds}
use Rattle.paper.specs.Codec.{lines}

-- what is asked of a table: its own number, measure and d
abbrev pub table_query : Table → Order → List ℤ → ℕ → Query
table_query t order probe reach =
    record { order = order; table = t.number; measure = t.measure; d = t.d; probe = probe; reach = reach }

-- [8.1] [8.2] every call on a table begins with 1 and 2
abbrev pub on_table : {A : Type 0} → Store → Outcome A → Outcome A
on_table s x = must (fits s) 1 (must (sound s) 2 x)

-- [9.5] why a table may not be asked: 1 or 2, or 0 where it may
unfoldable pub table_refusal : Store → ℕ
table_refusal s = number (on_table s (gives s))

-- [8.5] and one with a probe goes on with 5: the probe has d coordinates
abbrev pub aimed : {A : Type 0} → Store → List ℤ → Outcome A → Outcome A
aimed s probe x = on_table s (must (eqb (length probe) s.table.d) 5 x)

-- [9.7] [4.1] nearest
unfoldable pub nearest_call : Store → List ℤ → ℕ → Outcome (Option Item)
nearest_call s probe reach = aimed s probe (gives (nearest_of (table_query s.table Near probe reach) (claims_in s)))

-- [9.7] [4.2] farthest
unfoldable pub farthest_call : Store → List ℤ → Outcome (Option Item)
farthest_call s probe = aimed s probe (gives (farthest_of (table_query s.table Near probe 0) (claims_in s)))

-- [4.2] what farthest's outcome says of the count of claims: nothing is given just where there is none; a refusal has its number
abbrev pub NothingJust : ℕ → Outcome (Option Item) → Type 0
NothingJust count (refused n) = n ≡ 0 → ⊥
NothingJust count (gives None) = count ≡ 0
NothingJust count (gives (Some a)) = 0 < count

-- [4.6] [4.7] a page: its items, and whether it is the last
pub record ThePage : Type 0 where
  pub items : List Item
  pub last : Bool

unfoldable pub the_page : Query → Store → Place → ℕ → ThePage
the_page q s place size =
    record { items = page_of q (claims_in s) place size; last = last_of size (following q (claims_in s) place) }

-- [9.8] [8.12] a page, in a room of so many numbers: 12 where it is too short for a page of that size
unfoldable pub page_call : Store → Order → List ℤ → ℕ → Place → ℕ → ℕ → Outcome ThePage
page_call s order probe reach place size room =
    aimed s probe
    (must (size_holds size) 6
    (must (snapshot_holds (claims_in s) place) 7
    (must (mark_holds (table_query s.table order probe reach) (claims_in s) place) 8
    (must (leb (size * 3) room) 12
    (gives (the_page (table_query s.table order probe reach) s place size))))))

-- [4.8] what is shown of it, and what it makes of the room: the items stand at its front, and what lies behind them is kept
abbrev pub paged : ThePage → Paged
paged p = record { count = length p.items; last = p.last }

abbrev pub page_shown : Outcome ThePage → Outcome Paged
page_shown o = showing paged o

abbrev pub put_page : ThePage → List ℕ → List ℕ
put_page p room = fronted p.items room

-- [9.10] the office's answer to a line, in an output room of so many characters: 12 comes before the tests of the table
unfoldable pub office_call : Store → ℕ → List ℕ → Outcome (List ℕ)
office_call s out line = must (answer_room out) 12 (on_table s (line_answered lines (table_of s) line))
