-- Sections 2 and 4 of the rules: orders and questions, by measuring every stored claim. Definitions only.
use Rattle.std.specs.Prelude.{ℕ, zero, suc, ◌-◌, ◌*◌, ◌^◌, Bool, true, false, not, cond, ◌&&◌, ◌||◌, List, [], ◌∷◌, ◌++◌, ltb, leb, eqb, ℤ, length, get_or, take, drop, Option, None, Some}
use Rattle.paper.specs.declared.orders.Item.{Item}
use Rattle.paper.specs.declared.orders.Mark.{Mark}
use Rattle.paper.specs.declared.orders.Order.{Order}
use Rattle.paper.specs.declared.orders.Order.TheVariants.{Near, Far}
use Rattle.paper.specs.declared.orders.Paged.{Paged}
use Rattle.paper.specs.declared.orders.Place.{Place}
use Rattle.paper.specs.declared.orders.Place.TheVariants.{Start, After}
use Rattle.paper.specs.declared.queries.Query as queries
use Rattle.paper.specs.Points.{measure_of, distance, greatest_of, Claim, zero_claim}

-- [2.6] an item shows of a claim its number, its reference and how far it is from the probe
abbrev pub no_item : Item
no_item = record { number = 0; reference = 0; distance = 0 }

-- [7.1] what a list is opened for and keeps, with its order
pub record Query : Type 0 where
  pub order : Order
  pub table : ℕ
  pub measure : ℕ
  pub d : ℕ
  pub probe : List ℤ
  pub reach : ℕ

-- [7.3] a query as code holds it: of the eight slots of its probe the first d count
abbrev pub query_in : queries.Query → Query
query_in q =
    record {
      order = q.order;
      table = q.table;
      measure = q.measure;
      d = q.d;
      probe = take q.d q.probe;
      reach = q.reach;
    }

-- [9.19] an order as a flag, which is on for far order, and a flag as an order
abbrev pub is_far : Order → Bool
is_far Near = false
is_far Far = true

abbrev pub order_by : Bool → Order
order_by far = cond far Far Near

-- the same order
abbrev pub same_order : Order → Order → Bool
same_order Near p = not (is_far p)
same_order Far p = is_far p

-- [2.1] [2.2] an order's rank of a distance: in near order itself, in far order turned round
unfoldable pub rank : Order → ℕ → ℕ
rank Near x = x
rank Far x = 2 ^ 64 - 1 - x

-- [2.3] distance x and number k stand before distance y and number j: by rank, and by number at equal ranks
unfoldable pub before : Order → ℕ → ℕ → ℕ → ℕ → Bool
before o x k y j = ltb (rank o x) (rank o y) || (eqb (rank o x) (rank o y) && ltb k j)

abbrev pub earlier : Order → Item → Item → Bool
earlier o a b = before o a.distance a.number b.distance b.number

-- [2.3] an item put in its place
unfoldable pub insert : Order → Item → List Item → List Item
insert o a [] = a ∷ []
insert o a (b ∷ l) = cond (earlier o a b) (a ∷ b ∷ l) (b ∷ insert o a l)

-- [2.6] claim k, measured
unfoldable pub item_of : Query → List Claim → ℕ → Item
item_of q cs k =
    record {
      number = k;
      reference = (get_or cs k zero_claim).reference;
      distance = distance (measure_of q.measure) q.d (get_or cs k zero_claim).point q.probe;
    }

-- [2.4] [2.5] each claim within reach whose number is below the snapshot, once, in order
unfoldable pub listed : Query → List Claim → ℕ → List Item
listed q cs zero = []
listed q cs (suc k) =
    cond (leb (item_of q cs k).distance q.reach) (insert q.order (item_of q cs k) (listed q cs k)) (listed q cs k)

-- [2.8] the start mark
abbrev pub start_mark : Mark
start_mark = record { distance = 0; number = 0 }

-- a mark by its distance and number
abbrev pub mark_at : ℕ → ℕ → Mark
mark_at x k = record { distance = x; number = k }

-- [2.7] [2.8] an item comes after a place: each one after the start, and otherwise those that stand behind the mark
unfoldable pub follows : Order → Place → Item → Bool
follows o Start a = true
follows o (After n m) a = before o m.distance m.number a.distance a.number

-- [4.4] [4.5] what a place does not keep back
unfoldable pub rest : Order → Place → List Item → List Item
rest o p [] = []
rest o p (a ∷ l) = cond (follows o p a) (a ∷ rest o p l) (rest o p l)

-- [4.4] [4.5] the snapshot: at the start the count at that moment, and otherwise the place's own
abbrev pub snapshot_of : Place → ℕ → ℕ
snapshot_of Start count = count
snapshot_of (After n m) count = n

-- [8.7] the snapshot is not larger than the count
unfoldable pub snapshot_holds : List Claim → Place → Bool
snapshot_holds cs p = leb (snapshot_of p (length cs)) (length cs)

-- [4.6] what a page is taken from: listed, and not kept back
unfoldable pub following : Query → List Claim → Place → List Item
following q cs p = rest q.order p (listed q cs (snapshot_of p (length cs)))

-- [4.6] a page: the first of these, up to its size
unfoldable pub page_of : Query → List Claim → Place → ℕ → List Item
page_of q cs p size = take size (following q cs p)

-- [4.7] a page is the last when what it is taken from is no more than its size, so that nothing follows it
unfoldable pub last_of : ℕ → List Item → Bool
last_of size r = leb (length r) size

-- [4.6] [4.7] how many items a page has, and whether it is the last
abbrev pub paged_of : ℕ → List Item → Paged
paged_of size r = record { count = length (take size r); last = last_of size r }

-- [4.1] [4.2] what nearest and farthest give: the first item, where there is one
unfoldable pub first_of : List Item → Option Item
first_of [] = None
first_of (a ∷ l) = Some a

-- [4.1] the first item within reach, in the query's order
unfoldable pub nearest_of : Query → List Claim → Option Item
nearest_of q cs = first_of (listed q cs (length cs))

-- [4.2] [1.9] the query in far order, with a reach that leaves out no claim: the measure's greatest distance
abbrev pub far_query : Query → Query
far_query q =
    record {
      order = Far;
      table = q.table;
      measure = q.measure;
      d = q.d;
      probe = q.probe;
      reach = greatest_of (measure_of q.measure) q.d;
    }

-- [4.2] the first item in far order
unfoldable pub farthest_of : Query → List Claim → Option Item
farthest_of q cs = first_of (listed (far_query q) cs (length cs))

-- [8.8] the mark's number is under the snapshot, and its distance is that claim's and not beyond the reach
unfoldable pub mark_holds : Query → List Claim → Place → Bool
mark_holds q cs Start = true
mark_holds q cs (After n m) =
    ltb m.number n && (eqb m.distance (item_of q cs m.number).distance && leb m.distance q.reach)

-- [2.6] a page's items as numbers, three for each
unfoldable pub flat : List Item → List ℕ
flat [] = []
flat (a ∷ l) = a.number ∷ a.reference ∷ a.distance ∷ flat l

-- [4.8] the items at the front of a room, whose rest stays
unfoldable pub fronted : List Item → List ℕ → List ℕ
fronted l room = flat l ++ drop (3 * length l) room
