-- Examples by city block, with one coordinate: a to j as one statement about the definitions, and further ones, which catch what these
-- let pass. Definitions only.
use Rattle.std.specs.Prelude.{ℕ, ◌≡◌, Bool, true, false, List, [], ◌∷◌, ◌++◌, map, ℤ, pos, negsuc, replicate, None, Some}
use Rattle.paper.specs.declared.orders.Order.{Order}
use Rattle.paper.specs.declared.orders.Order.TheVariants.{Near}
use Rattle.paper.specs.declared.orders.Place.{Place}
use Rattle.paper.specs.declared.orders.Place.TheVariants.{Start, After}
use Rattle.paper.specs.declared.points.Measure.TheVariants.{CityBlock, Maximum, Hamming}
use Rattle.paper.specs.Points.{distance, greatest_of, Claim}
use Rattle.paper.specs.declared.orders.Item.{Item}
use Rattle.paper.specs.Orders.{Query, listed, nearest_of, farthest_of}
use Rattle.paper.specs.Tree.{grown, apart, afresh}
use Rattle.paper.specs.Outcomes.{Outcome, refused, gives}
use Rattle.paper.specs.Ends.{Answer, Table, answer_to}
use Rattle.paper.specs.Limits.{office_claims}

-- five claims on a line, with references 101 to 105
abbrev pub claim : ℕ → ℕ → Claim
claim reference x = record { reference = reference; point = pos x ∷ [] }

abbrev pub five : List Claim
five = claim 101 2 ∷ claim 102 3 ∷ claim 103 9 ∷ claim 104 6 ∷ claim 105 5 ∷ []

-- and a sixth, which is entered later
abbrev pub six : List Claim
six = five ++ (claim 106 4 ∷ [])

-- what is asked about: the probe is 4, in near order where nothing else is said
abbrev pub query_in : Order → ℕ → Query
query_in order reach = record { order = order; table = 7; measure = 1; d = 1; probe = pos 4 ∷ []; reach = reach }

abbrev pub query : ℕ → Query
query = query_in Near

abbrev pub table : List Claim → Table
table claims = record { number = 7; measure = 1; d = 1; capacity = office_claims; claims = claims }

-- an item of the five, by its number, reference and distance
abbrev pub item : ℕ → ℕ → ℕ → Item
item number reference distance = record { number = number; reference = reference; distance = distance }

-- how far two of some claims are apart, their coordinates standing one after another
unfoldable pub coordinates_of : List Claim → List ℤ
coordinates_of [] = []
coordinates_of (c ∷ l) = c.point ++ coordinates_of l

abbrev pub apart_of : List Claim → ℕ → ℕ → ℕ
apart_of claims = apart 1 1 (coordinates_of claims)

-- a place's snapshot, and its mark's distance and number
abbrev pub after : ℕ → ℕ → ℕ → Place
after snapshot distance number = After snapshot (record { distance = distance; number = number })

-- what the office answers: the numbers of the page, and whether it is last
pub record Page : Type 0 where
  pub numbers : List ℕ
  pub last : Bool

abbrev pub page : List ℕ → Bool → Page
page numbers last = record { numbers = numbers; last = last }

abbrev pub shown : Outcome Answer → Outcome Page
shown (refused n) = refused n
shown (gives y) = gives (page (map (λ x. x.number) y.items) y.last)

unfoldable pub office_page_in : Order → List Claim → Place → ℕ → Outcome Page
office_page_in order claims place size = shown (answer_to (table claims) (record { query = query_in order 5; place = place; size = size }))

abbrev pub office_page : List Claim → Place → ℕ → Outcome Page
office_page = office_page_in Near

-- examples a to j
pub record Marked : Type 0 where
  -- [3.5] to [3.10] three nodes, one below the other on the right, with far distances 6 and 1
  pub a : afresh (apart_of five) 5
      ≡ grown
      ((1 ∷ 2 ∷ 0 ∷ 6 ∷ 0 ∷ 2 ∷ [])
      ++ ((3 ∷ 4 ∷ 0 ∷ 1 ∷ 0 ∷ 3 ∷ [])
      ++ ((5 ∷ 0 ∷ 0 ∷ 0 ∷ 0 ∷ 0 ∷ [])
      ++ replicate 12 0)))
      3
  -- [2.3] [2.5] two pairs at the same distance, the smaller number first
  pub b : listed (query 5) five 5 ≡ item 1 102 1 ∷ item 4 105 1 ∷ item 0 101 2 ∷ item 3 104 2 ∷ item 2 103 5 ∷ []
  -- [4.1] [4.2] the nearest of a pair, and the farthest
  pub c : (nearest_of (query 5) five ≡ Some (item 1 102 1)) × (farthest_of (query 5) five ≡ Some (item 2 103 5))
  -- [2.4] [4.1] no claim is at the probe; one at the reach itself is found
  pub d : (nearest_of (query 0) five ≡ None) × (nearest_of (query 1) five ≡ Some (item 1 102 1))
  -- [4.6] [4.7] three pages, of which the last has one item
  pub e : (office_page five Start 2 ≡ gives (page (1 ∷ 4 ∷ []) false))
      × (office_page five (after 5 1 4) 2 ≡ gives (page (0 ∷ 3 ∷ []) false))
      × (office_page five (after 5 2 3) 2 ≡ gives (page (2 ∷ []) true))
  -- [4.5] what is entered after the first page is on none of the others
  pub f : (office_page six (after 5 1 4) 2 ≡ gives (page (0 ∷ 3 ∷ []) false)) × (office_page six (after 5 2 3) 2 ≡ gives (page (2 ∷ []) true))
  -- [8.8] claim 4 is not at distance 2
  pub g : office_page five (after 5 2 4) 2 ≡ refused 8
  -- [8.7] the sixth claim is not there
  pub h : office_page five (after 6 1 4) 2 ≡ refused 7
  -- [1.5] the least and the greatest coordinate
  pub i : distance CityBlock 1 (negsuc 2147483647 ∷ []) (pos 2147483647 ∷ []) ≡ 4294967295
  -- [4.7] a page of exactly all that are left is the last; one asked for behind it is empty, and the last too
  pub j : (office_page five Start 5 ≡ gives (page (1 ∷ 4 ∷ 0 ∷ 3 ∷ 2 ∷ []) true)) × (office_page five (after 5 5 2) 5 ≡ gives (page [] true))

pub record MarkedBesides : Type 0 where
  -- [3.8] the left of two as near: a claim at 1 beside 0 and 2
  pub tie : afresh (apart_of (claim 0 0 ∷ claim 0 2 ∷ claim 0 1 ∷ [])) 3
      ≡ grown
      ((1 ∷ 2 ∷ 1 ∷ 0 ∷ 2 ∷ 0 ∷ [])
      ++ ((3 ∷ 0 ∷ 0 ∷ 0 ∷ 0 ∷ 0 ∷ [])
      ++ replicate 6 0))
      2
  -- [2.7] e again, in pages of 1: its pages of 2 end where its ties end, so a mark of distance alone would pass there
  pub ties : (office_page five Start 1 ≡ gives (page (1 ∷ []) false)) × (office_page five (after 5 1 1) 1 ≡ gives (page (4 ∷ []) false))
  -- [1.7] [1.8] the first coordinate differs most; two are not the same
  pub maximum : distance Maximum 3 (pos 1 ∷ pos 2 ∷ pos 3 ∷ []) (pos 4 ∷ pos 4 ∷ pos 4 ∷ []) ≡ 3
  pub hamming : distance Hamming 3 (pos 1 ∷ pos 2 ∷ pos 3 ∷ []) (pos 1 ∷ pos 3 ∷ pos 2 ∷ []) ≡ 2
  -- [1.9] the greatest distance that there is
  pub widest : greatest_of CityBlock 8 ≡ 34359738360
