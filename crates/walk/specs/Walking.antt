-- What the walk of a node and of a side ask and give. Definitions only.
use Rattle.std.specs.Prelude.{ℕ, ◌+◌, ◌-◌, ◌*◌, ◌<◌, ◌≤◌, ◌≡◌, ◌⊎◌, cond, eqb, Option, Some, None, List, ℤ, length, drop}
use Rattle.paper.specs.Points.{measure_of, distance, greatest_of}
use Rattle.paper.specs.Tree.{field_at, side_claim, apart, reference_at}
use Rattle.tree.specs.BuiltNodes.{Inside, Holds, Searchable, Neartree, Located}
use Rattle.walk_keep.specs.declared.asked.Asked.{Asked}
use Rattle.walk_keep.specs.Numbers.{most_distance, top, rank_at}
use Rattle.walk_keep.specs.Page.{Filled, filled}
use Rattle.walk_keep.specs.Kept.{ok_by, Holding, Walked}
use Rattle.walk_keep.specs.Skips.{passed_at, beyond_at}
use Rattle.paper.specs.Limits.{most_claims, most_coordinates}

-- how far claim k is from the probe
unfoldable pub dist_of : ℕ → ℕ → List ℤ → List ℤ → ℕ → ℕ
dist_of measure d coordinates probe k = distance (measure_of measure) d (drop (k * d) coordinates) probe

-- [1.9] claim k is no farther from the probe than the measure's greatest distance; that it was measured shows it, as slices of 32-bit coordinates
-- are lent
abbrev pub Bounded : ℕ → ℕ → List ℤ → List ℤ → ℕ → Type 0
Bounded measure d coordinates probe k = dist_of measure d coordinates probe k ≤ greatest_of (measure_of measure) d

-- so is the left claim of the root, where a node is in use
abbrev pub RootBounded : ℕ → ℕ → ℕ → List ℤ → List ℕ → List ℤ → Type 0
RootBounded used measure d coordinates nodes probe = (used ≡ 0 → ⊥) → Bounded measure d coordinates probe (side_claim nodes 0 0)

-- by a question
abbrev pub dist_by : Asked → List ℤ → List ℤ → ℕ → ℕ
dist_by ask coordinates probe = dist_of ask.measure ask.d coordinates probe

-- claim k can be measured: the lent memory has its d coordinates, and the probe's
pub record InSight (d k : ℕ) (coordinates probe : List ℤ) : Type 0 where
  pub narrow : d ≤ most_coordinates
  pub inside : k * d + d ≤ length coordinates
  pub aimed : d ≤ length probe

-- how far claims j and k are apart
abbrev pub apart_by : Asked → List ℤ → ℕ → ℕ → ℕ
apart_by ask coordinates = apart ask.measure ask.d coordinates

-- all that the walk uses of the measure: claim k is `dist k` from the probe and `e k j` from claim j
pub record Metric (e : ℕ → ℕ → ℕ) (dist : ℕ → ℕ) : Type 0 where
  pub there : (k j : ℕ) → dist k ≤ e k j + dist j
  pub back : (k j : ℕ) → dist j ≤ e k j + dist k
  pub between : (k j : ℕ) → e k j ≤ dist k + dist j

-- a claim below side s of node m, where k is the side's claim: numbered above the claims of both sides, as it was entered after both
pub record Below (nodes : List ℕ) (e : ℕ → ℕ → ℕ) (m s k j : ℕ) : Type 0 where
  pub near : e k j ≤ field_at nodes m (2 + s)
  pub beside : field_at nodes m (1 - s) ≡ 0 → ⊥
  pub closer : e k j + s ≤ e (field_at nodes m (1 - s) - 1) j
  pub later : field_at nodes m 1 ≤ j
  pub room : ℕ
  pub leads : field_at nodes m (4 + s) ≡ room + 1
  pub holds : Holds nodes e room j

-- the node below side s of node m, where there is one
unfoldable pub link_at : List ℕ → ℕ → ℕ → Option ℕ
link_at nodes m s = cond (eqb (field_at nodes m (4 + s)) 0) None (Some (field_at nodes m (4 + s) - 1))

-- [4.11] the node to go to below side s of node m, or none where all below comes before the first rank wanted or is beyond the last key kept: the
-- side's claim is at rank x, and no claim below is before rank `least`
unfoldable pub way_down : List ℕ → Asked → ℕ → ℕ → ℕ → ℕ → List ℕ → Option ℕ
way_down nodes ask m s x least o =
    cond (passed_at ask.first x (field_at nodes m (2 + s))) None
    (cond (beyond_at ask.sought x (field_at nodes m (2 + s)) least (field_at nodes m 1) o) None (link_at nodes m s))

-- a claim in or below the node to go to
pub record InOrBelow (nodes : List ℕ) (e : ℕ → ℕ → ℕ) (way : Option ℕ) (j : ℕ) : Type 0 where
  pub node : ℕ
  pub is : way ≡ Some node
  pub holds : Holds nodes e node j

-- the numbers of node m's two claims: of its one claim twice, where it has no other
pub record ClaimsOf (nodes : List ℕ) (m k j : ℕ) : Type 0 where
  pub left : k ≡ side_claim nodes m 0
  pub right : (field_at nodes m 1 ≡ 0 → ⊥) → j ≡ side_claim nodes m 1
  pub alone : field_at nodes m 1 ≡ 0 → j ≡ k

-- claim j stands on a side of node m
abbrev pub On : List ℕ → ℕ → ℕ → Type 0
On nodes m j = (field_at nodes m 0 ≡ j + 1) ⊎ (field_at nodes m 1 ≡ j + 1)

-- the claim of side s of node m was measured, and is at rank x
pub record Ranked (ask : Asked) (coordinates probe : List ℤ) (nodes : List ℕ) (m s x : ℕ) : Type 0 where
  pub rank : x ≡ rank_at ask.order (dist_by ask coordinates probe (side_claim nodes m s))
  pub bounded : Bounded ask.measure ask.d coordinates probe (side_claim nodes m s)
  pub near : dist_by ask coordinates probe (side_claim nodes m s) ≤ most_distance

-- the steps of the claims of node m
pub record Visits (ask : Asked) (coordinates probe : List ℤ) (nodes : List ℕ) (m : ℕ) (o o' : List ℕ) (left right : ℕ) : Type 0 where
  pub walked : Walked ask (dist_by ask coordinates probe) (On nodes m) o o'
  pub left_is : Ranked ask coordinates probe nodes m 0 left
  pub right_is : (field_at nodes m 1 ≡ 0 → ⊥) → Ranked ask coordinates probe nodes m 1 right
  pub left_small : left ≤ top
  pub right_small : right ≤ top

-- the lent memory has what a question reads of n claims
pub record Readable (ask : Asked) (coordinates : List ℤ) (n : ℕ) : Type 0 where
  pub located : Located ask.d n coordinates
  pub few : n ≤ most_claims

-- what the walk of node m asks
pub record NodeAsk (nodes : List ℕ) (coordinates : List ℤ) (ask : Asked) (m : ℕ) : Type 0 where
  pub used : ℕ
  pub claims : ℕ
  pub walk : Searchable nodes used claims m
  pub lent : Readable ask coordinates claims

-- what the tests of side s of node m ask
pub record WayAsk (nodes : List ℕ) (m s x least : ℕ) : Type 0 where
  pub which : s < 2
  pub inside : Inside nodes m
  pub stored : field_at nodes m 1 ≤ most_claims
  pub rank : x ≤ top
  pub small : least ≤ top

-- what the walk below a side asks
pub record SideAsk (nodes : List ℕ) (coordinates : List ℤ) (ask : Asked) (way : Option ℕ) : Type 0 where
  pub used : ℕ
  pub claims : ℕ
  pub walk : (m : ℕ) → way ≡ Some m → Searchable nodes used claims m
  pub lent : Readable ask coordinates claims

-- the room holds keys of claims that have references, and what they are given to has place for them
pub record GiveAsk (ask : Asked) (references kept room : List ℕ) : Type 0 where
  pub dist : ℕ → ℕ
  pub claims : List ℕ
  pub holds : Holding ask dist kept claims
  pub few : length kept ≡ ask.sought.size
  pub named : ask.sought.snapshot ≤ length references
  pub long : ask.sought.size * 3 ≤ length room

-- [4.8] the claims of l were put at the front of the room
pub record Gives (ref dist : ℕ → ℕ) (l before after : List ℕ) (count : ℕ) : Type 0 where
  pub room : after ≡ filled ref dist l before
  pub counts : count ≡ length l

-- what a page asks of a table that has a claim
pub record PageAsk (references : List ℕ) (coordinates : List ℤ) (nodes : List ℕ) (ask : Asked) (room : List ℕ) : Type 0 where
  pub used : ℕ
  pub claims : ℕ
  pub some : 0 < used
  pub lent : Readable ask coordinates claims
  pub tree : Neartree nodes (apart_by ask coordinates) used claims
  pub stored : ask.sought.snapshot ≤ claims
  pub named : claims ≤ length references
  pub long : ask.sought.size * 3 ≤ length room

-- [4.6] [4.8] the first so many admitted claims stand at the front of the room
abbrev pub AskFilled : Asked → List ℕ → (ℕ → ℕ) → List ℕ → List ℕ → ℕ → Type 0
AskFilled ask references dist o o' r = Filled ask.order (reference_at references) dist (ok_by ask dist) ask.sought.snapshot ask.sought.size o o' r
