-- What a walk may rely on: the facts of nodes that entering has built. Here claims j and k are `e j k` apart, there are `n` claims, and the
-- first `used` nodes are in use. Definitions only.
use Rattle.std.specs.Prelude.{ℕ, ◌+◌, ◌-◌, ◌*◌, ◌<◌, ◌≤◌, ◌^◌, ◌≡◌, List, ℤ, length}
use Rattle.paper.specs.Tree.{field_at, grown, built}
use Rattle.paper.specs.Limits.{most_claims, most_coordinates}

-- node m has all of its six numbers
abbrev pub Inside : List ℕ → ℕ → Type 0
Inside nodes m = m * 6 + 5 < length nodes

-- the numbers of node m are claims that are stored, and nodes in use that lie above m
pub record NodeOk (nodes : List ℕ) (used n m : ℕ) : Type 0 where
  pub left : 0 < field_at nodes m 0
  pub stored : (s : ℕ) → s < 2 → field_at nodes m s ≤ n
  pub rises : (s : ℕ) → s < 2 → (field_at nodes m (4 + s) ≡ 0 → ⊥) → m + 1 < field_at nodes m (4 + s)
  pub leads : (s : ℕ) → s < 2 → field_at nodes m (4 + s) ≤ used

unfoldable pub Linked : List ℕ → ℕ → ℕ → Type 0
Linked nodes used n = (m : ℕ) → m < used → NodeOk nodes used n m

-- [3.8] [3.9] claim j is on side s of node m, or below it: then the side's far distance reaches it, and the side is the nearer one of the
-- node's two, the left one of two as near. A claim goes below a side only where both sides are taken, so it is numbered above both: field 1 is
-- the number of the right claim, the later of the two, plus one
pub data Under (nodes : List ℕ) (e : ℕ → ℕ → ℕ) : ℕ → ℕ → ℕ → Type 0 where
  here : {m s j : ℕ} → field_at nodes m s ≡ j + 1 → Under nodes e m s j
  deeper : {m s j : ℕ} (k o w z : ℕ) → field_at nodes m s ≡ k + 1 → e k j ≤ field_at nodes m (2 + s) → field_at nodes m (1 - s) ≡ o + 1 → e k j + s ≤ e o j
      → field_at nodes m 1 ≤ j → field_at nodes m (4 + s) ≡ w + 1 → z < 2 → Under nodes e w z j → Under nodes e m s j

-- claim j is on a side of node m, or below it
pub record Holds (nodes : List ℕ) (e : ℕ → ℕ → ℕ) (m j : ℕ) : Type 0 where
  pub side : ℕ
  pub which : side < 2
  pub under : Under nodes e m side j

-- what a search from node m needs
pub record Searchable (nodes : List ℕ) (used n m : ℕ) : Type 0 where
  pub linked : Linked nodes used n
  pub room : used * 6 ≤ length nodes
  pub in_use : m < used

-- the nodes are a neartree of the n claims
pub record Neartree (nodes : List ℕ) (e : ℕ → ℕ → ℕ) (used n : ℕ) : Type 0 where
  pub linked : Linked nodes used n
  pub room : used * 6 ≤ length nodes
  pub few : n ≤ most_claims
  pub empty : used ≡ 0 → n ≡ 0
  pub all : (j : ℕ) → j < n → Holds nodes e 0 j

-- claims numbered below n have their d coordinates in the lent memory
pub record Located (d n : ℕ) (coordinates : List ℤ) : Type 0 where
  pub narrow : d ≤ most_coordinates
  pub inside : n * d ≤ length coordinates

-- claim k, the first that is not entered yet, can be
pub record Enterable (nodes : List ℕ) (used d : ℕ) (coordinates : List ℤ) (k : ℕ) : Type 0 where
  pub linked : Linked nodes used k
  pub room : used * 6 + 6 ≤ length nodes
  pub few : k + 1 < 2 ^ 64
  pub located : Located d (k + 1) coordinates

-- [3.12] the nodes are what entering the n claims gives: to enter them again changes nothing
unfoldable pub IsBuilt : (ℕ → ℕ → ℕ) → ℕ → List ℕ → ℕ → Type 0
IsBuilt e n nodes used = built e n nodes ≡ grown nodes used
