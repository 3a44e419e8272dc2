-- Section 3 of the rules: the tree. Here claims j and k are `e j k` apart. Definitions only.
use Rattle.std.specs.Prelude.{ℕ, zero, suc, ◌+◌, ◌-◌, ◌*◌, max, Bool, true, cond, ◌&&◌, List, [], ◌∷◌, ◌++◌, leb, eqb, ℤ, length, get_or, set, drop, replicate}
use Rattle.std.specs.Borrow.{Bor, MutBor}
use Rattle.paper.specs.declared.tables.Table.{Table}
use Rattle.paper.specs.Points.{measure_of, distance, in_range, Claim, point}
use Rattle.paper.specs.Limits.{most_claims}

-- [3.3] [3.4] a node is six numbers. Of side s, 0 left or 1 right: its claim's number plus one in field s, its far distance
-- in field 2 + s, the number of the node below it plus one in field 4 + s; 0 is no claim and no node
abbrev pub field_at : List ℕ → ℕ → ℕ → ℕ
field_at nodes m f = get_or nodes (m * 6 + f) 0

abbrev pub put_field : List ℕ → ℕ → ℕ → ℕ → List ℕ
put_field nodes m f v = set nodes (m * 6 + f) v

abbrev pub side_claim : List ℕ → ℕ → ℕ → ℕ
side_claim nodes m s = field_at nodes m s - 1

-- fields 1 to f of node w made 0
unfoldable pub cleared : List ℕ → ℕ → ℕ → List ℕ
cleared nodes w zero = nodes
cleared nodes w (suc f) = put_field (cleared nodes w f) w (suc f) 0

-- [3.6] a new node in node w: claim k on its left, and 0 in all other fields
unfoldable pub new_node : List ℕ → ℕ → ℕ → List ℕ
new_node nodes w k = cleared (put_field nodes w 0 (k + 1)) w 5

-- [3.8] the side that claim k goes below at a node with two claims: the nearer one, the left of two as near
unfoldable pub near_side : (ℕ → ℕ → ℕ) → List ℕ → ℕ → ℕ → ℕ
near_side e nodes m k = cond (leb (e (side_claim nodes m 0) k) (e (side_claim nodes m 1) k)) 0 1

-- [3.9] the far distance of side s raised, where it is smaller, to how far claim k is from the side's claim
unfoldable pub raise : (ℕ → ℕ → ℕ) → List ℕ → ℕ → ℕ → ℕ → List ℕ
raise e nodes m s k = put_field nodes m (2 + s) (max (field_at nodes m (2 + s)) (e (side_claim nodes m s) k))

-- nodes, with how many are in use
pub record Grown : Type 0 where
  pub nodes : List ℕ
  pub used : ℕ

abbrev pub grown : List ℕ → ℕ → Grown
grown nodes used = record { nodes = nodes; used = used }

-- [3.6] [3.7] [3.10] [3.11] claim k entered from node m, through so many nodes at most: on the right where no claim is, and otherwise from
-- the node below the nearer side, or, where field 4 + s says that there is none, into the next node not in use
unfoldable pub entered_from : ℕ → (ℕ → ℕ → ℕ) → ℕ → ℕ → ℕ → List ℕ → Grown
entered_from zero e used k m nodes = grown nodes used
entered_from (suc times) e used k m nodes =
    cond (eqb (field_at nodes m 1) 0)
    (grown (put_field nodes m 1 (k + 1)) used)
    (cond (eqb (field_at nodes m (4 + near_side e nodes m k)) 0)
    (grown (new_node (put_field (raise e nodes m (near_side e nodes m k) k) m (4 + near_side e nodes m k) (used + 1)) used k) (used + 1))
    (entered_from times e used k (field_at nodes m (4 + near_side e nodes m k) - 1) (raise e nodes m (near_side e nodes m k) k)))

-- [3.5] claim k entered from the root, which the first claim makes
unfoldable pub entered : (ℕ → ℕ → ℕ) → ℕ → ℕ → List ℕ → Grown
entered e zero k nodes = grown (new_node nodes 0 k) 1
entered e (suc u) k nodes = entered_from (suc u) e (suc u) k 0 nodes

-- [3.12] claims 0 to n - 1 entered by rising number
unfoldable pub built : (ℕ → ℕ → ℕ) → ℕ → List ℕ → Grown
built e zero nodes = grown nodes 0
built e (suc n) nodes = entered e (built e n nodes).used n (built e n nodes).nodes

-- [3.2] a table with the memory that its caller lends
pub record Store : Type 0 where
  pub table : Table
  pub references : List ℕ
  pub coordinates : List ℤ
  pub nodes : List ℕ

abbrev pub store : Table → List ℕ → List ℤ → List ℕ → Store
store t references coordinates nodes = record { table = t; references = references; coordinates = coordinates; nodes = nodes }

-- the same for the memory that a call is lent, as the references to it find it
abbrev pub lent : Table → Bor (List ℕ) → Bor (List ℤ) → Bor (List ℕ) → Store
lent t references coordinates nodes = store t references.now coordinates.now nodes.now

-- the same where the call may write to it
abbrev pub lent_mut : Table → MutBor (List ℕ) → MutBor (List ℤ) → MutBor (List ℕ) → Store
lent_mut t references coordinates nodes = store t references.now coordinates.now nodes.now

-- the lent memory alone
pub record Memory : Type 0 where
  pub references : List ℕ
  pub coordinates : List ℤ
  pub nodes : List ℕ

abbrev pub memory : List ℕ → List ℤ → List ℕ → Memory
memory references coordinates nodes = record { references = references; coordinates = coordinates; nodes = nodes }

abbrev pub lent_memory : MutBor (List ℕ) → MutBor (List ℤ) → MutBor (List ℕ) → Memory
lent_memory references coordinates nodes = memory references.now coordinates.now nodes.now

-- [1.4] how far claims j and k are apart, by measure and d, where the coordinates stand one after another
unfoldable pub apart : ℕ → ℕ → List ℤ → ℕ → ℕ → ℕ
apart measure d coordinates j k = distance (measure_of measure) d (drop (j * d) coordinates) (drop (k * d) coordinates)

abbrev pub apart_in : Store → ℕ → ℕ → ℕ
apart_in s = apart s.table.measure s.table.d s.coordinates

-- what a claim's row holds beside its place: its reference
abbrev pub reference_at : List ℕ → ℕ → ℕ
reference_at references k = get_or references k 0

abbrev pub with_reference : List ℕ → ℕ → ℕ → List ℕ
with_reference references k reference = set references k reference

-- [1.1] [1.4] the first n claims of the lent memory
unfoldable pub claims_from : ℕ → ℕ → List ℕ → List ℤ → List Claim
claims_from d zero references coordinates = []
claims_from d (suc n) references coordinates =
    claims_from d n references coordinates
    ++ (record { reference = reference_at references n; point = point d coordinates n } ∷ [])

abbrev pub claims_in : Store → List Claim
claims_in s = claims_from s.table.d s.table.count s.references s.coordinates

-- [3.1] [3.2] [8.1] measure, d and capacity are in their ranges, and each slice is long enough for them
unfoldable pub fits : Store → Bool
fits s =
    in_range s.table.measure s.table.d
    && ((leb 1 s.table.capacity && leb s.table.capacity most_claims)
    && (leb s.table.capacity (length s.references)
    && (leb (s.table.capacity * s.table.d) (length s.coordinates)
    && leb (s.table.capacity * 6) (length s.nodes))))

-- the first w numbers of the two are the same
unfoldable pub same_front : ℕ → List ℕ → List ℕ → Bool
same_front zero a b = true
same_front (suc w) a b = same_front w a b && eqb (get_or a w 0) (get_or b w 0)

-- [3.12] what the claims make when they are entered into nodes that held nothing
unfoldable pub afresh : (ℕ → ℕ → ℕ) → ℕ → Grown
afresh e n = built e n (replicate (n * 6) 0)

-- [3.12] [3.13] [8.2] no more claims than the capacity, and the nodes in use, how many and every field, are what the claims make; the
-- other nodes are not read
unfoldable pub sound : Store → Bool
sound s =
    leb s.table.count s.table.capacity
    && (eqb (afresh (apart_in s) s.table.count).used s.table.used
    && same_front (s.table.used * 6) (afresh (apart_in s) s.table.count).nodes s.nodes)
