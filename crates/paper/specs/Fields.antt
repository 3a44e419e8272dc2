-- The parts that the kinds of line are made of, as bytes, as values read from bytes, and with their ranges. Assumes nothing.
use Rattle.std.specs.Prelude.{ℕ, zero, suc, ◌-◌, ◌*◌, Bool, true, cond, ◌&&◌, ◌||◌, List, [], ◌∷◌, ◌++◌, drop, replicate, ltb, leb, eqb, ℤ, pos}
use Rattle.std.specs.Int.{w32}
use Rattle.std.proofs.Common.{of_z, to_z}
use Rattle.paper.specs.Frames.{be, num}
use Rattle.paper.specs.declared.lines.Scope.{Scope}
use Rattle.paper.specs.declared.queries.Query as queries
use Rattle.paper.specs.Orders.{Query}
use Rattle.paper.specs.Limits.{item_room, most_claims, most_number, most_coordinates}

-- [5.4] the head of a frame: kind, table number, measure, d
unfoldable pub head : ℕ → ℕ → ℕ → ℕ → List ℕ
head k t m d = be 1 k ++ (be 4 t ++ (be 1 m ++ be 1 d))

-- [5.3] coordinates have four bytes each, in two's complement
unfoldable pub coord_bytes : List ℤ → List ℕ
coord_bytes [] = []
coord_bytes (z ∷ zs) = be 4 (of_z w32 z) ++ coord_bytes zs

-- [5.3] the d coordinates at the front of a frame
unfoldable pub coords_in : ℕ → List ℕ → List ℤ
coords_in zero f = []
coords_in (suc d) f = to_z w32 (num 4 f) ∷ coords_in d (drop 4 f)

-- [5.14] [7.3] d coordinates in eight slots, the unused ones 0
unfoldable pub in_slots : ℕ → List ℤ → List ℤ
in_slots d zs = zs ++ replicate (most_coordinates - d) (pos 0)

-- [7.3] a query as code holds it, its probe's unused slots 0
unfoldable pub query_in_slots : Query → queries.Query
query_in_slots q =
    record {
      order = q.order;
      table = q.table;
      measure = q.measure;
      d = q.d;
      probe = in_slots q.d q.probe;
      reach = q.reach;
    }

-- [5.5] the reach, and the scope behind it: from, snapshot, and the mark's distance and number
unfoldable pub scope_bytes : ℕ → Scope → List ℕ
scope_bytes reach p = be 8 reach ++ (be 1 p.from ++ (be 2 p.snapshot ++ (be 8 p.distance ++ be 2 p.number)))

-- [5.5] [5.6] what an ask and an answer begin with: all up to the mark's number
unfoldable pub front : ℕ → Query → Scope → List ℕ
front k q p = head k q.table q.measure q.d ++ (coord_bytes q.probe ++ scope_bytes q.reach p)

-- [5.5] the scope behind the reach at the front of a frame
unfoldable pub scope_in : List ℕ → Scope
scope_in f =
    record { from = num 1 (drop 8 f); snapshot = num 2 (drop 9 f); distance = num 8 (drop 11 f); number = num 2 (drop 19 f) }

-- [5.8] [5.9] [5.10] from, snapshot and number are in their ranges, and at the start the mark's two fields are 0
unfoldable pub scope_ok : Scope → Bool
scope_ok p =
    leb p.from 1
    && (leb p.snapshot most_claims && (leb p.number most_number && (eqb p.from 1 || (eqb p.distance 0 && eqb p.number 0))))

-- [5.8] [9.19] a flag is 0 or 1
abbrev pub flag_of : Bool → ℕ
flag_of b = cond b 1 0

-- [5.6] an item's number, reference and distance
unfoldable pub item_frame : ℕ → ℕ → ℕ → List ℕ
item_frame n r x = be 2 n ++ (be 4 r ++ be 8 x)

-- [5.6] [2.6] items, from three numbers for each
unfoldable pub item_bytes : List ℕ → List ℕ
item_bytes [] = []
item_bytes (n ∷ []) = []
item_bytes (n ∷ r ∷ []) = []
item_bytes (n ∷ r ∷ x ∷ rest) = item_frame n r x ++ item_bytes rest

-- [5.6] the k items at the front of a frame
unfoldable pub item_numbers : ℕ → List ℕ → List ℕ
item_numbers zero f = []
item_numbers (suc k) f = num 2 f ∷ num 4 (drop 2 f) ∷ num 8 (drop 6 f) ∷ item_numbers k (drop 14 f)

-- [5.14] k items in room for sixteen, the unused ones 0
unfoldable pub item_slots : ℕ → List ℕ → List ℕ
item_slots k ns = ns ++ replicate (item_room - 3 * k) 0

-- [5.9] the numbers of items are in their range
unfoldable pub numbers_ok : List ℕ → Bool
numbers_ok [] = true
numbers_ok (n ∷ []) = true
numbers_ok (n ∷ r ∷ []) = true
numbers_ok (n ∷ r ∷ x ∷ rest) = leb n most_number && numbers_ok rest

-- [1.2] [8.10] references have 32 bits: a rule for writers only, which are handed more bits than the field has
unfoldable pub references_ok : List ℕ → Bool
references_ok [] = true
references_ok (n ∷ []) = true
references_ok (n ∷ r ∷ []) = true
references_ok (n ∷ r ∷ x ∷ rest) = ltb r 4294967296 && references_ok rest
