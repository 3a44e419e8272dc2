-- What a query that fits is known for, the query of a frame from its fields, and where the frame goes on behind its place. No contract cites this file. Assumes nothing.
use Prim.Native.Nat.{ℕ, ◌+◌, ◌*◌}
use native.Mathlib.Omega.{arith}
use mathlib.Core.Path.{◌≡◌}
use mathlib.Core.Bool.{true}
use mathlib.Core.List.{List}
use lib.ListN.{length, drop}
use lib.Seq.{drop-drop}
use lib.Dec.{eqb}
use lib.IntN.{ℤ}
use borrow.Author.Tests.{eqb-true, eq-eqb}
use Rattle.paper.specs.Frames.{num}
use Rattle.paper.specs.Points.{in_range, InRange}
use Rattle.paper.proofs.Ranges.{range_is}
use Rattle.paper.specs.Orders.{Query, query_in}
use Rattle.paper.specs.Fields.{in_slots, coords_in}
use Rattle.paper.specs.Lines.{behind, query_at, query_fits}
use Rattle.paper.specs.declared.orders.Order.{Order}
use Rattle.std.proofs.lemmas.Bool.{and_parts}
use Rattle.line_fields.proofs.PartLaws.{length_coords_in}
use Rattle.line_fields.proofs.Round.{take_slots, behind_eq}

-- where what stands behind the mark number begins
pub last_at : (f : List ℕ) (at : ℕ) → at ≡ 28 + 4 * num 1 (drop 6 f) → drop at f ≡ drop 21 (behind f)
unfolding behind
last_at f at e = let q : at ≡ 7 + 4 * num 1 (drop 6 f) + 21 = omega arith in rw (drop-drop, q)

pub record QueryFits (q : Query) : Type 0 where
  pub test : in_range q.measure q.d ≡ true
  pub range : InRange q.measure q.d
  pub count : length q.probe ≡ q.d

pub query_fits_lem : (q : Query) → query_fits q ≡ true → QueryFits q
unfolding query_fits
query_fits_lem q e =
    let b = and_parts (in_range q.measure q.d) (eqb (length q.probe) q.d) e in
    record { test = b.0; range = range_is q.measure q.d b.0; count = eqb-true (length q.probe) q.d b.1 }

-- a query that was read fits
pub read_fits : (o : Order) (f : List ℕ) → in_range (num 1 (drop 5 f)) (num 1 (drop 6 f)) ≡ true → query_fits (query_in (query_at o f)) ≡ true
unfolding query_fits query_at
read_fits o f e = rw (e, take_slots (num 1 (drop 6 f)) (drop 7 f), eq-eqb _ _ (length_coords_in (num 1 (drop 6 f)) (drop 7 f)))

-- the query of a frame, from its fields
pub query_value : (o : Order) (f : List ℕ) (table measure d at reach : ℕ) (probe : List ℤ) → d ≡ num 1 (drop 6 f) → at ≡ 7 + 4 * d → table ≡ num 4 (drop 1 f)
    → measure ≡ num 1 (drop 5 f) → probe ≡ in_slots d (coords_in d (drop 7 f)) → reach ≡ num 8 (drop at f)
    → record { order = o; table = table; measure = measure; d = d; probe = probe; reach = reach } ≡ query_at o f
unfolding query_at
query_value o f table measure d at reach probe e q t m p r = rw (t, m, p, r, q, e, behind_eq f)
