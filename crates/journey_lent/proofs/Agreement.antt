-- On a sound table and a sound list, each public call gives what the definition on claims and listings gives, and is refused under the same
-- number. Assumes nothing.
use Prim.Native.Nat.{ℕ, ◌*◌}
use mathlib.Core.Path.{◌≡◌, refl, sym, ap}
use mathlib.Core.Bool.{Bool, true, false, cond}
use mathlib.Core.List.{List, [], ◌∷◌}
use native.Mathlib.Omega.{arith}
use lib.Dec.{eqb}
use lib.IntN.{ℤ}
use lib.ListN.{length}
use borrow.Author.Tests.{eqb-true, ne_eqb}
use Rattle.paper.specs.Orders.{Query}
use Rattle.paper.specs.Outcomes.{gives, must, onto}
use Rattle.paper.specs.Points.{in_range}
use Rattle.paper.specs.Tree.{Store, fits, sound}
use Rattle.paper.specs.Runs.{enter_call}
use Rattle.paper.specs.Ends.{table_of, office, Listing, fresh, opening, every, asking, taking}
use Rattle.paper.specs.Lists.{Held, held, room_for, listing, held_well, opened_as, opening_held, asking_held, taking_held}
use Rattle.paper.specs.Calls.{office_call}
use Rattle.paper.specs.Codec.{lines}
use Rattle.paper.proofs.Outcomes.{must_go}
use Rattle.orders.proofs.Rooms.{listing_opened}
use Rattle.tree.proofs.TestedTables.{fits_fit}
use Rattle.journey.specs.World.{run_entering}
use Rattle.journey_lent.specs.EnteredRuns.{run_of, call_enters}
use Rattle.journey_lent.proofs.EnteringRuns.{the_world_enters_as_the_call_does}
use Rattle.journey_lent.specs.Seen.{run_seen}

module _ (s : Store) (fit : fits s ≡ true) (well : sound s ≡ true) where
  -- [9.10] the office
  pub office_agrees : (out : ℕ) (line : List ℕ) → office_call s out line ≡ office lines (table_of s) out line
  unfolding office_call office
  office_agrees out line = rw (fit, well)

  -- [9.6] entering, whatever the run
  pub enter_agrees : (given : List ℕ) (points : List ℤ) → call_enters s given points ≡ run_entering (table_of s) (run_seen s given points)
  unfolding run_seen
  enter_agrees given points = sym (go (eqb (length points) (s.table.d * length given)) refl)
    where
      go : (b : Bool) → eqb (length points) (s.table.d * length given) ≡ b
          → run_entering (table_of s) (cond b (run_of s given points) (record { reference = 0; point = [] } ∷ [])) ≡ call_enters s given points
      go true e = the_world_enters_as_the_call_does s given points fit well (eqb-true (length points) (s.table.d * length given) e)
      go false e = unfold run_entering call_enters enter_call every in
          rw (fit, well, e, ne_eqb 0 s.table.d (λ p. omega (arith, (fits_fit s fit).range.wide)))

-- [9.11] opening, in whatever room
pub open_agrees : (q : Query) (room : List ℕ) → onto (opening_held q) (λ l. gives (listing (held l room))) ≡ opening q
unfolding opening opening_held
open_agrees q room = go (in_range q.measure q.d) (eqb (length q.probe) q.d) refl
  where
    go : (a b : Bool) → eqb (length q.probe) q.d ≡ b
        → onto (onto (must a 1 (must b 5 (gives (fresh q)))) (λ (L : Listing). gives (opened_as q))) (λ l. gives (listing (held l room)))
        ≡ must a 1 (must b 5 (gives (fresh q)))
    go false b e = refl
    go true false e = refl
    go true true e = ap gives (listing_opened q room (eqb-true (length q.probe) q.d e))

-- [9.12] [9.13] asking and taking
module _ (h : Held) (well : held_well h.list.query ≡ true) where
  pub ask_agrees : (size out : ℕ) → asking_held lines h size out ≡ asking lines (room_for h) size out (listing h)
  unfolding asking_held
  ask_agrees size out = must_go _ _ _ well

  pub take_agrees : (line : List ℕ) → taking_held lines h line ≡ taking lines (room_for h) (listing h) line
  unfolding taking_held
  take_agrees line = must_go _ _ _ well
