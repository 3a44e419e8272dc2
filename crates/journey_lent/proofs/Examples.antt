-- The small world lives. Assumes nothing.
use Prim.Native.Nat.{ℕ, ◌+◌, ◌<◌, ◌^◌}
use mathlib.Core.Path.{refl, ap, ◌∙◌}
use mathlib.Core.Bool.{Bool}
use mathlib.Core.List.{List, [], ◌∷◌}
use native.Mathlib.Omega.{arith}
use lib.IntN.{ℤ, pos}
use lib.ListN.{length, take, drop, replicate}
use lib.Signed.{mag}
use Rattle.paper.specs.declared.orders.Order.{Order}
use Rattle.paper.specs.Points.{measure_of, weigh, joined, distance, point, in_range}
use Rattle.paper.specs.declared.orders.Item.{Item}
use Rattle.paper.specs.Orders.{Query, insert, item_of, listed, last_of}
use Rattle.paper.specs.Tree.{new_node, entered_from, entered, built, claims_from, claims_in, fits, same_front, afresh, sound}
use Rattle.paper.specs.References.{references_of, is_among, anew}
use Rattle.paper.specs.Runs.{added, added_run, enter_call}
use Rattle.paper.specs.Ends.{table_of, matches, opening}
use Rattle.paper.specs.Fields.{in_slots, query_in_slots}
use Rattle.paper.specs.Lists.{items_in, listing, opened_as, opening_held}
use Rattle.paper.specs.Calls.{table_refusal}
use Rattle.orders.specs.LawfulLines.{Typed}
use Rattle.orders.proofs.Lists.{all_mem}
use Rattle.journey.specs.Promise.{MayAsk}
use Rattle.journey_lent.specs.Elsewhere.{References}
use Rattle.journey_lent.specs.World.{enters, opens, the_listing, next_lent, LentAllowed, happens, LentReachable, begins, goes, LentLater}
use Rattle.journey_lent.specs.Promise.{GrowsHeld}
use Rattle.journey_lent.specs.Examples.{small, around, opened, Lives}
use Rattle.journey_lent.proofs.Demand.{that_answer_makes_the_list_grow}

small_typed : References (replicate 2 0)
small_typed r m = all_mem (λ (k : ℕ). k < 2 ^ 32) r (replicate 2 0) (omega arith, (omega arith, tt)) m

run_typed : References (5 ∷ [])
run_typed r m = all_mem (λ (k : ℕ). k < 2 ^ 32) r (5 ∷ []) (omega arith, tt) m

module _ (order : Order) where
  around_typed : Typed (around order)
  around_typed =
      record { table = omega arith; reach = omega arith; probe = λ x m. all_mem (λ (k : ℤ). mag k < 2 ^ 31) x (pos 4 ∷ []) (omega arith, tt) m }

  reached : LentReachable (opened order)
  unfolding LentAllowed
  reached =
      goes (goes (begins small (unfold table_refusal sound afresh built same_front fits in_range in refl) small_typed)
      (happens (enters (5 ∷ []) (pos 3 ∷ [])) run_typed)) (happens (opens (around order) (replicate 3 9)) around_typed)

  may : MayAsk (table_of (opened order).store) (the_listing (opened order) 0) 1
  unfolding next_lent enter_call anew is_among references_of claims_from fits in_range sound afresh built same_front added_run added opening_held opening opened_as matches entered new_node entered_from listing
      query_in_slots in_slots
  may = record { ours = refl; unfinished = refl; one = omega arith; most = omega arith }

  here : 0 < length (opened order).lists
  unfolding next_lent enter_call anew is_among references_of claims_from fits in_range sound afresh built same_front added_run added opening_held opening
  here = omega arith

  grows : GrowsHeld (opened order) (opened order) (opened order) 0 1
  grows = that_answer_makes_the_list_grow (opened order) reached (opened order) (opened order) LentLater.still LentLater.still 0 1 here may refl

  abbrev found : Query → ℕ → List Item
  found q n = take (length (the_listing (opened order) 0).items + 1) (listed q (claims_in (opened order).store) n)

  abbrev ended : Query → ℕ → Bool
  ended q n = last_of 1 (drop (length (the_listing (opened order) 0).items) (listed q (claims_in (opened order).store) n))

  pub lives : Lives order
  unfolding next_lent enter_call anew is_among references_of claims_from fits in_range sound afresh built same_front added_run added opening_held opening opened_as entered new_node entered_from listing items_in
      query_in_slots in_slots listed item_of insert measure_of weigh joined distance point last_of
  lives =
      record {
        reached = reached;
        asks = may;
        grows = grows;
        items = grows.extended.front
            ∙ ap (λ (q : Query). found q grows.grown.snapshot) grows.extended.query
            ∙ ap (found (the_listing (opened order) 0).query) grows.extended.snapshot;
        complete = grows.extended.complete
            ∙ ap (λ (q : Query). ended q grows.grown.snapshot) grows.extended.query
            ∙ ap (ended (the_listing (opened order) 0).query) grows.extended.snapshot;
      }
