-- [7.1] A list that is opened in lent memory stands behind the others, and keeps what it was opened for. Assumes nothing.
use Prim.Native.Nat.{ℕ, ◌<◌}
use mathlib.Core.Path.{◌≡◌, refl, sym, ap, ◌∙◌, subst}
use mathlib.Core.List.{List, [], ◌∷◌}
use native.Mathlib.Omega.{arith}
use lib.ListN.{length, length-map, length-append}
use Rattle.paper.specs.declared.lists.List as lists
use Rattle.paper.specs.Orders.{Query}
use Rattle.paper.specs.Outcomes.{gives}
use Rattle.paper.specs.Ends.{Listing, opening}
use Rattle.paper.specs.Lists.{held, listing, opened_as, opening_held}
use Rattle.paper.specs.Codec.{lines}
use Rattle.paper.proofs.Outcomes.{through}
use Rattle.orders.specs.LawfulLines.{Typed}
use Rattle.journey_lent.proofs.RealLines.{lawful}
use Rattle.journey.specs.World as journey
use Rattle.journey.proofs.Queries.{opened_query}
use Rattle.journey.proofs.AnyLines as any
use Rattle.journey_lent.specs.World.{LentWorld, opens, the_listing, next_lent, LentAllowed, happens, LentReachable, goes, LentLater}
use Rattle.journey_lent.specs.Seen.{seen}
use Rattle.journey_lent.proofs.SoundMemory.{sound_memory}
use Rattle.journey_lent.proofs.Seen.{list_seen, opens_seen, later_seen}

module _ (w : LentWorld) (r : LentReachable w) (q : Query) (room : List ℕ) (typed : Typed q) (l : lists.List)
    (given : opening_held q ≡ gives l) where
  abbrev n : ℕ
  n = length w.lists

  opened_reachable : LentReachable (next_lent w (opens q room))
  unfolding LentAllowed
  opened_reachable = goes r (happens (opens q room) typed)

  opened_here : n < length (next_lent w (opens q room)).lists
  unfolding next_lent
  opened_here = rw given (omega (arith, length-append w.lists (held l room ∷ [])))

  opened_with : (the_listing (next_lent w (opens q room)) n).query ≡ q
  unfolding opening_held
  opened_with =
      let L = through (opening q) (λ L. gives (opened_as q)) l given in
      let e : (journey.the_list (seen (next_lent w (opens q room))) (length (seen w).lists)).query ≡ q =
      ap (λ (x : journey.World). (journey.the_list x (length (seen w).lists)).query) (opens_seen w (sound_memory r) q room)
      ∙ opened_query lines (seen w) q L.value L.first in
      ap (λ (K : Listing). K.query) (sym (list_seen (next_lent w (opens q room)) n))
      ∙ subst (λ (k : ℕ). (journey.the_list (seen (next_lent w (opens q room))) k).query ≡ q) (length-map w.lists listing) e

  pub query_kept : (v : LentWorld) → LentLater (next_lent w (opens q room)) v → (the_listing v n).query ≡ q
  query_kept v later =
      ap (λ (K : Listing). K.query) (sym (list_seen v n))
      ∙ any.later_query lines lawful _ (seen (next_lent w (opens q room))) (later_seen _ refl opened_reachable later) n
      (omega (arith, opened_here, length-map (next_lent w (opens q room)).lists listing))
      ∙ ap (λ (K : Listing). K.query) (list_seen (next_lent w (opens q room)) n)
      ∙ opened_with
