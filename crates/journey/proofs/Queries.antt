-- [7.1] A list keeps what it was opened for, whatever line it takes and whatever else happens. Assumes nothing.
use Prim.Native.Nat.{ℕ, ◌<◌}
use mathlib.Core.Path.{◌≡◌, refl, sym, ap, ◌∙◌}
use mathlib.Core.Bool.{Bool, true, false}
use mathlib.Core.List.{List, []}
use lib.Dec.{eqb}
use lib.ListN.{length, get_or-append}
use lib.Seq.{get_or-append_seam, get_or-set_same, get_or-set_other}
use borrow.Author.Tests.{eqb-true, eqb-false}
use Rattle.paper.specs.Orders.{Query}
use Rattle.paper.specs.Points.{in_range}
use Rattle.paper.specs.Outcomes.{Outcome, refused, gives}
use Rattle.paper.specs.Ends.{Codec, Table, Listing, fresh, opening, asking, office, taking}
use Rattle.paper.proofs.Outcomes.{must_rest, same_given}
use Rattle.orders.proofs.Taking.{took_line_query}
use Rattle.journey.specs.World.{World, Event, enters, opens, asks, receives, takes, strays, no_listing, the_list, table_changed, sent, list_added, list_changed, run_entering, next}

-- each list of w still has its query in v
abbrev pub QueryKept : World → World → Type 0
QueryKept w v = (i : ℕ) → i < length w.lists → (the_list v i).query ≡ (the_list w i).query

changed_keeps : (w : World) (x : Outcome Table) → QueryKept w (table_changed w x)
changed_keeps w (refused n) i h = refl
changed_keeps w (gives t) i h = refl

sent_keeps : (w : World) (x : Outcome (List ℕ)) → QueryKept w (sent w x)
sent_keeps w (refused n) i h = refl
sent_keeps w (gives s) i h = refl

added_keeps : (w : World) (x : Outcome Listing) → QueryKept w (list_added w x)
added_keeps w (refused n) i h = refl
added_keeps w (gives L) i h = ap (λ (K : Listing). K.query) (get_or-append w.lists _ no_listing i h)

module _ (c : Codec) where
  moved_keeps : (w : World) (j room : ℕ) (s : List ℕ) (x : Outcome Listing) → taking c room (the_list w j) s ≡ x → QueryKept w (list_changed w j x)
  moved_keeps w j room s (refused n) e i h = refl
  moved_keeps w j room s (gives K) e i h = go (eqb i j) refl
    where
      go : (b : Bool) → eqb i j ≡ b → (the_list (list_changed w j (gives K)) i).query ≡ (the_list w i).query
      go true p =
          let q : i ≡ j = eqb-true i j p in
          rw (← q) (ap (λ (L : Listing). L.query) (get_or-set_same w.lists i K no_listing h) ∙ rw q (took_line_query c room (the_list w j) s K e))
      go false p = ap (λ (L : Listing). L.query) (get_or-set_other w.lists j i K no_listing (eqb-false i j p))

  pub next_keeps : (w : World) (e : Event) → QueryKept w (next c w e)
  unfolding next
  next_keeps w (enters run) = changed_keeps w (run_entering w.table run)
  next_keeps w (opens q) = added_keeps w (opening q)
  next_keeps w (asks i size room out) = sent_keeps w (asking c room size out (the_list w i))
  next_keeps w (receives s out) = sent_keeps w (office c w.table out s)
  next_keeps w (takes i room s) = moved_keeps w i room s _ refl
  next_keeps w (strays s) = sent_keeps w (gives s)

  -- a list that is opened stands behind the others, with the query that it was opened for
  pub opened_query : (w : World) (q : Query) (L : Listing) → opening q ≡ gives L → (the_list (next c w (opens q)) (length w.lists)).query ≡ q
  unfolding next opening
  opened_query w q L e =
      let is : fresh q ≡ L = same_given _ _ (must_rest (eqb (length q.probe) q.d) 5 _ _ (must_rest (in_range q.measure q.d) 1 _ _ e)) in
      rw e (ap (λ (K : Listing). K.query) (get_or-append_seam w.lists L [] no_listing ∙ sym is))
