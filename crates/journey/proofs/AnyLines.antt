-- The promise over a link, for any lines that obey the laws, in both orders, and with lines from elsewhere. Assumes nothing.
use Prim.Native.Nat.{ℕ, ◌<◌, ◌≤◌}
use mathlib.Core.Path.{◌≡◌, refl, ap, ◌∙◌}
use mathlib.Core.Bool.{Bool, true, false}
use mathlib.Core.List.{List, Memᴰ}
use native.Mathlib.Omega.{arith}
use lib.ListN.{length}
use Rattle.paper.specs.Ends.{Codec, count, Listing}
use Rattle.orders.proofs.Lists.{all_get_d, all_mem}
use Rattle.orders.specs.LawfulLines.{Lawful}
use Rattle.journey.specs.World.{World, no_listing, the_list, Reachable, Later, still, onwards, Unshared}
use Rattle.journey.specs.Promise.{all_of, Truthful, MayAsk, Answered, Grows}
use Rattle.journey.proofs.Kept.{ListExact, TableGrown, grown_matches, kept_grown, kept_sound}
use Rattle.journey.proofs.Growth.{MayAnswer, is_answered, has_grown}
use Rattle.journey.proofs.Queries.{QueryKept, next_keeps}
use Rattle.journey.proofs.Journey.{Good, always, later_grown, later_reachable, later_lists}
use Rattle.paper.specs.Limits.{most_claims}

module _ (c : Codec) (law : Lawful c) (Elsewhere : List ℕ → Type 0) (w : World) (r : Reachable c Elsewhere w) where
  module _ (L : Listing) (m : Memᴰ L w.lists) (alone : Unshared c Elsewhere L.query.table) where
    exact : ListExact w.table L
    exact = (all_mem _ L w.lists (always c law Elsewhere r).lists m).kept alone

    pub truthful : Truthful w.table L
    truthful =
        let ok = (always c law Elsewhere r).table in
        let few : count w.table ≤ most_claims = omega (arith, ok.fits, ok.small) in
        record {
          sound = λ room h. kept_sound w.table L room exact.kept few h;
          held = exact.kept.held;
          front = exact.kept.front;
          ours = exact.kept.ours;
        }

    pub whole : L.complete ≡ true → L.items ≡ all_of w.table L
    whole = exact.kept.whole

    pub ended : L.started ≡ true → L.items ≡ all_of w.table L → L.complete ≡ true
    ended p e = go L.complete refl
      where
        go : (b : Bool) → L.complete ≡ b → b ≡ true
        go true q = refl
        go false q = absurd (omega (arith, exact.missing p q, ap length e))

  -- a list that may ask in w is ready wherever its ask arrives later
  ready : (v : World) (i size : ℕ) → Later c Elsewhere w v → Unshared c Elsewhere (the_list w i).query.table → i < length w.lists
      → MayAsk w.table (the_list w i) size → MayAnswer v.table (the_list w i) size
  ready v i size l alone here may =
      let good : Good c law Elsewhere w.table (the_list w i) =
      all_get_d _ w.lists i no_listing (always c law Elsewhere r).lists here in
      let g : TableGrown w.table v.table = later_grown c law Elsewhere w l in
      record {
        table = (always c law Elsewhere (later_reachable c law Elsewhere w r l)).table;
        kept = kept_grown _ _ g (the_list w i) (good.kept alone).kept;
        ours = grown_matches _ _ g (the_list w i).query ∙ may.ours;
        unfinished = may.unfinished;
        one = may.one;
        most = may.most;
      }

  module _ (v : World) (l : Later c Elsewhere w v) (i size : ℕ) (alone : Unshared c Elsewhere (the_list w i).query.table) (here : i < length w.lists)
      (may : MayAsk w.table (the_list w i) size) where
    pub answered : Answered c w v i size
    answered = is_answered c law w v i size (ready w i size Later.still alone here may) (ready v i size l alone here may)

    pub grows : (u : World) → Later c Elsewhere v u → the_list u i ≡ the_list w i → Grows c w v u i size
    grows u k stands =
        has_grown c law w v u i size (ready v i size l alone here may) (later_grown c law Elsewhere v k) stands
        (omega (arith, later_lists c law Elsewhere w l, later_lists c law Elsewhere v k))

-- a list keeps its query at every later moment
module _ (c : Codec) (law : Lawful c) (Elsewhere : List ℕ → Type 0) where
  pub later_query : (w : World) {v : World} → Later c Elsewhere w v → QueryKept w v
  later_query w still i h = refl
  later_query w (onwards {v} l e a) i h =
      next_keeps c v e i (omega (arith, later_lists c law Elsewhere w l)) ∙ later_query w l i h
