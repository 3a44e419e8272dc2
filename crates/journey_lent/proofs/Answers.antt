-- [7.13] A list in lent memory asks, its ask is answered, and it takes the answer: what journey proves of this, carried over. Assumes nothing.
use Prim.Native.Nat.{ℕ, ◌<◌}
use mathlib.Core.Path.{◌≡◌, refl, sym, ap, ◌∙◌}
use mathlib.Core.List.{List, ◌∷◌}
use native.Mathlib.Omega.{arith}
use lib.ListN.{length, length-map}
use borrow.Author.Tests.{eqb-true}
use Rattle.paper.specs.Ends.{table_of, matches, Listing}
use Rattle.paper.specs.Lists.{room_for, listing}
use Rattle.paper.specs.Codec.{lines}
use Rattle.paper.proofs.Tests.{and_first}
use Rattle.orders.proofs.Sound.{soundness}
use Rattle.journey_lent.proofs.RealLines.{lawful}
use Rattle.journey.specs.World as journey
use Rattle.journey.specs.Promise.{ask_line_of, MayAsk, Answered, Grows}
use Rattle.journey.proofs.Journey.{later_lists}
use Rattle.journey.proofs.AnyLines as any
use Rattle.journey_lent.specs.Elsewhere.{Foreign}
use Rattle.journey_lent.specs.World.{LentWorld, takes, the_held, the_listing, next_lent, LentReachable, LentLater}
use Rattle.journey_lent.specs.Seen.{seen}
use Rattle.journey_lent.specs.Promise.{ask_in, reply_in, AnsweredHeld, GrowsHeld}
use Rattle.journey_lent.proofs.SoundMemory.{SoundMemory, the_sound, sound_in_lem, sound_memory}
use Rattle.journey_lent.proofs.Seen.{list_seen, asks_seen, receives_seen, takes_seen, later_reachable, later_seen, number_stays, reachable_seen}
use Rattle.journey_lent.proofs.Elsewhere.{unshared}

-- list i, which may ask for a page of this size
module _ (w : LentWorld) (r : LentReachable w) (i size : ℕ) (here : i < length w.lists) (may : MayAsk (table_of w.store) (the_listing w i) size) where
  abbrev Elsewhere : List ℕ → Type 0
  Elsewhere = Foreign w.store.table.number

  alone : journey.Unshared lines Elsewhere (journey.the_list (seen w) i).query.table
  unfolding matches
  alone =
      let own : (journey.the_list (seen w) i).query.table ≡ w.store.table.number = rw (list_seen w i) (eqb-true _ _ (and_first _ _ may.ours)) in
      rw own (unshared w.store.table.number)

  here_seen : i < length (seen w).lists
  here_seen = omega (arith, length-map w.lists listing)

  may_seen : MayAsk (seen w).table (journey.the_list (seen w) i) size
  may_seen = rw (list_seen w i) may

  module _ (v : LentWorld) (l : LentLater w v) where
    v_sound : SoundMemory v
    v_sound = sound_memory (later_reachable r l)

    as_journey : Answered lines (seen w) (seen v) i size
    as_journey =
        any.answered lines lawful Elsewhere (seen w) (reachable_seen r) (seen v) (later_seen _ refl r l) i size alone here_seen may_seen

    pub answered_held : AnsweredHeld w v i size
    answered_held =
        let roomy = (soundness (room_for (the_held w i)) (the_listing w i) (sound_in_lem _ (the_sound w i here (sound_memory r)))).roomy in
        record {
          written = λ out g.
              ap (λ (x : journey.World). x.air) (asks_seen w (sound_memory r) i size out here)
              ∙ as_journey.written (room_for (the_held w i)) out (rw (list_seen w i) roomy) g
              ∙ ap (λ (L : Listing). ask_line_of lines L size ∷ w.air) (list_seen w i);
          answered = λ out g.
              ap (λ (x : journey.World). x.air) (receives_seen v v_sound (ask_in w i size) out)
              ∙ rw (list_seen w i) at (as_journey.answered out g);
        }

    module _ (u : LentWorld) (k : LentLater v u) (stands : the_listing u i ≡ the_listing w i) where
      u_sound : SoundMemory u
      u_sound = sound_memory (later_reachable (later_reachable r l) k)

      v_later_seen : journey.Later lines Elsewhere (seen v) (seen u)
      v_later_seen = later_seen _ (number_stays r l) (later_reachable r l) k

      u_here : i < length u.lists
      u_here =
          omega (
            arith,
            length-map w.lists listing,
            length-map u.lists listing,
            later_lists lines lawful Elsewhere (seen w) (later_seen _ refl r l),
            later_lists lines lawful Elsewhere (seen v) v_later_seen,
          )

      grows : Grows lines (seen w) (seen v) (seen u) i size
      grows =
          any.grows lines lawful Elsewhere (seen w) (reachable_seen r) (seen v) (later_seen _ refl r l) i size alone here_seen may_seen (seen u) v_later_seen
          (list_seen u i ∙ stands ∙ sym (list_seen w i))

      -- [7.7] the list that took the answer stands in its room
      pub grows_held : GrowsHeld w v u i size
      grows_held =
          record {
            grown = grows.grown;
            accepted = λ h.
                sym (list_seen (next_lent u (takes i (reply_in w v i size))) i)
                ∙ ap (λ (x : journey.World). journey.the_list x i) (takes_seen u u_sound i (reply_in w v i size) u_here)
                ∙ rw (list_seen w i) at (grows.accepted (room_for (the_held u i)) h);
            extended = rw (list_seen w i) at grows.extended;
          }
