-- No call on a reachable world finds cause for 1 or 2: its table and its lists stay sound. Assumes nothing.
use Prim.Native.Nat.{ℕ, ◌*◌, ◌/◌, ◌<◌, ◌≤◌}
use mathlib.Core.Path.{◌≡◌, refl, sym, ap, ◌∙◌, subst}
use mathlib.Core.Bool.{true}
use mathlib.Core.List.{List, [], ◌++◌}
use native.Mathlib.Omega.{arith}
use lib.Dec.{eqb}
use lib.IntN.{ℤ}
use lib.ListN.{length, take}
use borrow.Author.Tests.{eqb-true, eq-eqb, le-leb}
use Rattle.paper.specs.declared.lists.List as lists
use Rattle.paper.specs.Limits.{most_claims}
use Rattle.paper.specs.Orders.{Query, flat}
use Rattle.paper.specs.Outcomes.{Outcome, refused, gives, leaves}
use Rattle.paper.specs.Points.{in_range}
use Rattle.paper.specs.Tree.{Store, fits, sound}
use Rattle.paper.specs.Runs.{enter_call}
use Rattle.paper.specs.Ends.{Listing, fresh, opening, rising, every, started_well, sound_in}
use Rattle.paper.specs.Lists.{Held, held, no_list, items_in, room_for, listing, held_well, sound_held, opened_as, opening_held, asking_held, taking_held, held_after}
use Rattle.paper.specs.Calls.{table_refusal, office_call}
use Rattle.paper.specs.Codec.{lines}
use Rattle.paper.proofs.Outcomes.{must_test, must_rest, number_0, through, same_given}
use Rattle.paper.proofs.Tests.{and_first, and_second, and_both}
use Rattle.orders.proofs.Lists.{All, all_append, all_set, all_get_d}
use Rattle.orders.proofs.Rooms.{read_flat, flat_in, length_in, listing_opened, opened_well, held_sound}
use Rattle.orders.proofs.Sound.{soundness, sound_of}
use Rattle.journey_lent.proofs.RealLines.{lawful}
use Rattle.tree.specs.Soundness.{Good}
use Rattle.tree.proofs.TestedTables.{fit_fits, good_sound}
use Rattle.tree.proofs.RunLaws.{entered_good}
use Rattle.journey_lent.specs.World.{LentWorld, LentEvent, enters, opens, asks, receives, takes, strays, the_held, put_table, put_list, put_in_air, put_held, next_lent, LentAllowed, Copied, LentStep, happens, copies, LentReachable, begins, goes}

-- ---- one list

abbrev pub IsSound : Held → Type 0
IsSound h = sound_held h ≡ true

module _ (h : Held) (e : IsSound h) where
  pub sound_well : held_well h.list.query ≡ true
  unfolding sound_held
  sound_well = and_first _ _ e

  pub sound_in_lem : sound_in (room_for h) (listing h) ≡ true
  unfolding sound_held
  sound_in_lem = and_second (held_well h.list.query) _ e

fresh_sound : (q : Query) (room : ℕ) → in_range q.measure q.d ≡ true → length q.probe ≡ q.d → sound_in room (fresh q) ≡ true
unfolding sound_in rising every started_well
fresh_sound q room a b = rw (a, eq-eqb (length q.probe) q.d b, le-leb 0 most_claims (omega arith), le-leb 0 room (omega arith))

-- a list that was opened
opened_sound : (q : Query) (room : List ℕ) (l : lists.List) → opening_held q ≡ gives l → IsSound (held l room)
unfolding opening_held opening sound_held
opened_sound q room l e =
    let t = through (opening q) (λ L. gives (opened_as q)) l e in
    let r : in_range q.measure q.d ≡ true = must_test (in_range q.measure q.d) 1 _ _ t.first in
    let n : length q.probe ≡ q.d =
    eqb-true _ _ (must_test (eqb (length q.probe) q.d) 5 _ _ (must_rest (in_range q.measure q.d) 1 _ _ t.first)) in
    subst (λ (k : lists.List). IsSound (held k room)) (same_given _ _ t.second)
    (and_both _ _ (opened_well q n) (rw (listing_opened q room n) (fresh_sound q _ r n)))

-- one that took a line, or refused it
after_sound : (h : Held) (line : List ℕ) (o : Outcome Listing) → taking_held lines h line ≡ o → IsSound h → IsSound (held_after h o)
after_sound h line (refused n) e s = unfold held_after in s
after_sound h line (gives L) e s = held_sound lines h line L e lawful

-- the items at the front of a room are what its first numbers say
items_front : (k : ℕ) (r : List ℕ) → 3 * k ≤ length r → items_in k r ≡ items_in k (take (3 * k) r ++ [])
items_front k r h =
    sym (read_flat (items_in k r) []) ∙ ap (λ (n : ℕ). items_in n (flat (items_in k r) ++ [])) (length_in k r)
    ∙ ap (λ (l : List ℕ). items_in k (l ++ [])) (flat_in k r h)

-- one that goes on in another room
module _ (h : Held) (s : IsSound h) (room : List ℕ) (c : Copied h room) where
  pub copied_same : listing (held h.list room) ≡ listing h
  unfolding listing
  copied_same =
      let k : ℕ = h.list.count in
      let roomy : 3 * k ≤ length h.room =
      let few = (soundness (room_for h) (listing h) (sound_in_lem h s)).roomy in omega (arith, few, length_in k h.room) in
      let e : items_in k room ≡ items_in k h.room =
      items_front k room c.enough ∙ ap (λ (l : List ℕ). items_in k (l ++ [])) c.same ∙ sym (items_front k h.room roomy) in
      λ i. record {
        query = (listing h).query;
        started = h.list.started;
        snapshot = h.list.snapshot;
        complete = h.list.complete;
        items = e i;
      }

  copied_sound : IsSound (held h.list room)
  unfolding sound_held
  copied_sound =
      let p = soundness (room_for h) (listing h) (sound_in_lem h s) in
      let few : length (listing h).items ≤ length room / 3 = unfold listing in omega (arith, c.enough, length_in h.list.count h.room) in
      and_both _ _ (sound_well h s)
      (rw copied_same
      (sound_of (length room / 3) (listing h)
      (record { range = p.range; long = p.long; small = p.small; roomy = few; rises = p.rises; fit = p.fit; well = p.well })))

-- ---- the world

pub record SoundMemory (w : LentWorld) : Type 0 where
  pub fit : fits w.store ≡ true
  pub table : sound w.store ≡ true
  pub lists : All IsSound w.lists

pub the_sound : (w : LentWorld) (i : ℕ) → i < length w.lists → SoundMemory w → IsSound (the_held w i)
the_sound w i here m = all_get_d IsSound w.lists i (held no_list []) m.lists here

-- [9.5] a table that may be asked
pub asked_sound : (s : Store) → table_refusal s ≡ 0 → (fits s ≡ true) × (sound s ≡ true)
unfolding table_refusal
asked_sound s e = let a = number_0 (fits s) 0 _ e in (a.0, (number_0 (sound s) 1 (gives s) a.1).0)

table_sound : (w : LentWorld) (given : List ℕ) (points : List ℤ) (o : Outcome Store) → enter_call w.store given points ≡ o → SoundMemory w
    → SoundMemory (leaves put_table o w)
table_sound w given points (refused n) e m = m
table_sound w given points (gives s) e m =
    let g : Good s = (entered_good w.store given points s e).0 in
    record { fit = fit_fits s g.fit; table = good_sound s g; lists = m.lists }

list_sound : (w : LentWorld) (q : Query) (room : List ℕ) (o : Outcome lists.List) → opening_held q ≡ o → SoundMemory w
    → SoundMemory (leaves (put_list room) o w)
list_sound w q room (refused n) e m = m
list_sound w q room (gives l) e m =
    record { fit = m.fit; table = m.table; lists = all_append IsSound w.lists _ m.lists (opened_sound q room l e, tt) }

air_sound : (w : LentWorld) (o : Outcome (List ℕ)) → SoundMemory w → SoundMemory (leaves put_in_air o w)
air_sound w (refused n) m = m
air_sound w (gives s) m = record { fit = m.fit; table = m.table; lists = m.lists }

held_at_sound : (w : LentWorld) (i : ℕ) (h : Held) → IsSound h → SoundMemory w → SoundMemory (put_held i h w)
held_at_sound w i h s m = record { fit = m.fit; table = m.table; lists = all_set IsSound w.lists i h m.lists s }

event_sound : (w : LentWorld) (e : LentEvent) → LentAllowed w e → SoundMemory w → SoundMemory (next_lent w e)
unfolding next_lent LentAllowed
event_sound w (enters given points) a m = table_sound w given points _ refl m
event_sound w (opens q room) a m = list_sound w q room _ refl m
event_sound w (asks i size out) a m = air_sound w (asking_held lines (the_held w i) size out) m
event_sound w (receives line out) a m = air_sound w (office_call w.store out line) m
event_sound w (takes i line) a m = held_at_sound w i _ (after_sound (the_held w i) line _ refl (the_sound w i a.0 m)) m
event_sound w (strays line) a m = air_sound w (gives line) m

step_sound : {w v : LentWorld} → LentStep w v → SoundMemory w → SoundMemory v
step_sound {w} (happens e a) m = event_sound w e a m
step_sound {w} (copies i here room c) m = held_at_sound w i _ (copied_sound (the_held w i) (the_sound w i here m) room c) m

pub sound_memory : {w : LentWorld} → LentReachable w → SoundMemory w
sound_memory (begins s e typed) = let a = asked_sound s e in record { fit = a.0; table = a.1; lists = tt }
sound_memory (goes r s) = step_sound s (sound_memory r)
