-- A list as code holds it: what is held after a call is the list that the call gives, and stays sound. Assumes nothing.
use Prim.Native.Nat.{ℕ, zero, suc, ◌-◌, ◌*◌, ◌≤◌}
use mathlib.Core.Path.{◌≡◌, refl, sym, ap}
use mathlib.Core.Bool.{true}
use mathlib.Core.List.{List, [], ◌∷◌, ◌++◌}
use native.Mathlib.Omega.{arith}
use lib.IntN.{pos}
use lib.ListN.{length, take, drop, replicate, length-append, length-drop}
use lib.Seq.{take_at, drop_at}
use Rattle.paper.specs.declared.orders.Item.{Item}
use Rattle.paper.specs.Orders.{Query, query_in, flat, fronted}
use Rattle.paper.specs.Fields.{in_slots, query_in_slots}
use Rattle.paper.specs.Outcomes.{gives}
use Rattle.paper.specs.Ends.{Codec, Listing, fresh, every, same_z, sound_in, taking}
use Rattle.paper.specs.Lists.{Held, held, items_in, room_for, listing, unused_zero, held_well, sound_held, opened_as, taking_held, held_after}
use Rattle.orders.specs.LawfulLines.{Lawful}
use Rattle.paper.proofs.Tests.{and_both}
use Rattle.paper.proofs.Outcomes.{must_test, must_rest}
use Rattle.orders.proofs.Taking.{took_line_query}
use Rattle.orders.proofs.Sound.{soundness, stays_sound}

-- ---- items as numbers

pub read_flat : (l : List Item) (r : List ℕ) → items_in (length l) (flat l ++ r) ≡ l
unfolding items_in flat
read_flat [] r = refl
read_flat (x ∷ l) r = ap (λ (t : List Item). x ∷ t) (read_flat l r)

pub flat_length : (l : List Item) → length (flat l) ≡ 3 * length l
unfolding flat
flat_length [] = refl
flat_length (x ∷ l) = omega (arith, flat_length l)

-- the first numbers of items that stand in a room are those of the first items
pub flat_front : (n : ℕ) (l : List Item) (r : List ℕ) → n ≤ length l → take (3 * n) (flat l ++ r) ≡ flat (take n l)
unfolding flat
flat_front zero l r h = refl
flat_front (suc n) [] r h = absurd (omega arith)
flat_front (suc n) (x ∷ l) r h =
    let e : 3 * suc n ≡ suc (suc (suc (3 * n))) = omega arith in
    rw (e, flat_front n l r (omega arith))

-- the items that a room holds, as numbers, are its front
pub flat_in : (k : ℕ) (r : List ℕ) → 3 * k ≤ length r → flat (items_in k r) ≡ take (3 * k) r
unfolding flat items_in
flat_in zero r h = refl
flat_in (suc k) [] h = absurd (omega arith)
flat_in (suc k) (a ∷ []) h = absurd (omega arith)
flat_in (suc k) (a ∷ b ∷ []) h = absurd (omega arith)
flat_in (suc k) (a ∷ b ∷ d ∷ r) h =
    let e : 3 * suc k ≡ suc (suc (suc (3 * k))) = omega arith in
    rw (e, flat_in k r (omega arith))

pub length_in : (k : ℕ) (r : List ℕ) → length (items_in k r) ≡ k
unfolding items_in
length_in zero r = refl
length_in (suc k) r = ap suc (length_in k (drop 3 r))

pub flat_append : (a b : List Item) → flat (a ++ b) ≡ flat a ++ flat b
unfolding flat
flat_append [] b = refl
flat_append (x ∷ a) b = ap (λ (t : List ℕ). x.number ∷ x.reference ∷ x.distance ∷ t) (flat_append a b)

pub fronted_length : (l : List Item) (r : List ℕ) → 3 * length l ≤ length r → length (fronted l r) ≡ length r
unfolding fronted
fronted_length l r h = omega (arith, length-append (flat l) (drop (3 * length l) r), length-drop (3 * length l) r, flat_length l)

-- ---- what is held after a call

-- what is held after an accepted call is what the call gave
pub listing_put : (s : Held) (L : Listing) → L.query ≡ query_in s.list.query → listing (held_after s (gives L)) ≡ L
unfolding listing held_after fronted
listing_put s L e = λ i. record {
  query = sym e i;
  started = L.started;
  snapshot = L.snapshot;
  complete = L.complete;
  items = read_flat L.items (drop (3 * length L.items) s.room) i;
}

-- a line that a held list takes
module _ (c : Codec) (s : Held) (line : List ℕ) (L : Listing) (e : taking_held c s line ≡ gives L) where
  pub took_held : taking c (room_for s) (listing s) line ≡ gives L
  unfolding taking_held
  took_held = must_rest (held_well s.list.query) 2 _ _ e

  pub held_query : L.query ≡ query_in s.list.query
  unfolding listing
  held_query = took_line_query c (room_for s) (listing s) line L took_held

  -- the list moves as the definition says
  pub moves : listing (held_after s (gives L)) ≡ L
  moves = listing_put s L held_query

  -- and stays sound
  pub held_sound : Lawful c → sound_held (held_after s (gives L)) ≡ true
  unfolding sound_held taking_held held_after
  held_sound law =
      let h : sound_in (room_for s) L ≡ true = stays_sound c law (room_for s) (listing s) L line took_held in
      let f : length (fronted L.items s.room) ≡ length s.room = fronted_length L.items s.room (omega (arith, (soundness (room_for s) L h).roomy)) in
      and_both _ _ (must_test (held_well s.list.query) 2 _ _ e) (rw (moves, f) h)

-- ---- a list that was just opened

-- a query in its slots says what it said
pub query_placed : (q : Query) → length q.probe ≡ q.d → query_in (query_in_slots q) ≡ q
unfolding query_in_slots in_slots
query_placed q long =
    let e : take q.d (q.probe ++ replicate (8 - q.d) (pos 0)) ≡ q.probe = take_at q.probe _ q.d long in
    λ i. record { order = q.order; table = q.table; measure = q.measure; d = q.d; probe = e i; reach = q.reach }

-- a list that was just opened, in whatever room
pub listing_opened : (q : Query) (room : List ℕ) → length q.probe ≡ q.d → listing (held (opened_as q) room) ≡ fresh q
unfolding listing opened_as items_in
listing_opened q room long = ap fresh (query_placed q long)

zeros : (n : ℕ) → every (same_z (pos 0)) (replicate n (pos 0)) ≡ true
unfolding every
zeros zero = refl
zeros (suc n) = zeros n

-- stands as soundness asks
pub opened_well : (q : Query) → length q.probe ≡ q.d → held_well (opened_as q).query ≡ true
unfolding held_well unused_zero opened_as query_in_slots in_slots
opened_well q long = rw (drop_at q.probe (replicate (8 - q.d) (pos 0)) q.d long) (zeros (8 - q.d))
