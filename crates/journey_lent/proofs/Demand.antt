-- The promise over a link, in its order, for every reachable world in lent memory: with the lines of other tables and of any lists in the
-- air, and of every list, in either order, that was opened for the world's table. Assumes nothing.
use Prim.Native.Nat.{ℕ, ◌<◌, ◌≤◌}
use mathlib.Core.Path.{◌≡◌, ap}
use mathlib.Core.Bool.{true}
use mathlib.Core.List.{List, [], ◌∷◌, map, Memᴰ}
use lib.ListN.{length, take}
use Rattle.paper.specs.declared.lists.List as lists
use Rattle.paper.specs.Points.{Claim}
use Rattle.paper.specs.declared.orders.Item.{Item}
use Rattle.paper.specs.Orders.{Query, item_of, listed, query_in}
use Rattle.paper.specs.Outcomes.{gives}
use Rattle.paper.specs.Tree.{claims_in}
use Rattle.paper.specs.Ends.{table_of}
use Rattle.paper.specs.Lists.{Held, listing, opening_held}
use Rattle.paper.specs.Codec.{lines}
use Rattle.orders.specs.LawfulLines.{Typed}
use Rattle.orders.proofs.Lists.{all_mem, all_take}
use Rattle.orders.proofs.Sorted.{rising_take, IsOf, listed_are, listed_rising}
use Rattle.orders.proofs.Meaning.{listed_has, listed_only}
use Rattle.journey_lent.proofs.RealLines.{lawful}
use Rattle.journey.specs.World.{Unshared}
use Rattle.journey.specs.Promise.{all_of, MayAsk}
use Rattle.journey.proofs.AnyLines as any
use Rattle.journey_lent.specs.Elsewhere.{Foreign}
use Rattle.journey_lent.specs.World.{LentWorld, opens, the_listing, next_lent, LentReachable, LentLater}
use Rattle.journey_lent.specs.Seen.{seen}
use Rattle.journey_lent.specs.Promise.{TruthfulHeld, AnsweredHeld, GrowsHeld}
use Rattle.journey_lent.proofs.SoundMemory.{sound_memory}
use Rattle.journey_lent.proofs.Seen.{reachable_seen}
use Rattle.journey_lent.proofs.Elsewhere.{unshared}
use Rattle.journey_lent.proofs.Answers.{answered_held, grows_held}
use Rattle.journey_lent.proofs.Queries.{query_kept}

mem_map : {A B : Type 0} (f : A → B) (x : A) (l : List A) → Memᴰ x l → Memᴰ (f x) (map f l)
mem_map f x [] m = elim m [ ]
mem_map f x (y ∷ l) (Memᴰ.head e) = Memᴰ.head (ap f e)
mem_map f x (y ∷ l) (Memᴰ.tail m) = Memᴰ.tail (mem_map f x l m)

-- a front of what is listed that has every claim is all of it
front_with_all : (q : Query) (cs : List Claim) (s n : ℕ) (l : List Item) → l ≡ take n (listed q cs s)
    → ((k : ℕ) → k < s → (item_of q cs k).distance ≤ q.reach → Memᴰ (item_of q cs k) l) → l ≡ listed q cs s
front_with_all q cs s n l e has =
    listed_only q cs s l
    (rw e (rising_take q.order n (listed q cs s) (listed_rising q cs s)))
    (λ z m. all_mem (IsOf q cs s) z (take n (listed q cs s)) (all_take (IsOf q cs s) n (listed q cs s) (listed_are q cs s)) (rw e at m))
    has

module _ (w : LentWorld) (r : LentReachable w) where
  -- every list that is for the number of the world's table
  module _ (h : Held) (m : Memᴰ h w.lists) (ours : h.list.query.table ≡ w.store.table.number) where
    alone : Unshared lines (Foreign w.store.table.number) (listing h).query.table
    unfolding listing
    alone = rw ours (unshared w.store.table.number)

    -- [7.12] at every moment it is sound in its room, and the first so many of what is listed at its snapshot
    pub every_list_is_the_first_so_many : TruthfulHeld w.store h
    every_list_is_the_first_so_many =
        record {
          sound = all_mem _ h w.lists (sound_memory r).lists m;
          truthful = any.truthful lines lawful _ (seen w) (reachable_seen r) (listing h) (mem_map listing h w.lists m) alone;
        }

    -- [7.12] where it is complete it has all of it
    pub complete_only_when_none_is_missing : h.list.complete ≡ true → (listing h).items ≡ all_of (table_of w.store) (listing h)
    unfolding listing
    complete_only_when_none_is_missing c = any.whole lines lawful _ (seen w) (reachable_seen r) (listing h) (mem_map listing h w.lists m) alone c

    -- [7.12] and once it has started it is complete exactly when it has
    pub complete_exactly_when_none_is_missing : h.list.started ≡ true
        → (h.list.complete ≡ true → (listing h).items ≡ all_of (table_of w.store) (listing h)) × ((listing h).items ≡ all_of (table_of w.store) (listing h) → h.list.complete ≡ true)
    unfolding listing
    complete_exactly_when_none_is_missing started =
        (complete_only_when_none_is_missing, any.ended lines lawful _ (seen w) (reachable_seen r) (listing h) (mem_map listing h w.lists m) alone started)

    -- [7.12] claim by claim
    pub a_complete_list_has_every_claim : h.list.complete ≡ true → (k : ℕ) → k < h.list.snapshot
        → (item_of (query_in h.list.query) (claims_in w.store) k).distance ≤ h.list.query.reach
        → Memᴰ (item_of (query_in h.list.query) (claims_in w.store) k) (listing h).items
    unfolding listing
    a_complete_list_has_every_claim c k below within =
        rw (complete_only_when_none_is_missing c) (listed_has (query_in h.list.query) (claims_in w.store) h.list.snapshot k below within)

    -- [7.12] so one that has started and has every claim is complete
    pub a_list_with_every_claim_is_complete : h.list.started ≡ true
        → ((k : ℕ) → k < h.list.snapshot → (item_of (query_in h.list.query) (claims_in w.store) k).distance ≤ h.list.query.reach
        → Memᴰ (item_of (query_in h.list.query) (claims_in w.store) k) (listing h).items)
        → h.list.complete ≡ true
    unfolding listing
    a_list_with_every_claim_is_complete started has =
        (complete_exactly_when_none_is_missing started).1
        (front_with_all (query_in h.list.query) (claims_in w.store) h.list.snapshot (length (listing h).items) (listing h).items
        every_list_is_the_first_so_many.truthful.front has)

  -- [7.13] the present ask of a list that is for the table is answered, wherever it reaches the office and finds room
  pub the_present_ask_is_answered : (v : LentWorld) → LentLater w v → (i size : ℕ) → i < length w.lists
      → MayAsk (table_of w.store) (the_listing w i) size → AnsweredHeld w v i size
  the_present_ask_is_answered v l i size here may = answered_held w r i size here may v l

  -- [7.13] that answer, taken before the list has moved and with room for it, adds a full page or all that is left
  pub that_answer_makes_the_list_grow : (v u : LentWorld) → LentLater w v → LentLater v u → (i size : ℕ) → i < length w.lists
      → MayAsk (table_of w.store) (the_listing w i) size → the_listing u i ≡ the_listing w i → GrowsHeld w v u i size
  that_answer_makes_the_list_grow v u l k i size here may stands = grows_held w r i size here may v l u k stands

  -- [7.1] a list that is opened is for what it was opened for, at every later moment
  pub a_list_keeps_what_it_was_opened_for : (q : Query) (room : List ℕ) → Typed q → (l : lists.List)
      → opening_held q ≡ gives l → (v : LentWorld) → LentLater (next_lent w (opens q room)) v → (the_listing v (length w.lists)).query ≡ q
  a_list_keeps_what_it_was_opened_for q room typed l given v k = query_kept w r q room typed l given v k
