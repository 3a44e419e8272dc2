-- Items in a room, read one by one, and what one pass over them means. Assumes nothing.
use Prim.Native.Nat.{ℕ, zero, suc, ◌+◌, ◌-◌, ◌*◌, ◌<◌, ◌≤◌}
use mathlib.Core.Path.{◌≡◌, refl, ◌∙◌}
use mathlib.Core.Bool.{Bool, true, false, ◌&&◌}
use mathlib.Core.List.{List, [], ◌∷◌}
use native.Mathlib.Omega.{arith}
use lib.ListN.{get_or, drop}
use lib.Seq.{get_or-drop, drop-drop}
use Rattle.std.proofs.Math.Bool.{and-false}
use Rattle.std.specs.List.{list_all, range_with_len}
use Rattle.paper.specs.declared.orders.Order.{Order}
use Rattle.paper.specs.declared.orders.Place.{Place}
use Rattle.paper.specs.declared.orders.Place.TheVariants.{Start}
use Rattle.paper.specs.declared.orders.Item.{Item}
use Rattle.paper.specs.Orders.{no_item, follows}
use Rattle.paper.specs.Ends.{fitting, leads, rising, every}
use Rattle.paper.specs.Lists.{items_in}
use Rattle.end_tablet.specs.Holding.{item_holds, items_hold}

-- ---- items in a room

-- item i of a room
abbrev pub item_at : List ℕ → ℕ → Item
item_at room i = record { number = get_or room (i * 3) 0; reference = get_or room (i * 3 + 1) 0; distance = get_or room (i * 3 + 2) 0 }

pub items_open : (room : List ℕ) (i count : ℕ) → i < count
    → items_in (count - i) (drop (i * 3) room) ≡ item_at room i ∷ items_in (count - (i + 1)) (drop ((i + 1) * 3) room)
unfolding items_in
items_open room i count h =
    let e : count - i ≡ suc (count - (i + 1)) = omega arith in
    let n : (i + 1) * 3 ≡ i * 3 + 3 = omega arith in
    let z : i * 3 + 0 ≡ i * 3 = omega arith in
    rw (e, n, get_or-drop (i * 3) room 0 0, z, get_or-drop (i * 3) room 1 0, get_or-drop (i * 3) room 2 0, drop-drop 3 (i * 3) room)

pub item_get : (n k : ℕ) (room : List ℕ) → k < n → get_or (items_in n room) k no_item ≡ item_at room k
unfolding items_in
item_get zero k room h = absurd (omega arith)
item_get (suc n) zero room h = refl
item_get (suc n) (suc k) room h =
    let a : 3 + k * 3 ≡ suc k * 3 = omega arith in
    let b : 3 + (k * 3 + 1) ≡ suc k * 3 + 1 = omega arith in
    let e : 3 + (k * 3 + 2) ≡ suc k * 3 + 2 = omega arith in
    item_get n k (drop 3 room) (omega arith)
    ∙ rw (get_or-drop 3 room (k * 3) 0, get_or-drop 3 room (k * 3 + 1) 0, get_or-drop 3 room (k * 3 + 2) 0, a, b, e)

pub items_none : (room : List ℕ) (i count : ℕ) → count ≤ i → items_in (count - i) (drop (i * 3) room) ≡ []
unfolding items_in
items_none room i count h = let e : count - i ≡ 0 = omega arith in rw e

-- what the test of one item meets
pub ruleset opening = (items_open, items_none)

-- ---- one pass over the items, from item i on

module _ (o : Order) (p : Place) (reach snapshot : ℕ) (room : List ℕ) (count : ℕ) where
  abbrev pub holds_at : ℕ → Bool
  holds_at i = item_holds o p reach snapshot (items_in (count - i) (drop (i * 3) room))

  pass_from : (n i : ℕ) → i + n ≡ count → list_all holds_at (range_with_len i n) ≡ items_hold o p reach snapshot (items_in (count - i) (drop (i * 3) room))
  unfolding items_hold
  pass_from zero i e = rw (items_none room i count (omega arith))
  pass_from (suc n) i e = rw (pass_from n (i + 1) (omega arith), items_open room i count (omega arith))

  pub pass_all : list_all holds_at (range_with_len 0 count) ≡ items_hold o p reach snapshot (items_in count room)
  pass_all = let e : count - 0 ≡ count = omega arith in rw e at (pass_from count 0 (omega arith))

-- ---- what one pass means

pub pass_means : (o : Order) (p : Place) (reach snapshot : ℕ) (l : List Item)
    → items_hold o p reach snapshot l ≡ rising o l && (every (follows o p) l && every (fitting reach snapshot) l)
unfolding items_hold item_holds rising every
pass_means o p reach snapshot [] = refl
pass_means o p reach snapshot (a ∷ l) =
    regroup (fitting reach snapshot a) (follows o p a) (leads o a l) (items_hold o p reach snapshot l) (rising o l) (every (follows o p) l) (every (fitting reach snapshot) l)
    (pass_means o p reach snapshot l)
  where
    regroup : (f w n h R W F : Bool) → h ≡ R && (W && F) → (f && (w && n)) && h ≡ (n && R) && ((w && W) && (f && F))
    regroup true true true h R W F e = e
    regroup true true false h R W F e = refl
    regroup true false n h R W F e = simp and-false
    regroup false w n h R W F e = simp and-false

-- from the start nothing is held back
pub every_start : (o : Order) (l : List Item) → every (follows o Start) l ≡ true
unfolding every follows
every_start o [] = refl
every_start o (a ∷ l) = every_start o l
