-- The probe and the fields of a list: what each way through its soundness test gives, and that the test is the definition. Assumes nothing.
use Prim.Native.Nat.{ℕ, zero, suc, ◌*◌, ◌/◌, ◌<◌, ◌≤◌}
use mathlib.Core.Path.{◌≡◌, refl, sym, ◌∙◌}
use mathlib.Core.Bool.{Bool, true, false, ◌&&◌}
use mathlib.Core.List.{List, [], ◌∷◌}
use native.Mathlib.Omega.{arith}
use lib.Dec.{leb, eqb}
use lib.IntN.{ℤ, pos, negsuc}
use lib.ListN.{length, take}
use lib.Seq.{length-take-le, get_or-take}
use borrow.Author.Tests.{le-leb, lt-leb, leb-true, eq-eqb}
use Rattle.std.specs.List.{list_all}
use Rattle.std.specs.Cmp.Lexicographic.{pointwise}
use Rattle.std.specs.Ordering.{int_eq}
use Rattle.std.proofs.Math.Bool.{and-true, and_assoc}
use Rattle.std.proofs.lemmas.Bool.Decides.{nat_tests}
use Rattle.paper.specs.declared.lists.List as lists
use Rattle.paper.specs.declared.orders.Order.{Order}
use Rattle.paper.specs.declared.orders.Place.TheVariants.{Start}
use Rattle.paper.specs.declared.orders.Item.{Item}
use Rattle.paper.specs.Orders.{follows}
use Rattle.paper.specs.Points.{in_range}
use Rattle.paper.proofs.Ranges.{range_is}
use Rattle.paper.specs.Ends.{same_z, same_probe, every, rising, fitting, started_well, sound_in}
use Rattle.paper.specs.Lists.{held, items_in, listing, unused_zero, held_well, sound_held}
use Rattle.paper.proofs.Tests.{and_first, and_second, and_both, alike}
use Rattle.orders.proofs.Rooms.{length_in}
use Rattle.end_tablet.specs.Holding.{items_hold, started_by, fields_hold}
use Rattle.end_tablet.proofs.ItemLaws.{pass_means, every_start}
use Rattle.paper.specs.Limits.{most_claims}

-- ---- the probe

same_int : (x y : ℤ) → int_eq x y ≡ same_z x y
same_int (pos a) (pos b) = grind (arith, nat_tests)
same_int (pos a) (negsuc b) = refl
same_int (negsuc a) (pos b) = refl
same_int (negsuc a) (negsuc b) = grind (arith, nat_tests)

-- `==` goes from the first coordinate, and the definition from the last

same_front : (d : ℕ) (x y : ℤ) (p q : List ℤ) → same_probe (suc d) (x ∷ p) (y ∷ q) ≡ same_z x y && same_probe d p q
unfolding same_probe
same_front zero x y p q = sym (and-true (same_z x y))
same_front (suc d) x y p q = rw (same_front d x y p q, and_assoc)

pub same_pairs : (d : ℕ) (p q : List ℤ) → d ≤ length p → d ≤ length q → pointwise int_eq (take d p) (take d q) ≡ same_probe d p q
unfolding same_probe
same_pairs zero p q h k = refl
same_pairs (suc d) [] q h k = absurd (omega arith)
same_pairs (suc d) (x ∷ p) [] h k = absurd (omega arith)
same_pairs (suc d) (x ∷ p) (y ∷ q) h k =
    rw (same_int x y, same_pairs d p q (omega arith) (omega arith)) (sym (same_front d x y p q))

zero_int : (z : ℤ) → int_eq z (pos 0) ≡ same_z (pos 0) z
zero_int (pos a) = grind (arith, nat_tests)
zero_int (negsuc a) = refl

pub all_zero : (l : List ℤ) → list_all (λ z. int_eq z (pos 0)) l ≡ every (same_z (pos 0)) l
unfolding every
all_zero [] = refl
all_zero (z ∷ l) = rw (zero_int z, all_zero l)

-- the first d slots are all that is looked at
pub same_take : (d n m : ℕ) (p q : List ℤ) → d ≤ n → d ≤ m → same_probe d (take n p) (take m q) ≡ same_probe d p q
unfolding same_probe
same_take zero n m p q h k = refl
same_take (suc d) n m p q h k =
    rw (same_take d n m p q (omega arith) (omega arith), get_or-take n p d (pos 0) (omega arith), get_or-take m q d (pos 0) (omega arith))

-- ---- the fields

module _ (l : lists.List) (room : ℕ) (a : Bool) (ae : a ≡ in_range l.query.measure l.query.d) where
  pub way_range : a ≡ false → false ≡ fields_hold l room
  unfolding fields_hold
  way_range h = rw (← ae, h)

  pub range_d : a ≡ true → l.query.d ≤ 8
  range_d h = (range_is l.query.measure l.query.d (sym ae ∙ h)).narrow

  module _ (ha : a ≡ true) (b : Bool) (be : b ≡ unused_zero l.query.d l.query.probe) where
    pub way_unused : b ≡ false → false ≡ fields_hold l room
    unfolding fields_hold
    way_unused h = rw (← ae, ha, ← be, h)

    module _ (hb : b ≡ true) where
      pub way_most_snapshot : most_claims < l.snapshot → false ≡ fields_hold l room
      unfolding fields_hold
      way_most_snapshot h = rw (← ae, ha, ← be, hb, lt-leb l.snapshot most_claims h)

      module _ (hs : l.snapshot ≤ most_claims) where
        pub way_room : room / 3 < l.count → false ≡ fields_hold l room
        unfolding fields_hold
        way_room h = rw (← ae, ha, ← be, hb, le-leb l.snapshot most_claims hs, lt-leb l.count (room / 3) h)

        pub way_started : l.count ≤ room / 3 → (r : Bool) → r ≡ started_by l.started l.count l.snapshot l.complete → r ≡ fields_hold l room
        unfolding fields_hold
        way_started h r e = rw (← ae, ha, ← be, hb, le-leb l.snapshot most_claims hs, le-leb l.count (room / 3) h) e

-- ---- the whole test

pub record Fields (l : lists.List) (room : ℕ) : Type 0 where
  pub range : in_range l.query.measure l.query.d ≡ true
  pub unused : unused_zero l.query.d l.query.probe ≡ true
  pub snapshot : l.snapshot ≤ most_claims
  pub few : l.count ≤ room / 3
  pub start : started_by l.started l.count l.snapshot l.complete ≡ true

pub fields_facts : (l : lists.List) (room : ℕ) → fields_hold l room ≡ true → Fields l room
unfolding fields_hold
fields_facts l room h =
    let a = and_second (in_range l.query.measure l.query.d) _ h in
    let b = and_second (unused_zero l.query.d l.query.probe) _ a in
    let e = and_second (leb l.snapshot most_claims) _ b in
    record {
      range = and_first (in_range l.query.measure l.query.d) _ h;
      unused = and_first (unused_zero l.query.d l.query.probe) _ a;
      snapshot = leb-true l.snapshot most_claims (and_first (leb l.snapshot most_claims) _ b);
      few = leb-true l.count (room / 3) (and_first (leb l.count (room / 3)) _ e);
      start = and_second (leb l.count (room / 3)) _ e;
    }

-- [7.9] [7.10] the two parts of soundness: the fields, and the items
module _ (l : lists.List) (room : List ℕ) (eight : 7 < length l.query.probe) where
  abbrev o : Order
  o = l.query.order

  abbrev items : List Item
  items = items_in l.count room

  pub sound_splits : sound_held (held l room) ≡ fields_hold l (length room) && items_hold o Start l.query.reach l.snapshot items
  unfolding sound_held held_well sound_in listing fields_hold started_well started_by
  sound_splits =
      alike (sound_held (held l room)) (fields_hold l (length room) && items_hold o Start l.query.reach l.snapshot items)
      (λ h.
      let w = and_first (held_well l.query) _ h in
      let q = and_second (held_well l.query) _ h in
      let range = and_first (in_range l.query.measure l.query.d) _ q in
      let q₁ = and_second (in_range l.query.measure l.query.d) _ q in
      let q₂ = and_second (eqb (length (take l.query.d l.query.probe)) l.query.d) _ q₁ in
      let q₃ = and_second (leb l.snapshot most_claims) _ q₂ in
      let q₄ = and_second (leb (length items) (length room / 3)) _ q₃ in
      let q₅ = and_second (rising o items) _ q₄ in
      let few : leb l.count (length room / 3) ≡ true = rw (length_in l.count room) at (and_first (leb (length items) (length room / 3)) _ q₃) in
      let well : started_by l.started l.count l.snapshot l.complete ≡ true =
      rw (length_in l.count room) at (and_second (every (fitting l.query.reach l.snapshot) items) _ q₅) in
      and_both (fields_hold l (length room)) (items_hold o Start l.query.reach l.snapshot items)
      (and_both (in_range l.query.measure l.query.d) _ range
      (and_both (unused_zero l.query.d l.query.probe) _ w
      (and_both (leb l.snapshot most_claims) _ (and_first (leb l.snapshot most_claims) _ q₂)
      (and_both (leb l.count (length room / 3)) _ few well))))
      (pass_means o Start l.query.reach l.snapshot items
      ∙ and_both (rising o items) _ (and_first (rising o items) _ q₄)
      (and_both (every (follows o Start) items) _ (every_start o items) (and_first (every (fitting l.query.reach l.snapshot) items) _ q₅))))
      (λ h.
      let f = fields_facts l (length room) (and_first (fields_hold l (length room)) _ h) in
      let p = sym (pass_means o Start l.query.reach l.snapshot items) ∙ and_second (fields_hold l (length room)) _ h in
      let p₁ = and_second (rising o items) _ p in
      let dim : l.query.d ≤ 8 = (range_is l.query.measure l.query.d f.range).narrow in
      let few : leb (length items) (length room / 3) ≡ true = rw (length_in l.count room) (le-leb l.count (length room / 3) f.few) in
      let well : started_by l.started (length items) l.snapshot l.complete ≡ true = rw (length_in l.count room) f.start in
      and_both (held_well l.query) _ f.unused
      (and_both (in_range l.query.measure l.query.d) _ f.range
      (and_both (eqb (length (take l.query.d l.query.probe)) l.query.d) _ (eq-eqb _ _ (length-take-le l.query.d l.query.probe (omega arith)))
      (and_both (leb l.snapshot most_claims) _ (le-leb l.snapshot most_claims f.snapshot)
      (and_both (leb (length items) (length room / 3)) _ few
      (and_both (rising o items) _ (and_first (rising o items) _ p)
      (and_both (every (fitting l.query.reach l.snapshot) items) _ (and_second (every (follows o Start) items) _ p₁) well)))))))

  -- the ways through the test
  module _ (a : Bool) (ae : a ≡ fields_hold l (length room)) where
    pub unsound_fields : a ≡ false → false ≡ sound_held (held l room)
    unsound_fields h = rw (sound_splits, ← ae, h)

    module _ (ha : a ≡ true) where
      pub fields_few : l.count * 3 ≤ length room
      fields_few = let f = fields_facts l (length room) (sym ae ∙ ha) in omega (arith, f.few)

      pub sound_items : (r : Bool) → r ≡ items_hold o Start l.query.reach l.snapshot items → r ≡ sound_held (held l room)
      sound_items r e = rw (sound_splits, ← ae, ha) e
