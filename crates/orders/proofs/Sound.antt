-- Whatever line a sound list takes, it stays sound: refusal 2 never comes to a list that only these calls change. Assumes nothing.
use Prim.Native.Nat.{ℕ, suc, ◌-◌, ◌≤◌}
use mathlib.Core.Path.{◌≡◌, refl, sym, ◌∙◌}
use mathlib.Core.Bool.{Bool, true, false, ◌&&◌, ◌||◌, not}
use mathlib.Core.List.{List, [], ◌∷◌, ◌++◌}
use native.Mathlib.Omega.{arith}
use lib.ListN.{length, length-append}
use lib.Dec.{leb, eqb}
use borrow.Author.Tests.{leb-true, le-leb, eqb-true, eq-eqb}
use Rattle.paper.specs.declared.orders.Order.{Order}
use Rattle.paper.specs.declared.orders.Place.TheVariants.{After}
use Rattle.paper.specs.declared.orders.Item.{Item}
use Rattle.paper.specs.Orders.{follows, earlier}
use Rattle.paper.specs.Points.{in_range}
use Rattle.paper.specs.Outcomes.{gives}
use Rattle.paper.specs.Ends.{Answer, Codec, Listing, last_item, mark_of, leads, rising, every, fitting, started_well, sound_in, page_holds, joined_to, own_kind, taking}
use Rattle.paper.proofs.Tests.{and_first, and_second, and_both, or_left, or_right}
use Rattle.orders.proofs.Lists.{All, all_append, every_all, every_true}
use Rattle.orders.specs.LawfulLines.{AnswerInRange, Lawful}
use Rattle.orders.proofs.Taking.{Took, took_line, FitsList, fits_present, present_after}
use Rattle.paper.specs.Limits.{most_claims}

-- ---- items joined

last_cons : (x y : Item) (l : List Item) → last_item (x ∷ y ∷ l) ≡ last_item (y ∷ l)
last_cons x y l =
    let e : suc (suc (length l)) - 1 ≡ suc (length l) = omega arith in
    let f : suc (length l) - 1 ≡ length l = omega arith in
    rw (e, f)

-- two runs that rise, the second after the first
rising_join : (o : Order) (x : Item) (a b : List Item) → rising o (x ∷ a) ≡ true → rising o b ≡ true → leads o (last_item (x ∷ a)) b ≡ true
    → rising o (x ∷ (a ++ b)) ≡ true
unfolding rising
rising_join o x [] b p q r = and_both _ _ r q
rising_join o x (y ∷ a) b p q r =
    and_both (earlier o x y) _ (and_first (earlier o x y) _ p) (rising_join o y a b (and_second (earlier o x y) _ p) q (rw (last_cons x y a) at r))

leads_first : (o : Order) (n : ℕ) (x : Item) (l : List Item) → All (λ y. follows o (After n (mark_of x)) y ≡ true) l → leads o x l ≡ true
unfolding follows
leads_first o n x [] h = refl
leads_first o n x (y ∷ l) h = h.0

-- a list's items before a page, as they stand in a sound list
rising_page : (o : Order) (n : ℕ) (a b : List Item) → rising o a ≡ true → rising o b ≡ true
    → All (λ y. follows o (After n (mark_of (last_item a))) y ≡ true) b → rising o (a ++ b) ≡ true
rising_page o n [] b p q r = q
rising_page o n (x ∷ a) b p q r = rising_join o x a b p q (leads_first o n (last_item (x ∷ a)) b r)

some_joined : (a b : List Item) (f : Bool) → (leb 1 (length b) || f) ≡ true → (leb 1 (length (a ++ b)) || f) ≡ true
some_joined a b f p = go f refl
  where
    go : (g : Bool) → f ≡ g → (leb 1 (length (a ++ b)) || g) ≡ true
    go true q = or_right (leb 1 (length (a ++ b))) true refl
    go false q =
        let h : 1 ≤ length b = leb-true _ _ (or_left _ _ p q) in
        let k : 1 ≤ length (a ++ b) = omega (arith, length-append a b) in
        rw (le-leb 1 (length (a ++ b)) k)

-- ---- a sound list, by its parts

pub record Soundness (room : ℕ) (L : Listing) : Type 0 where
  pub range : in_range L.query.measure L.query.d ≡ true
  pub long : length L.query.probe ≡ L.query.d
  pub small : L.snapshot ≤ most_claims
  pub roomy : length L.items ≤ room
  pub rises : rising L.query.order L.items ≡ true
  pub fit : All (λ x. fitting L.query.reach L.snapshot x ≡ true) L.items
  pub well : started_well L ≡ true

pub soundness : (room : ℕ) (L : Listing) → sound_in room L ≡ true → Soundness room L
unfolding sound_in
soundness room L e =
    let e1 = and_second (in_range L.query.measure L.query.d) _ e in
    let e2 = and_second (eqb (length L.query.probe) L.query.d) _ e1 in
    let e3 = and_second (leb L.snapshot most_claims) _ e2 in
    let e4 = and_second (leb (length L.items) room) _ e3 in
    let e5 = and_second (rising L.query.order L.items) _ e4 in
    record {
      range = and_first _ _ e;
      long = eqb-true _ _ (and_first _ _ e1);
      small = leb-true L.snapshot most_claims (and_first _ _ e2);
      roomy = leb-true (length L.items) room (and_first _ _ e3);
      rises = and_first (rising L.query.order L.items) _ e4;
      fit = every_all _ L.items (and_first _ _ e5);
      well = and_second (every (fitting L.query.reach L.snapshot) L.items) _ e5;
    }

pub sound_of : (room : ℕ) (L : Listing) → Soundness room L → sound_in room L ≡ true
unfolding sound_in
sound_of room L s =
    and_both _ _ s.range (and_both _ _ (eq-eqb _ _ s.long) (and_both _ _ (le-leb _ _ s.small) (and_both _ _ (le-leb _ _ s.roomy)
    (and_both _ _ s.rises (and_both _ _ (every_true _ L.items s.fit) s.well)))))

-- ---- what a list takes

-- what 14 lets pass
record Passes (y : Answer) : Type 0 where
  rises : rising y.query.order y.items ≡ true
  after : All (λ x. follows y.query.order y.place x ≡ true) y.items
  fit : All (λ x. fitting y.query.reach y.snapshot x ≡ true) y.items
  some : (leb 1 (length y.items) || y.last) ≡ true

passes : (y : Answer) → page_holds y ≡ true → Passes y
unfolding page_holds
passes y e =
    let e1 = and_second (rising y.query.order y.items) _ e in
    let e2 = and_second (every (follows y.query.order y.place) y.items) _ e1 in
    record {
      rises = and_first (rising y.query.order y.items) _ e;
      after = every_all _ y.items (and_first _ _ e1);
      fit = every_all _ y.items (and_first _ _ e2);
      some = and_second (every (fitting y.query.reach y.snapshot) y.items) _ e2;
    }

none_nil : (l : List Item) → length l ≡ 0 → l ≡ []
none_nil [] p = refl
none_nil (x ∷ l) p = absurd (omega arith)

unstarted_empty : (L : Listing) → started_well L ≡ true → L.started ≡ false → L.items ≡ []
unfolding started_well
unstarted_empty L w p =
    let e : (eqb (length L.items) 0 && (eqb L.snapshot 0 && not L.complete)) ≡ true = rw p at w in
    none_nil L.items (eqb-true _ _ (and_first _ _ e))

-- what rises and fits, joined
record Joins (L : Listing) (y : Answer) : Type 0 where
  rises : rising L.query.order (L.items ++ y.items) ≡ true
  fit : All (λ x. fitting L.query.reach y.snapshot x ≡ true) (L.items ++ y.items)

joins : (room : ℕ) (L : Listing) (y : Answer) → Soundness room L → FitsList L y → Passes y → Joins L y
joins room L y s f p = go L.started refl
  where
    rises : rising L.query.order y.items ≡ true
    rises = rw f.query p.rises

    fit : All (λ x. fitting L.query.reach y.snapshot x ≡ true) y.items
    fit = rw f.query p.fit

    go : (b : Bool) → L.started ≡ b → Joins L y
    go false q = let z : L.items ≡ [] = unstarted_empty L s.well q in record { rises = rw z rises; fit = rw z fit }
    go true q =
        let a : y.place ≡ After L.snapshot (mark_of (last_item L.items)) = sym f.place ∙ present_after L q in
        record {
          rises = rising_page L.query.order L.snapshot L.items y.items s.rises rises (rw (f.query, ← a) p.after);
          fit = all_append _ L.items y.items (rw (f.snapshot q) s.fit) fit;
        }

pub sound_joined : (room : ℕ) (L : Listing) (y : Answer) (K : Listing) → AnswerInRange y → own_kind L y ≡ true → sound_in room L ≡ true
    → Took room L y K → sound_in room (joined_to L y) ≡ true
unfolding joined_to started_well
sound_joined room L y K ok own e k =
    let s = soundness room L e in
    let p = passes y k.page in
    let j = joins room L y s (fits_present L y s.long ok own k.present) p in
    sound_of room (joined_to L y) (record {
      range = s.range;
      long = s.long;
      small = ok.snapshot;
      roomy = omega (arith, k.roomy, length-append L.items y.items);
      rises = j.rises;
      fit = j.fit;
      well = some_joined L.items y.items y.last p.some;
    })

-- ---- handed on

-- any line whatever
pub stays_sound : (c : Codec) → Lawful c → (room : ℕ) (L K : Listing) (s : List ℕ) → taking c room L s ≡ gives K → sound_in room K ≡ true
stays_sound c law room L K s e =
    let t = took_line c room L s K e in
    rw t.joins.is (sound_joined room L t.answer K (law.answer_is_ok s t.answer t.read) t.own t.sound t.joins)
