-- The order is strict and total; what is listed rises; what follows a mark. Assumes nothing.
use Prim.Native.Nat.{ℕ, zero, suc, ◌<◌, ◌≤◌}
use mathlib.Core.Path.{◌≡◌, refl, sym, ◌∙◌}
use mathlib.Core.Logic.{◌⊎◌, inl, inr, ⊎_elim}
use mathlib.Core.Bool.{Bool, true, false, cond, ◌&&◌, ◌||◌}
use mathlib.Core.List.{List, [], ◌∷◌, ◌++◌}
use native.Mathlib.Omega.{arith}
use lib.ListN.{length, take, drop, get_or, get_or-append}
use lib.Dec.{ltb, leb, eqb}
use borrow.Author.Tests.{ltb-true, ltb-false, eqb-true, eqb-false, leb-true, lt-ltb, le-ltb, eq-eqb}
use Rattle.paper.specs.declared.orders.Order.{Order}
use Rattle.paper.specs.declared.orders.Place.{Place}
use Rattle.paper.specs.declared.orders.Place.TheVariants.{Start, After}
use Rattle.paper.specs.Points.{Claim, zero_claim}
use Rattle.paper.specs.declared.orders.Item.{Item}
use Rattle.paper.specs.Orders.{Query, rank, before, earlier, insert, item_of, listed, follows, rest}
use Rattle.paper.specs.Ends.{mark_of, rising}
use Rattle.paper.proofs.Tests.{no_way, and_both}
use Rattle.orders.proofs.Lists.{All, all_map, all_take, all_get_d}

-- ---- the order

-- rank a and number k stand before rank b and number j
abbrev first : ℕ → ℕ → ℕ → ℕ → Bool
first a k b j = ltb a b || (eqb a b && ltb k j)

first_cases : (a k b j : ℕ) → first a k b j ≡ true → (a < b) ⊎ ((a ≡ b) × (k < j))
first_cases a k b j p = go (ltb a b) (eqb a b) (ltb k j) refl refl refl p
  where
    go : (x y z : Bool) → ltb a b ≡ x → eqb a b ≡ y → ltb k j ≡ z → (x || (y && z)) ≡ true → (a < b) ⊎ ((a ≡ b) × (k < j))
    go true y z e f g q = inl (ltb-true a b e)
    go false true true e f g q = inr (eqb-true a b f, ltb-true k j g)
    go false true false e f g q = absurd (no_way (sym q))
    go false false z e f g q = absurd (no_way (sym q))

by_rank : (a k b j : ℕ) → a < b → first a k b j ≡ true
by_rank a k b j p = rw (lt-ltb a b p)

by_number : (a k b j : ℕ) → a ≡ b → k < j → first a k b j ≡ true
by_number a k b j p q = rw (eq-eqb a b p, lt-ltb k j q) (go (ltb a b))
  where
    go : (x : Bool) → (x || true) ≡ true
    go true = refl
    go false = refl

first_same : (a k : ℕ) → first a k a k ≡ false
first_same a k =
    let e : k ≤ k = omega arith in
    let f : a ≤ a = omega arith in
    rw (le-ltb a a f, eq-eqb a a refl, le-ltb k k e)

first_trans : (a k b j c i : ℕ) → first a k b j ≡ true → first b j c i ≡ true → first a k c i ≡ true
first_trans a k b j c i p q =
    ⊎_elim
    (λ s. ⊎_elim (λ t. by_rank a k c i (omega arith)) (λ t. by_rank a k c i (omega arith)) (first_cases b j c i q))
    (λ s. ⊎_elim (λ t. by_rank a k c i (omega arith)) (λ t. by_number a k c i (omega arith) (omega arith)) (first_cases b j c i q))
    (first_cases a k b j p)

first_total : (a k b j : ℕ) → first a k b j ≡ false → (k ≡ j → ⊥) → first b j a k ≡ true
first_total a k b j p n = go (ltb a b) (eqb a b) (ltb k j) refl refl refl p
  where
    go : (x y z : Bool) → ltb a b ≡ x → eqb a b ≡ y → ltb k j ≡ z → (x || (y && z)) ≡ false → first b j a k ≡ true
    go true y z e f g q = absurd (no_way q)
    go false true true e f g q = absurd (no_way q)
    go false true false e f g q = by_number b j a k (sym (eqb-true a b f)) (omega (arith, ltb-false k j g))
    go false false z e f g q = by_rank b j a k (omega (arith, ltb-false a b e, eqb-false a b f))

-- distance d and number k stand before distance e and number j: a strict order, total where numbers differ
module _ (o : Order) where
  pub before_same : (d k : ℕ) → before o d k d k ≡ false
  unfolding before
  before_same d k = first_same (rank o d) k

  pub before_trans : (d k e j f i : ℕ) → before o d k e j ≡ true → before o e j f i ≡ true → before o d k f i ≡ true
  unfolding before
  before_trans d k e j f i p q = first_trans (rank o d) k (rank o e) j (rank o f) i p q

  pub before_not : (d k e j : ℕ) → before o d k e j ≡ true → before o e j d k ≡ false
  before_not d k e j p = go (before o e j d k) refl
    where
      go : (x : Bool) → before o e j d k ≡ x → x ≡ false
      go true q = absurd (no_way (sym (before_trans d k e j d k p q) ∙ before_same d k))
      go false q = refl

  pub before_total : (d k e j : ℕ) → before o d k e j ≡ false → (k ≡ j → ⊥) → before o e j d k ≡ true
  unfolding before
  before_total d k e j p n = first_total (rank o d) k (rank o e) j p n

-- ---- lists that rise

-- each item stands before all that come after it
abbrev pub Rising : Order → List Item → Type 0
Rising o [] = Unit {0}
Rising o (x ∷ l) = All (λ y. earlier o x y ≡ true) l × Rising o l

module _ (o : Order) where
  pub rising_take : (n : ℕ) (l : List Item) → Rising o l → Rising o (take n l)
  rising_take zero l h = tt
  rising_take (suc n) [] h = tt
  rising_take (suc n) (x ∷ l) h = (all_take _ n l h.0, rising_take n l h.1)

  -- an earlier place holds an earlier item
  pub rising_at : (l : List Item) (i j : ℕ) (z : Item) → Rising o l → i < j → j < length l → earlier o (get_or l i z) (get_or l j z) ≡ true
  rising_at [] i j z h p q = absurd (omega arith)
  rising_at (a ∷ l) i zero z h p q = absurd (omega arith)
  rising_at (a ∷ l) zero (suc j) z h p q = all_get_d (λ b. earlier o a b ≡ true) l j z h.0 (omega arith)
  rising_at (a ∷ l) (suc i) (suc j) z h p q = rising_at l i j z h.1 (omega arith) (omega arith)

  -- the test passes
  pub rising_test : (l : List Item) → Rising o l → rising o l ≡ true
  unfolding rising
  rising_test [] h = refl
  rising_test (x ∷ []) h = refl
  rising_test (x ∷ y ∷ l) h = and_both (earlier o x y) (rising o (y ∷ l)) h.0.0 (rising_test (y ∷ l) h.1)

  all_insert : (P : Item → Type 0) (x : Item) (l : List Item) → P x → All P l → All P (insert o x l)
  unfolding insert
  all_insert P x [] p h = (p, tt)
  all_insert P x (y ∷ l) p h = go (earlier o x y) (all_insert P x l p h.1)
    where
      go : (b : Bool) → All P (insert o x l) → All P (cond b (x ∷ y ∷ l) (y ∷ insert o x l))
      go true r = (p, h)
      go false r = (h.0, r)

  insert_rising : (x : Item) (l : List Item) → Rising o l → All (λ y. y.number ≡ x.number → ⊥) l → Rising o (insert o x l)
  unfolding insert
  insert_rising x [] h n = (tt, tt)
  insert_rising x (y ∷ l) h n = go (earlier o x y) refl (insert_rising x l h.1 n.1)
    where
      go : (b : Bool) → earlier o x y ≡ b → Rising o (insert o x l) → Rising o (cond b (x ∷ y ∷ l) (y ∷ insert o x l))
      go true p r = ((p, all_map _ _ (λ z q. before_trans o _ _ _ _ _ _ p q) l h.0), h)
      go false p r = (all_insert _ x l (before_total o _ _ _ _ p (λ e. n.0 (sym e))) h.0, r)

-- ---- what is listed

-- what an item of the list of the first s claims is
pub record IsOf (q : Query) (cs : List Claim) (s : ℕ) (x : Item) : Type 0 where
  pub below : x.number < s
  pub is : x ≡ item_of q cs x.number
  pub within : x.distance ≤ q.reach

module _ (q : Query) (cs : List Claim) where
  pub listed_are : (s : ℕ) → All (IsOf q cs s) (listed q cs s)
  unfolding listed item_of
  listed_are zero = tt
  listed_are (suc s) = go (leb (item_of q cs s).distance q.reach) refl (all_map _ _ wider (listed q cs s) (listed_are s))
    where
      wider : (x : Item) → IsOf q cs s x → IsOf q cs (suc s) x
      wider x p = record { below = omega (arith, p.below); is = p.is; within = p.within }

      go : (b : Bool) → leb (item_of q cs s).distance q.reach ≡ b → All (IsOf q cs (suc s)) (listed q cs s)
          → All (IsOf q cs (suc s)) (cond b (insert q.order (item_of q cs s) (listed q cs s)) (listed q cs s))
      go true p r = all_insert q.order _ _ _ (record { below = omega arith; is = refl; within = leb-true _ _ p }) r
      go false p r = r

  pub listed_rising : (s : ℕ) → Rising q.order (listed q cs s)
  unfolding listed item_of
  listed_rising zero = tt
  listed_rising (suc s) = go (leb (item_of q cs s).distance q.reach) (listed_rising s)
    where
      go : (b : Bool) → Rising q.order (listed q cs s)
          → Rising q.order (cond b (insert q.order (item_of q cs s) (listed q cs s)) (listed q cs s))
      go true r = insert_rising q.order _ _ r (all_map _ _ (λ x p e. omega (arith, p.below)) (listed q cs s) (listed_are s))
      go false r = r

-- a table that has grown lists the same at an old count
same_item : (q : Query) (cs more : List Claim) (k : ℕ) → k < length cs → item_of q (cs ++ more) k ≡ item_of q cs k
unfolding item_of
same_item q cs more k p = rw (get_or-append cs more zero_claim k p)

pub listed_grown : (q : Query) (cs more : List Claim) (s : ℕ) → s ≤ length cs → listed q (cs ++ more) s ≡ listed q cs s
unfolding listed
listed_grown q cs more zero p = refl
listed_grown q cs more (suc s) p = rw (same_item q cs more s p, listed_grown q cs more s (omega arith))

-- ---- what follows a mark

-- a page after a mark goes on where the front ended
module _ (o : Order) where
  pub rest_all : (p : Place) (l : List Item) → All (λ x. follows o p x ≡ true) l → rest o p l ≡ l
  unfolding rest
  rest_all p [] h = refl
  rest_all p (x ∷ l) h = rw (h.0, rest_all p l h.1)

  pub rest_start : (l : List Item) → rest o Start l ≡ l
  unfolding rest follows
  rest_start [] = refl
  rest_start (x ∷ l) = rw (rest_start l)

  pub rest_next : (n : ℕ) (l : List Item) (j : ℕ) (z : Item) → Rising o l → j < length l → rest o (After n (mark_of (get_or l j z))) l ≡ drop (suc j) l
  unfolding rest follows
  rest_next n [] j z h p = absurd (omega arith)
  rest_next n (x ∷ l) zero z h p = rw (before_same o x.distance x.number) (rest_all (After n (mark_of x)) l h.0)
  rest_next n (x ∷ l) (suc j) z h p =
      let i : j < length l = omega arith in
      rw (before_not o _ _ _ _ (all_get_d (λ y. earlier o x y ≡ true) l j z h.0 i)) (rest_next n l j z h.1 i)

  pub follows_later : (p : Place) (a b : Item) → follows o p a ≡ true → earlier o a b ≡ true → follows o p b ≡ true
  unfolding follows
  follows_later Start a b p q = refl
  follows_later (After n m) a b p q = before_trans o _ _ _ _ _ _ p q

  -- the rest of a list with one item more
  pub rest_insert : (p : Place) (a : Item) (l : List Item) → rest o p (insert o a l) ≡ cond (follows o p a) (insert o a (rest o p l)) (rest o p l)
  unfolding rest insert
  rest_insert p a [] = refl
  rest_insert p a (b ∷ l) = go (earlier o a b) (follows o p a) (follows o p b) refl refl refl (rest_insert p a l)
    where
      go : (e f g : Bool) → earlier o a b ≡ e → follows o p a ≡ f → follows o p b ≡ g
          → rest o p (insert o a l) ≡ cond (follows o p a) (insert o a (rest o p l)) (rest o p l)
          → rest o p (cond e (a ∷ b ∷ l) (b ∷ insert o a l)) ≡ cond f (insert o a (cond g (b ∷ rest o p l) (rest o p l))) (cond g (b ∷ rest o p l) (rest o p l))
      go true true true x y z ih = rw (y, z, x)
      go true true false x y z ih = absurd (no_way (sym (follows_later p a b y x) ∙ z))
      go true false g x y z ih = rw (y, z)
      go false true true x y z ih = rw (z, ih, y, x)
      go false true false x y z ih = rw (z, ih, y)
      go false false true x y z ih = rw (z, ih, y)
      go false false false x y z ih = rw (z, ih, y)

  pub rest_follows : (p : Place) (l : List Item) → All (λ x. follows o p x ≡ true) (rest o p l)
  unfolding rest
  rest_follows p [] = tt
  rest_follows p (x ∷ l) = go (follows o p x) refl (rest_follows p l)
    where
      go : (b : Bool) → follows o p x ≡ b → All (λ y. follows o p y ≡ true) (rest o p l)
          → All (λ y. follows o p y ≡ true) (cond b (x ∷ rest o p l) (rest o p l))
      go true q r = (q, r)
      go false q r = r

  pub all_rest : (P : Item → Type 0) (p : Place) (l : List Item) → All P l → All P (rest o p l)
  unfolding rest
  all_rest P p [] h = tt
  all_rest P p (x ∷ l) h = go (follows o p x) (all_rest P p l h.1)
    where
      go : (b : Bool) → All P (rest o p l) → All P (cond b (x ∷ rest o p l) (rest o p l))
      go true r = (h.0, r)
      go false r = r

  pub rising_rest : (p : Place) (l : List Item) → Rising o l → Rising o (rest o p l)
  unfolding rest
  rising_rest p [] h = tt
  rising_rest p (x ∷ l) h = go (follows o p x) (rising_rest p l h.1)
    where
      go : (b : Bool) → Rising o (rest o p l) → Rising o (cond b (x ∷ rest o p l) (rest o p l))
      go true r = (all_rest _ p l h.0, r)
      go false r = r
