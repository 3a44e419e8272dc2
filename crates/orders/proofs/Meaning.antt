-- What is listed is just the claims within reach whose numbers are below the snapshot, each once, in order. Assumes nothing.
use Prim.Native.Nat.{ℕ, zero, suc, ◌<◌, ◌≤◌}
use mathlib.Core.Path.{◌≡◌, refl, sym, ap, ◌∙◌, subst, subst⁻¹}
use mathlib.Core.Logic.{◌⊎◌, inl, inr, ⊎_elim}
use mathlib.Core.Bool.{Bool, true, false, cond}
use mathlib.Core.List.Memᴰ
use mathlib.Core.List.{List, [], ◌∷◌, Memᴰ}
use native.Mathlib.Omega.{arith}
use native.Mathlib.Nat.{eq-or-lt_of_le}
use lib.Dec.{leb}
use lib.ListN.{length, get_or}
use borrow.Author.Tests.{le-leb}
use Rattle.paper.specs.declared.orders.Order.{Order}
use Rattle.paper.specs.Points.{Claim}
use Rattle.paper.specs.declared.orders.Item.{Item}
use Rattle.paper.specs.Orders.{Query, earlier, insert, item_of, listed}
use Rattle.paper.proofs.Tests.{no_way}
use Rattle.orders.proofs.Lists.{all_mem, all_get_d}
use Rattle.orders.proofs.Sorted.{Rising, rising_at, before_same, before_not, IsOf, listed_are, listed_rising}

-- ---- no claim is missing

-- [2.5] next to listed_are and listed_rising: no claim is missing
insert_has : (o : Order) (x : Item) (l : List Item) → Memᴰ x (insert o x l)
unfolding insert
insert_has o x [] = Memᴰ.head refl
insert_has o x (y ∷ l) = go (earlier o x y) (insert_has o x l)
  where
    go : (b : Bool) → Memᴰ x (insert o x l) → Memᴰ x (cond b (x ∷ y ∷ l) (y ∷ insert o x l))
    go true m = Memᴰ.head refl
    go false m = Memᴰ.tail m

insert_keeps : (o : Order) (x z : Item) (l : List Item) → Memᴰ z l → Memᴰ z (insert o x l)
unfolding insert
insert_keeps o x z (y ∷ l) m = go (earlier o x y) (Memᴰ.cases_cons m) (λ n. insert_keeps o x z l n)
  where
    go : (b : Bool) → (z ≡ y) ⊎ Memᴰ z l → (Memᴰ z l → Memᴰ z (insert o x l))
        → Memᴰ z (cond b (x ∷ y ∷ l) (y ∷ insert o x l))
    go true (inl e) f = Memᴰ.tail (Memᴰ.head e)
    go true (inr n) f = Memᴰ.tail (Memᴰ.tail n)
    go false (inl e) f = Memᴰ.head e
    go false (inr n) f = Memᴰ.tail (f n)
insert_keeps o x z [] m = absurd (Memᴰ.not-nil m)

pub listed_has : (q : Query) (cs : List Claim) (s k : ℕ) → k < s → (item_of q cs k).distance ≤ q.reach → Memᴰ (item_of q cs k) (listed q cs s)
unfolding listed
listed_has q cs zero k p r = absurd (omega arith)
listed_has q cs (suc s) k p r =
    ⊎_elim
    (λ e. rw (← e, le-leb (item_of q cs k).distance q.reach r) (insert_has q.order (item_of q cs k) (listed q cs k)))
    (λ l. go (leb (item_of q cs s).distance q.reach) (listed_has q cs s k l r))
    (eq-or-lt_of_le (omega arith))
  where
    go : (b : Bool) → Memᴰ (item_of q cs k) (listed q cs s)
        → Memᴰ (item_of q cs k) (cond b (insert q.order (item_of q cs s) (listed q cs s)) (listed q cs s))
    go true m = insert_keeps q.order _ _ _ m
    go false m = m

-- ---- no other list is what is listed

-- an item that rises is not before itself
not_self : (o : Order) (x z : Item) → earlier o x z ≡ true → z ≡ x → ⊥
not_self o x z p e = no_way (sym (rw e at p) ∙ before_same o x.distance x.number)

-- two rising lists with the same items are the same
sorted_same : (o : Order) (a b : List Item) → Rising o a → Rising o b → ((z : Item) → Memᴰ z a → Memᴰ z b)
    → ((z : Item) → Memᴰ z b → Memᴰ z a) → a ≡ b
sorted_same o [] [] p q f g = refl
sorted_same o [] (y ∷ b) p q f g = absurd (Memᴰ.not-nil (g y (Memᴰ.head refl)))
sorted_same o (x ∷ a) [] p q f g = absurd (Memᴰ.not-nil (f x (Memᴰ.head refl)))
sorted_same o (x ∷ a) (y ∷ b) p q f g =
    let e : x ≡ y =
    ⊎_elim (λ s. s)
    (λ m. ⊎_elim (λ s. sym s)
    (λ n. absurd (no_way (sym (all_mem _ y a p.0 n) ∙ before_not o _ _ _ _ (all_mem _ x b q.0 m))))
    (Memᴰ.cases_cons (g y (Memᴰ.head refl))))
    (Memᴰ.cases_cons (f x (Memᴰ.head refl))) in
    let t : a ≡ b =
    sorted_same o a b p.1 q.1
    (λ z m. ⊎_elim (λ s. absurd (not_self o x z (all_mem _ z a p.0 m) (s ∙ sym e))) (λ n. n) (Memᴰ.cases_cons (f z (Memᴰ.tail m))))
    (λ z m. ⊎_elim (λ s. absurd (not_self o y z (all_mem _ z b q.0 m) (s ∙ e))) (λ n. n) (Memᴰ.cases_cons (g z (Memᴰ.tail m)))) in
    cc

-- so no other list is what is listed
pub listed_only : (q : Query) (cs : List Claim) (s : ℕ) (l : List Item) → Rising q.order l → ((z : Item) → Memᴰ z l → IsOf q cs s z)
    → ((k : ℕ) → k < s → (item_of q cs k).distance ≤ q.reach → Memᴰ (item_of q cs k) l) → l ≡ listed q cs s
listed_only q cs s l rises are has =
    sorted_same q.order l (listed q cs s) rises (listed_rising q cs s)
    (λ z m. let p = are z m in
    subst⁻¹ (λ (x : Item). Memᴰ x (listed q cs s)) p.is (listed_has q cs s z.number p.below (subst (λ (x : Item). x.distance ≤ q.reach) p.is p.within)))
    (λ z m. let p = all_mem _ z (listed q cs s) (listed_are q cs s) m in
    subst⁻¹ (λ (x : Item). Memᴰ x l) p.is (has z.number p.below (subst (λ (x : Item). x.distance ≤ q.reach) p.is p.within)))

-- ---- each claim is listed once

module _ (q : Query) (cs : List Claim) where
  -- [2.5] each claim is listed once: no two items have one number
  pub listed_once : (s i j : ℕ) (z : Item) → i < j → j < length (listed q cs s) → (get_or (listed q cs s) i z).number ≡ (get_or (listed q cs s) j z).number → ⊥
  listed_once s i j z p r e =
      let a = all_get_d (IsOf q cs s) (listed q cs s) i z (listed_are q cs s) (omega arith) in
      let b = all_get_d (IsOf q cs s) (listed q cs s) j z (listed_are q cs s) r in
      let same : get_or (listed q cs s) i z ≡ get_or (listed q cs s) j z = a.is ∙ ap (item_of q cs) e ∙ sym b.is in
      let x = rising_at q.order (listed q cs s) i j z (listed_rising q cs s) p r in
      no_way (sym (rw same at x) ∙ before_same q.order _ _)
