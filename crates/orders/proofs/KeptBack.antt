-- What a place keeps back: the claim of its own mark, in either order, so that a mark of distance 0 and number 0 keeps back claim 0, and in near
-- order that one alone. The start keeps back none. Assumes nothing.
use Prim.Native.Nat.{ℕ, zero, suc, ◌<◌, ◌≤◌}
use mathlib.Core.Path.{◌≡◌, refl, ap, ◌∙◌, subst}
use mathlib.Core.Logic.{◌⊎◌, inl, inr}
use mathlib.Core.Bool.{Bool, true, false, cond}
use mathlib.Core.List.Memᴰ
use mathlib.Core.List.{List, [], ◌∷◌, Memᴰ}
use native.Mathlib.Omega.{arith}
use lib.Dec.{ltb}
use lib.ListN.{length}
use borrow.Author.Tests.{eqb-true, lt-ltb}
use Rattle.paper.specs.declared.orders.Mark.{Mark}
use Rattle.paper.specs.declared.orders.Order.{Order}
use Rattle.paper.specs.declared.orders.Order.TheVariants.{Near}
use Rattle.paper.specs.declared.orders.Place.{Place}
use Rattle.paper.specs.declared.orders.Place.TheVariants.{Start, After}
use Rattle.paper.specs.Points.{Claim}
use Rattle.paper.specs.declared.orders.Item.{Item}
use Rattle.paper.specs.Orders.{Query, rank, before, item_of, listed, start_mark, follows, rest, following, mark_holds}
use Rattle.paper.proofs.Tests.{and_first, and_second, never, or_right}
use Rattle.orders.proofs.Lists.{all_mem}
use Rattle.orders.proofs.Sorted.{before_same, rest_start, rest_follows}
use Rattle.orders.proofs.Meaning.{listed_has}

-- [4.4] the start keeps back none of what is listed at the count of that moment
pub start_keeps_none : (q : Query) (cs : List Claim) → following q cs Start ≡ listed q cs (length cs)
unfolding following
start_keeps_none q cs = rest_start q.order (listed q cs (length cs))

-- [2.7] [4.5] a mark that holds keeps back its own claim, in either order
module _ (q : Query) (cs : List Claim) (s : ℕ) where
  pub mark_keeps_its_claim : (m : Mark) → mark_holds q cs (After s m) ≡ true → Memᴰ (item_of q cs m.number) (following q cs (After s m)) → ⊥
  unfolding following follows item_of mark_holds
  mark_keeps_its_claim m h mem =
      let x : ℕ = (item_of q cs m.number).distance in
      let e : m.distance ≡ x = eqb-true m.distance x (and_first _ _ (and_second (ltb m.number s) _ h)) in
      let f : before q.order m.distance m.number x m.number ≡ true =
      all_mem (λ (a : Item). follows q.order (After s m) a ≡ true) (item_of q cs m.number) (rest q.order (After s m) (listed q cs s)) (rest_follows q.order (After s m) (listed q cs s)) mem in
      never _ f (ap (λ (y : ℕ). before q.order y m.number x m.number) e ∙ before_same q.order x m.number)

  -- [2.8] [4.5] a mark of 0 and 0 that holds keeps back claim 0
  pub zeros_keep_claim_0 : mark_holds q cs (After s start_mark) ≡ true → Memᴰ (item_of q cs 0) (following q cs (After s start_mark)) → ⊥
  zeros_keep_claim_0 h mem = mark_keeps_its_claim start_mark h mem

-- what follows a place stays
pub rest_has : (o : Order) (p : Place) (a : Item) (l : List Item) → follows o p a ≡ true → Memᴰ a l → Memᴰ a (rest o p l)
unfolding rest
rest_has o p a [] f m = absurd (Memᴰ.not-nil m)
rest_has o p a (b ∷ l) f m = go (follows o p b) refl (Memᴰ.cases_cons m) (λ n. rest_has o p a l f n)
  where
    go : (u : Bool) → follows o p b ≡ u → (a ≡ b) ⊎ Memᴰ a l → (Memᴰ a l → Memᴰ a (rest o p l))
        → Memᴰ a (cond u (b ∷ rest o p l) (rest o p l))
    go true w (inl e) deep = Memᴰ.head e
    go true w (inr n) deep = Memᴰ.tail (deep n)
    go false w (inl e) deep = absurd (never (follows o p b) (subst (λ (x : Item). follows o p x ≡ true) e f) w)
    go false w (inr n) deep = deep n

-- [2.8] [4.5] in near order claim 0 alone: every other claim within reach follows a mark of 0 and 0
near_zeros : (x k : ℕ) → 0 < k → before Near 0 0 x k ≡ true
unfolding before rank
near_zeros zero k h = or_right (ltb 0 0) _ (lt-ltb 0 k h)
near_zeros (suc x) k h = rw (lt-ltb 0 (suc x) (omega arith))

pub zeros_keep_no_other : (q : Query) (cs : List Claim) (s k : ℕ) → q.order ≡ Near → 0 < k → k < s → (item_of q cs k).distance ≤ q.reach
    → Memᴰ (item_of q cs k) (following q cs (After s start_mark))
unfolding following follows item_of
zeros_keep_no_other q cs s k near some below within =
    rest_has q.order (After s start_mark) (item_of q cs k) (listed q cs s)
    (ap (λ (o : Order). before o 0 0 (item_of q cs k).distance k) near ∙ near_zeros (item_of q cs k).distance k some)
    (listed_has q cs s k below within)
