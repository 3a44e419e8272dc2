-- All elements of a list, and fronts of lists. Assumes nothing.
use Prim.Native.Nat.{ℕ, zero, suc, ◌+◌, ◌-◌, ◌<◌}
use mathlib.Core.Path.{◌≡◌, refl, sym, ap, ◌∙◌}
use mathlib.Core.Bool.{Bool, true}
use mathlib.Core.List.{List, [], ◌∷◌, ◌++◌, Memᴰ}
use native.Mathlib.Omega.{arith}
use lib.ListN.{length, take, drop, get_or, set, length-take}
use lib.Seq.{take-add, get_or-take}
use Rattle.paper.specs.declared.orders.Item.{Item}
use Rattle.paper.specs.Orders.{no_item}
use Rattle.paper.specs.Ends.{every, last_item}
use Rattle.paper.proofs.Tests.{and_first, and_second, and_both}

-- ---- all elements of a list

abbrev pub All : {A : Type 0} → (A → Type 0) → List A → Type 0
All P [] = Unit {0}
All P (x ∷ l) = P x × All P l

module _ {A : Type 0} where
  pub all_map : (P Q : A → Type 0) → ((x : A) → P x → Q x) → (l : List A) → All P l → All Q l
  all_map P Q f [] h = tt
  all_map P Q f (x ∷ l) h = (f x h.0, all_map P Q f l h.1)

  pub all_append : (P : A → Type 0) (l r : List A) → All P l → All P r → All P (l ++ r)
  all_append P [] r h g = g
  all_append P (x ∷ l) r h g = (h.0, all_append P l r h.1 g)

  pub all_take : (P : A → Type 0) (n : ℕ) (l : List A) → All P l → All P (take n l)
  all_take P zero l h = tt
  all_take P (suc n) [] h = tt
  all_take P (suc n) (x ∷ l) h = (h.0, all_take P n l h.1)

  pub all_set : (P : A → Type 0) (l : List A) (i : ℕ) (y : A) → All P l → P y → All P (set l i y)
  all_set P [] i y h p = tt
  all_set P (x ∷ l) zero y h p = (p, h.1)
  all_set P (x ∷ l) (suc i) y h p = (h.0, all_set P l i y h.1 p)

  pub all_get_d : (P : A → Type 0) (l : List A) (i : ℕ) (d : A) → All P l → i < length l → P (get_or l i d)
  all_get_d P [] i d h p = absurd (omega arith)
  all_get_d P (x ∷ l) zero d h p = h.0
  all_get_d P (x ∷ l) (suc i) d h p = all_get_d P l i d h.1 (omega arith)

  pub all_mem : (P : A → Type 0) (x : A) (l : List A) → All P l → Memᴰ x l → P x
  all_mem P x [] h m = elim m [ ]
  all_mem P x (y ∷ l) h (Memᴰ.head e) = rw e h.0
  all_mem P x (y ∷ l) h (Memᴰ.tail m) = all_mem P x l h.1 m

  pub mem_get_or : (l : List A) (i : ℕ) (d : A) → i < length l → Memᴰ (get_or l i d) l
  mem_get_or [] i d p = absurd (omega arith)
  mem_get_or (x ∷ l) zero d p = Memᴰ.head refl
  mem_get_or (x ∷ l) (suc i) d p = Memᴰ.tail (mem_get_or l i d (omega arith))

  pub all_of_mem : (P : A → Type 0) (l : List A) → ((x : A) → Memᴰ x l → P x) → All P l
  all_of_mem P [] f = tt
  all_of_mem P (x ∷ l) f = (f x (Memᴰ.head refl), all_of_mem P l (λ y m. f y (Memᴰ.tail m)))

  pub every_true : (p : A → Bool) (l : List A) → All (λ x. p x ≡ true) l → every p l ≡ true
  unfolding every
  every_true p [] h = refl
  every_true p (x ∷ l) h = and_both (p x) (every p l) h.0 (every_true p l h.1)

  pub every_all : (p : A → Bool) (l : List A) → every p l ≡ true → All (λ x. p x ≡ true) l
  unfolding every
  every_all p [] e = tt
  every_all p (x ∷ l) e = (and_first _ _ e, every_all p l (and_second (p x) _ e))

  -- ---- fronts of lists

  pub take_again : (n : ℕ) (l : List A) → take (length (take n l)) l ≡ take n l
  take_again zero l = refl
  take_again (suc n) [] = refl
  take_again (suc n) (x ∷ l) = ap (λ (y : List A). x ∷ y) (take_again n l)

  -- a front is the first so many, as many as it holds
  pub front_length : (x : List A) (n : ℕ) (l : List A) → x ≡ take n l → x ≡ take (length x) l
  front_length x n l p = p ∙ sym (take_again n l) ∙ ap (λ (y : List A). take (length y) l) (sym p)

  -- a front, with the first n of what it lacks
  pub join_front : (x l f : List A) (n : ℕ) → x ≡ take (length x) l → f ≡ drop (length x) l → x ++ take n f ≡ take (length x + n) l
  join_front x l f n p q =
      rw q (ap (λ (y : List A). y ++ take n (drop (length x) l)) p ∙ sym (take-add (length x) n l))

-- the last item of a front, in the whole
pub last_of_front : (x l : List Item) (j : ℕ) → x ≡ take (length x) l → length x ≡ suc j → (last_item x ≡ get_or l j no_item) × (j < length l)
last_of_front x l j p q =
    let i : length x - 1 ≡ j = omega arith in
    let e : x ≡ take (suc j) l = p ∙ ap (λ (k : ℕ). take k l) q in
    let s : j < suc j = omega arith in (
      rw i (ap (λ (y : List Item). get_or y j no_item) e ∙ get_or-take (suc j) l j no_item s),
      omega (arith, ap length e, length-take (suc j) l),
    )
