-- Insertion of a claim at its place, or where it is already. Assumes nothing.
use Prim.Native.Nat.{ℕ, zero, suc, ◌+◌, ◌-◌, ◌<◌, ◌≤◌, min}
use mathlib.Core.Path.{◌≡◌, refl, ap, subst, ◌∙◌}
use mathlib.Core.List.{List, [], ◌∷◌, ◌++◌}
use mathlib.Core.Bool.{Bool, true, false}
use native.Mathlib.Omega.{arith}
use lib.ListN.{length, take, drop, get_or, length-take, length-append, length-drop, get_or-append}
use lib.Seq.{get_or-take, get_or-drop, get_or_at, get_or-append-add}
use borrow.Author.Tests.{eq-eqb, ne_eqb}
use Rattle.paper.specs.Limits.{most_claims}
use Rattle.walk_keep.specs.Page.{sooner, insert_by}
use Rattle.walk_keep.specs.Kept.{key, RisingClaims, none, more}
use Rattle.walk_keep.proofs.Keeping.{sooner_true, key_sooner, rising_at}

-- the place of claim k in l
pub record PositionIn (rank : ℕ → ℕ) (l : List ℕ) (k p : ℕ) : Type 0 where
  pub few : p ≤ length l
  pub front : (i : ℕ) → p ≡ suc i → sooner rank (get_or l i 0) k ≡ true
  pub behind : p < length l → sooner rank (get_or l p 0) k ≡ false

module _ (rank : ℕ → ℕ) (ok : ℕ → Bool) (n k : ℕ) (hn : n ≤ most_claims) (hk : k < n) where
  -- the head of a list, one behind which comes before k, comes before k
  head_before : (x s p : ℕ) (l : List ℕ) → x < n → RisingClaims rank ok n s (key rank x + 1) l → p < length l → sooner rank (get_or l p 0) k ≡ true → sooner rank x k ≡ true
  head_before x s p l hx r hp h =
      let a = rising_at rank ok n s (key rank x + 1) l p r hp in
      let b = sooner_true rank (get_or l p 0) k (omega (arith, a.1)) (omega arith) h in
      key_sooner rank x k (omega arith) (omega arith) (omega (arith, a.0))

  -- in its place
  pub insert_at : (s lo : ℕ) (l : List ℕ) (p : ℕ) → RisingClaims rank ok n s lo l → PositionIn rank l k p → (p < length l → get_or l p 0 ≡ k → ⊥)
      → insert_by rank k l ≡ take p l ++ (k ∷ drop p l)
  unfolding insert_by
  insert_at zero lo (x ∷ l) p r g ne = elim r [ ]
  insert_at s lo [] zero none g ne = refl
  insert_at s lo [] (suc p) none g ne = absurd (omega (arith, g.few))
  insert_at (suc s) lo (x ∷ l) zero (more a b c d) g ne = rw (g.behind (omega arith), ne_eqb x k (ne (omega arith)))
  insert_at (suc s) lo (x ∷ l) (suc zero) (more a b c d) g ne =
      rw (g.front 0 refl) (ap (λ (t : List ℕ). x ∷ t) (insert_at s (key rank x + 1) l zero d
      (record { few = omega arith; front = λ i h. absurd (omega arith); behind = λ h. g.behind (omega arith) }) (λ h. ne (omega arith))))
  insert_at (suc s) lo (x ∷ l) (suc (suc p)) (more a b c d) g ne =
      rw (head_before x s p l b d (omega (arith, g.few)) (g.front (suc p) refl)) (ap (λ (t : List ℕ). x ∷ t) (insert_at s (key rank x + 1) l (suc p) d
      (record { few = omega (arith, g.few); front = λ i h. g.front (suc i) (ap suc h); behind = λ h. g.behind (omega arith) }) (λ h. ne (omega arith))))

  -- where it is already
  pub insert_same : (s lo : ℕ) (l : List ℕ) (p : ℕ) → RisingClaims rank ok n s lo l → p < length l → get_or l p 0 ≡ k → insert_by rank k l ≡ l
  unfolding insert_by
  insert_same zero lo (x ∷ l) p r h e = elim r [ ]
  insert_same s lo [] p none h e = absurd (omega arith)
  insert_same (suc s) lo (x ∷ l) zero (more a b c d) h e = rw (e, self, eq-eqb k k refl)
    where
      self : sooner rank k k ≡ false
      self = go (sooner rank k k) refl
        where
          go : (u : Bool) → sooner rank k k ≡ u → u ≡ false
          go true q = absurd (omega (arith, sooner_true rank k k (omega arith) (omega arith) q))
          go false q = refl
  insert_same (suc s) lo (x ∷ l) (suc p) (more a b c d) h e =
      let y = rising_at rank ok n s (key rank x + 1) l p d (omega arith) in
      let z : key rank x + 1 ≤ key rank k = rw e at y.0 in
      rw (key_sooner rank x k (omega arith) (omega arith) (omega arith)) (ap (λ (t : List ℕ). x ∷ t) (insert_same s (key rank x + 1) l p d (omega arith) e))

-- ---- the list with claim k at place p

module _ (l : List ℕ) (k p n : ℕ) (few : p ≤ length l) where
  abbrev pub With : List ℕ
  With = take n (take p l ++ (k ∷ drop p l))

  front_length : length (take p l) ≡ p
  front_length = length-take p l ∙ omega arith

  pub with_length : length With ≡ min n (length l + 1)
  with_length = length-take n (take p l ++ (k ∷ drop p l)) ∙ ap (min n) (length-append (take p l) (k ∷ drop p l) ∙ simp length-drop (omega (arith, front_length)))

  pub with_front : (i : ℕ) → i < p → i < n → get_or With i 0 ≡ get_or l i 0
  with_front i h hn =
      get_or-take n (take p l ++ (k ∷ drop p l)) i 0 hn ∙ get_or-append (take p l) (k ∷ drop p l) 0 i (omega (arith, front_length)) ∙ get_or-take p l i 0 h

  pub with_here : p < n → get_or With p 0 ≡ k
  with_here h = get_or-take n (take p l ++ (k ∷ drop p l)) p 0 h ∙ get_or_at (take p l) k (drop p l) 0 p front_length

  pub with_behind : (i : ℕ) → p < i → i < n → get_or With i 0 ≡ get_or l (i - 1) 0
  with_behind i h hn =
      let m : ℕ = i - 1 - p in
      let e : length (take p l) + suc m ≡ i = omega (arith, front_length) in
      let f : p + m ≡ i - 1 = omega arith in
      get_or-take n (take p l ++ (k ∷ drop p l)) i 0 hn
      ∙ subst (λ (u : ℕ). get_or (take p l ++ (k ∷ drop p l)) u 0 ≡ get_or (drop p l) m 0) e (get_or-append-add (take p l) (k ∷ drop p l) (suc m) 0)
      ∙ get_or-drop p l m 0 ∙ ap (λ (u : ℕ). get_or l u 0) f
