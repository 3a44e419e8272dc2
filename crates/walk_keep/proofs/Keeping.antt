-- Laws of what is kept: insertion, one walk after the other, and that what covers all claims is the page. Assumes nothing.
use Prim.Native.Nat.{ℕ, zero, suc, ◌+◌, ◌<◌, ◌≤◌}
use mathlib.Core.Path.{◌≡◌, refl, sym, ◌∙◌}
use mathlib.Core.Logic.{◌⊎◌, inl, inr, ⊎_elim}
use mathlib.Core.List.{List, [], ◌∷◌}
use mathlib.Core.Bool.{Bool, true, false, cond, ◌&&◌, ◌||◌}
use lib.ListN.{length, take, get_or}
use lib.Dec.{ltb, eqb}
use lib.Seq.{take_all}
use native.Mathlib.Omega.{arith}
use native.Mathlib.Nat.{le_refl, eq-or-lt_of_le}
use borrow.Author.Tests.{ltb-true, ltb-false, eqb-true, eqb-false}
use Rattle.paper.proofs.Tests.{no_way}
use Rattle.paper.specs.Limits.{most_claims}
use Rattle.walk_keep.specs.Page.{ahead, sooner, insert_by, sorted_of, first_sorted}
use Rattle.walk_keep.specs.Kept.{key, RisingClaims, none, more, Covered, full, there, past, Kept}

-- ---- the order as a key

pub sooner_true : (rank : ℕ → ℕ) (j k : ℕ) → j < most_claims → k < most_claims → sooner rank j k ≡ true → key rank j < key rank k
unfolding ahead
sooner_true rank j k hj hk = go (ltb (rank j) (rank k)) (eqb (rank j) (rank k)) refl refl
  where
    go : (x y : Bool) → ltb (rank j) (rank k) ≡ x → eqb (rank j) (rank k) ≡ y → (x || (y && ltb j k)) ≡ true → key rank j < key rank k
    go true y p q h = omega (arith, ltb-true (rank j) (rank k) p)
    go false true p q h = omega (arith, eqb-true (rank j) (rank k) q, ltb-true j k h)
    go false false p q h = absurd (no_way (sym h))

pub sooner_false : (rank : ℕ → ℕ) (j k : ℕ) → j < most_claims → k < most_claims → sooner rank j k ≡ false → key rank k ≤ key rank j
unfolding ahead
sooner_false rank j k hj hk = go (ltb (rank j) (rank k)) (eqb (rank j) (rank k)) refl refl
  where
    go : (x y : Bool) → ltb (rank j) (rank k) ≡ x → eqb (rank j) (rank k) ≡ y → (x || (y && ltb j k)) ≡ false → key rank k ≤ key rank j
    go true y p q h = absurd (no_way h)
    go false true p q h = omega (arith, eqb-true (rank j) (rank k) q, ltb-false j k h)
    go false false p q h = omega (arith, ltb-false (rank j) (rank k) p, eqb-false (rank j) (rank k) q)

pub key_sooner : (rank : ℕ → ℕ) (j k : ℕ) → j < most_claims → k < most_claims → key rank j < key rank k → sooner rank j k ≡ true
key_sooner rank j k hj hk h = go (sooner rank j k) refl
  where
    go : (x : Bool) → sooner rank j k ≡ x → x ≡ true
    go true p = refl
    go false p = absurd (omega (arith, sooner_false rank j k hj hk p))

pub key_differs : (rank : ℕ → ℕ) (j k : ℕ) → j < most_claims → k < most_claims → (j ≡ k → ⊥) → key rank j ≡ key rank k → ⊥
key_differs rank j k hj hk ne e = ne (omega arith)

-- ---- what a list covers

module _ (rank : ℕ → ℕ) where
  step : (x j s : ℕ) (l l' : List ℕ) → Covered rank j (suc s) (x ∷ l) → (Covered rank j s l → Covered rank j s l') → Covered rank j (suc s) (x ∷ l')
  step x j s l l' there rec = there
  step x j s l l' (past h c) rec = past h (rec c)

  covered_some : (j s : ℕ) (l : List ℕ) → Covered rank j s l → 0 < s → 0 < length l
  covered_some j zero (x ∷ l) c h = elim c [ ]
  covered_some j (suc s) [] c h = elim c [ ]
  covered_some j zero [] full h = h
  covered_some j (suc s) (x ∷ l) there h = omega arith
  covered_some j (suc s) (x ∷ l) (past g c) h = omega arith

  heads : (x y s : ℕ) (l r : List ℕ) → Covered rank x (suc s) (y ∷ r) → Covered rank y (suc s) (x ∷ l) → x ≡ y
  heads x y s l r there c = refl
  heads x y s l r (past h c) there = refl
  heads x y s l r (past h c) (past g d) = absurd (omega arith)

  tails : (x j s : ℕ) (l : List ℕ) → key rank x < key rank j → Covered rank j (suc s) (x ∷ l) → Covered rank j s l
  tails x j s l h there = absurd (omega arith)
  tails x j s l h (past g c) = c

  -- one less
  pub covered_less : (j s : ℕ) (l : List ℕ) → Covered rank j (suc s) (take (suc s) l) → Covered rank j s (take s l)
  covered_less j (suc s) [] c = elim c [ ]
  covered_less j zero l c = full
  covered_less j (suc s) (x ∷ l) there = there
  covered_less j (suc s) (x ∷ l) (past h c) = past h (covered_less j s l c)

  moved : (k x j s : ℕ) (l : List ℕ) → key rank k < key rank x → Covered rank j (suc s) (x ∷ take s l) → Covered rank j (suc s) (k ∷ take s (x ∷ l))
  moved k x j zero l h there = past h full
  moved k x j (suc s) l h there = past h there
  moved k x j zero l h (past g c) = let f : key rank k < key rank j = omega arith in past f full
  moved k x j (suc s) l h (past g c) = let f : key rank k < key rank j = omega arith in past f (past g (covered_less j s l c))

-- ---- lists that rise

module _ (rank : ℕ → ℕ) (ok : ℕ → Bool) (n : ℕ) where
  pub rising_more : (s lo : ℕ) (l : List ℕ) → RisingClaims rank ok n s lo l → RisingClaims rank ok n (suc s) lo l
  rising_more zero lo (k ∷ l) r = elim r [ ]
  rising_more s lo [] none = none
  rising_more (suc s) lo (k ∷ l) (more a b c d) = more a b c (rising_more s (key rank k + 1) l d)

  pub rising_take : (s t lo : ℕ) (l : List ℕ) → RisingClaims rank ok n t lo l → RisingClaims rank ok n s lo (take s l)
  rising_take (suc s) zero lo (k ∷ l) r = elim r [ ]
  rising_take zero t lo l r = none
  rising_take (suc s) t lo [] none = none
  rising_take (suc s) (suc t) lo (k ∷ l) (more a b c d) = more a b c (rising_take s t (key rank k + 1) l d)

  pub rising_few : (s lo : ℕ) (l : List ℕ) → RisingClaims rank ok n s lo l → length l ≤ s
  rising_few zero lo (k ∷ l) r = elim r [ ]
  rising_few s lo [] none = omega arith
  rising_few (suc s) lo (k ∷ l) (more a b c d) = let h = rising_few s (key rank k + 1) l d in omega arith

  -- the item at i
  pub rising_at : (s lo : ℕ) (l : List ℕ) (i : ℕ) → RisingClaims rank ok n s lo l → i < length l → (lo ≤ key rank (get_or l i 0)) × (get_or l i 0 < n)
  rising_at zero lo (k ∷ l) i r h = elim r [ ]
  rising_at s lo [] i none h = absurd (omega arith)
  rising_at (suc s) lo (k ∷ l) zero (more a b c d) h = (a, b)
  rising_at (suc s) lo (k ∷ l) (suc i) (more a b c d) h =
      let p = rising_at s (key rank k + 1) l i d (omega arith) in (omega (arith, p.0), p.1)

  -- and it is admitted
  pub rising_ok : (s lo : ℕ) (l : List ℕ) (i : ℕ) → RisingClaims rank ok n s lo l → i < length l → ok (get_or l i 0) ≡ true
  rising_ok zero lo (k ∷ l) i r h = elim r [ ]
  rising_ok s lo [] i none h = absurd (omega arith)
  rising_ok (suc s) lo (k ∷ l) zero (more a b c d) h = c
  rising_ok (suc s) lo (k ∷ l) (suc i) (more a b c d) h = rising_ok s (key rank k + 1) l i d (omega arith)

  -- so many claims, the last of which does not come behind j
  pub rising_covers : (s lo j : ℕ) (l : List ℕ) → n ≤ most_claims → j < most_claims → RisingClaims rank ok n (suc s) lo l → length l ≡ suc s
      → key rank (get_or l s 0) ≤ key rank j → Covered rank j (suc s) l
  rising_covers s lo j [] hn hj none h last = absurd (omega arith)
  rising_covers zero lo j (k ∷ []) hn hj (more a b c d) h last =
      ⊎_elim (λ e. let z : j ≡ k = omega arith in rw z there) (λ f. past f full) (eq-or-lt_of_le last)
  rising_covers zero lo j (k ∷ x ∷ l) hn hj r h last = absurd (omega arith)
  rising_covers (suc s) lo j (k ∷ l) hn hj (more a b c d) h last =
      let p = rising_at (suc s) (key rank k + 1) l s d (omega arith) in
      let f : key rank k < key rank j = omega (arith, p.0, last) in
      past f (rising_covers s (key rank k + 1) j l hn hj d (omega arith) last)

  -- ---- insertion

  module _ (k : ℕ) (hn : n ≤ most_claims) (hk : k < n) where
    pub insert_rising : (t lo : ℕ) (l : List ℕ) → lo ≤ key rank k → ok k ≡ true → RisingClaims rank ok n t lo l → RisingClaims rank ok n (suc t) lo (insert_by rank k l)
    unfolding insert_by
    insert_rising zero lo (x ∷ l) hlo hok r = elim r [ ]
    insert_rising t lo [] hlo hok none = more hlo hk hok none
    insert_rising (suc t) lo (x ∷ l) hlo hok (more a b c d) =
        go (sooner rank x k) (eqb x k) refl refl (λ h. insert_rising t (key rank x + 1) l h hok d)
      where
        go : (u v : Bool) → sooner rank x k ≡ u → eqb x k ≡ v → (key rank x + 1 ≤ key rank k → RisingClaims rank ok n (suc t) (key rank x + 1) (insert_by rank k l))
            → RisingClaims rank ok n (suc (suc t)) lo (cond u (x ∷ insert_by rank k l) (cond v (x ∷ l) (k ∷ x ∷ l)))
        go true v p q rec = more a b c (rec (omega (arith, sooner_true rank x k (omega arith) (omega arith) p)))
        go false true p q rec = more a b c (rising_more t (key rank x + 1) l d)
        go false false p q rec =
            let f : key rank k + 1 ≤ key rank x = omega (arith, sooner_false rank x k (omega arith) (omega arith) p, key_differs rank x k (omega arith) (omega arith) (eqb-false x k q)) in
            more hlo hk hok (more f b c d)

    -- the claim that was put is there, or everything kept comes before it
    pub insert_there : (s t lo : ℕ) (l : List ℕ) → RisingClaims rank ok n t lo l → Covered rank k s (take s (insert_by rank k l))
    unfolding insert_by
    insert_there (suc s) zero lo (x ∷ l) r = elim r [ ]
    insert_there zero t lo l r = full
    insert_there (suc s) t lo [] none = there
    insert_there (suc s) (suc t) lo (x ∷ l) (more a b c d) = go (sooner rank x k) (eqb x k) refl refl (insert_there s t (key rank x + 1) l d)
      where
        go : (u v : Bool) → sooner rank x k ≡ u → eqb x k ≡ v → Covered rank k s (take s (insert_by rank k l))
            → Covered rank k (suc s) (take (suc s) (cond u (x ∷ insert_by rank k l) (cond v (x ∷ l) (k ∷ x ∷ l))))
        go true v p q rec = past (sooner_true rank x k (omega arith) (omega arith) p) rec
        go false true p q rec = rw (eqb-true x k q) there
        go false false p q rec = there

    -- what was covered stays so
    pub insert_keeps : (j s t lo : ℕ) (l : List ℕ) → RisingClaims rank ok n t lo l → Covered rank j s (take s l) → Covered rank j s (take s (insert_by rank k l))
    unfolding insert_by
    insert_keeps j (suc s) zero lo (x ∷ l) r h = elim r [ ]
    insert_keeps j zero t lo l r c = full
    insert_keeps j (suc s) t lo [] none c = absurd (let z = covered_some rank j (suc s) [] c (omega arith) in omega arith)
    insert_keeps j (suc s) (suc t) lo (x ∷ l) (more a b c d) h = go (sooner rank x k) (eqb x k) refl refl h (λ c. insert_keeps j s t (key rank x + 1) l d c)
      where
        go : (u v : Bool) → sooner rank x k ≡ u → eqb x k ≡ v → Covered rank j (suc s) (x ∷ take s l) → (Covered rank j s (take s l) → Covered rank j s (take s (insert_by rank k l)))
            → Covered rank j (suc s) (take (suc s) (cond u (x ∷ insert_by rank k l) (cond v (x ∷ l) (k ∷ x ∷ l))))
        go true v p q h rec = step rank x j s (take s l) _ h rec
        go false true p q h rec = h
        go false false p q h rec = moved rank k x j s l (omega (arith, sooner_false rank x k (omega arith) (omega arith) p, key_differs rank x k (omega arith) (omega arith) (eqb-false x k q))) h

  -- ---- what walks keep

  pub still : (size : ℕ) (C : ℕ → Type 0) (l : List ℕ) → RisingClaims rank ok n size zero l → ((j : ℕ) → C j → ok j ≡ true → Covered rank j size l) → Kept rank ok n size C l l
  still size C l r h = record { rising = r; keeps = λ j c. c; all = h }

  -- the step of claim k
  pub one : (size k : ℕ) (l : List ℕ) → n ≤ most_claims → k < n → ok k ≡ true → RisingClaims rank ok n size zero l → Kept rank ok n size (λ j. j ≡ k) l (take size (insert_by rank k l))
  one size k l hn hk hok r =
      record {
        rising = rising_take size (suc size) zero (insert_by rank k l) (insert_rising k hn hk size zero l (omega arith) hok r);
        keeps = λ j c. insert_keeps k hn hk j size size zero l r (rw (take_all size l (rising_few size zero l r)) c);
        all = λ j e y. rw e (insert_there k hn hk size size zero l r);
      }

  -- one walk after the other
  pub then : (size : ℕ) (C C₁ C₂ : ℕ → Type 0) (l a r : List ℕ) → Kept rank ok n size C₁ l a → Kept rank ok n size C₂ a r
      → ((j : ℕ) → C j → C₁ j ⊎ C₂ j) → Kept rank ok n size C l r
  then size C C₁ C₂ l a r s₁ s₂ split =
      record {
        rising = s₂.rising;
        keeps = λ j c. s₂.keeps j (s₁.keeps j c);
        all = λ j c y. ⊎_elim (λ c₁. s₂.keeps j (s₁.all j c₁ y)) (λ c₂. s₂.all j c₂ y) (split j c);
      }

  -- fewer claims
  pub fewer : (size : ℕ) (C D : ℕ → Type 0) (l r : List ℕ) → ((j : ℕ) → C j → D j) → Kept rank ok n size D l r → Kept rank ok n size C l r
  fewer size C D l r h s = record { rising = s.rising; keeps = s.keeps; all = λ j c. s.all j (h j c) }

  -- ---- what covers all claims is the page

  -- two lists that cover all claims from key lo on are the same
  pub same : (s lo : ℕ) (l r : List ℕ) → RisingClaims rank ok n s lo l → RisingClaims rank ok n s lo r
      → ((j : ℕ) → j < n → ok j ≡ true → lo ≤ key rank j → Covered rank j s l) → ((j : ℕ) → j < n → ok j ≡ true → lo ≤ key rank j → Covered rank j s r) → l ≡ r
  same zero lo [] (y ∷ r) _ v cl cr = elim v [ ]
  same zero lo (x ∷ l) r u _ cl cr = elim u [ ]
  same s lo [] [] none none cl cr = refl
  same (suc s) lo [] (y ∷ r) none (more a b c d) cl cr = absurd (let z = covered_some rank y (suc s) [] (cl y b c a) (omega arith) in omega arith)
  same (suc s) lo (x ∷ l) [] (more a b c d) none cl cr = absurd (let z = covered_some rank x (suc s) [] (cr x b c a) (omega arith) in omega arith)
  same (suc s) lo (x ∷ l) (y ∷ r) (more a b c d) (more a' b' c' d') cl cr =
      let e : x ≡ y = heads rank x y s l r (cr x b c a) (cl y b' c' a') in
      let d'' : RisingClaims rank ok n s (key rank x + 1) r = rw e d' in
      let tail : l ≡ r = same s (key rank x + 1) l r d d''
      (λ j hj hok lo'. tails rank x j s l (omega arith) (cl j hj hok (omega arith)))
      (λ j hj hok lo'. tails rank x j s r (omega arith) (rw e (cr j hj hok (omega arith)))) in
      cc

  -- the plain scan
  pub scan_rising : (m : ℕ) → m ≤ n → n ≤ most_claims → RisingClaims rank ok n m zero (sorted_of rank ok m)
  unfolding sorted_of
  scan_rising zero h hn = none
  scan_rising (suc m) h hn = go (ok m) refl (scan_rising m (omega arith) hn)
    where
      go : (u : Bool) → ok m ≡ u → RisingClaims rank ok n m zero (sorted_of rank ok m) → RisingClaims rank ok n (suc m) zero (cond u (insert_by rank m (sorted_of rank ok m)) (sorted_of rank ok m))
      go true p r = insert_rising m hn (omega arith) m zero _ (omega arith) p r
      go false p r = rising_more m zero _ r

  pub scan_covers : (m size j : ℕ) → m ≤ n → n ≤ most_claims → j < m → ok j ≡ true → Covered rank j size (take size (sorted_of rank ok m))
  unfolding sorted_of
  scan_covers zero size j h hn hj hok = absurd (omega arith)
  scan_covers (suc m) size j h hn hj hok = go (ok m) refl (eq-or-lt_of_le (omega arith)) (λ l. scan_covers m size j (omega arith) hn l hok)
    where
      go : (u : Bool) → ok m ≡ u → (j ≡ m) ⊎ (j < m) → (j < m → Covered rank j size (take size (sorted_of rank ok m)))
          → Covered rank j size (take size (cond u (insert_by rank m (sorted_of rank ok m)) (sorted_of rank ok m)))
      go true p (inl e) rec = rw e (insert_there m hn (omega arith) size m zero _ (scan_rising m (omega arith) hn))
      go true p (inr l) rec = insert_keeps m hn (omega arith) j size m zero _ (scan_rising m (omega arith) hn) (rec l)
      go false p (inl e) rec = let z : true ≡ false = sym hok ∙ rw e p in absurd (no_way z)
      go false p (inr l) rec = rec l

  -- what a walk over all claims keeps from nothing is the page
  pub all_are_first : (size : ℕ) (C : ℕ → Type 0) (r : List ℕ) → n ≤ most_claims → ((j : ℕ) → j < n → C j) → Kept rank ok n size C [] r → r ≡ first_sorted rank ok n size
  unfolding first_sorted
  all_are_first size C r hn all k =
      same size zero r (take size (sorted_of rank ok n)) k.rising (rising_take size n zero _ (scan_rising n (le_refl n) hn))
      (λ j hj hok lo. k.all j (all j hj) hok) (λ j hj hok lo. scan_covers n size j (le_refl n) hn hj hok)
