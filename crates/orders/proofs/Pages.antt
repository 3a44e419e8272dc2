-- Pages are parts of the order: joined from the start they give the whole of it, and later claims change none of them. Nearest and
-- farthest are the first of their order. Assumes nothing.
use Prim.Native.Nat.{ℕ, zero, suc, ◌+◌, ◌*◌, ◌<◌, ◌≤◌, min}
use mathlib.Core.Path.{◌≡◌, refl, sym, ap, ◌∙◌}
use mathlib.Core.Logic.{◌⊎◌, inl, inr, ⊎_elim}
use mathlib.Core.Bool.{Bool, true, false}
use mathlib.Core.List.{List, [], ◌∷◌, ◌++◌, Memᴰ}
use native.Mathlib.Omega.{arith}
use Rattle.std.specs.Prelude.{None}
use lib.Dec.{leb}
use lib.ListN.{length, take, drop, get_or, length-take}
use lib.Seq.{take-add, take_all, get_or-take}
use borrow.Author.Tests.{lt-ltb, le-leb, eq-eqb, leb-true, leb-false}
use Rattle.paper.specs.declared.orders.Mark.{Mark}
use Rattle.paper.specs.declared.orders.Place.{Place}
use Rattle.paper.specs.declared.orders.Place.TheVariants.{Start, After}
use Rattle.paper.specs.Points.{Claim}
use Rattle.paper.specs.declared.orders.Item.{Item}
use Rattle.paper.specs.Orders.{no_item, Query, item_of, listed, following, page_of, first_of, nearest_of, far_query, farthest_of, mark_holds}
use Rattle.paper.specs.Ends.{mark_of}
use Rattle.orders.proofs.Lists.{All, all_get_d, take_again}
use Rattle.orders.proofs.Sorted.{rest_start, rest_next, IsOf, listed_are, listed_rising, listed_grown}
use Rattle.orders.proofs.Meaning.{listed_has}

-- ---- where the next page starts

le_or_more : (a b : ℕ) → (a ≤ b) ⊎ (b < a)
le_or_more a b = go (leb a b) refl
  where
    go : (u : Bool) → leb a b ≡ u → (a ≤ b) ⊎ (b < a)
    go true p = inl (leb-true a b p)
    go false p = inr (leb-false a b p)

-- behind an item, in a snapshot
abbrev pub place_at : ℕ → Item → Place
place_at n a = After n (mark_of a)

-- where the next page starts, when the items of l have been shown of the order of the first n claims
unfoldable pub place_after : ℕ → List Item → Place
place_after n [] = Start
place_after n (a ∷ l) = place_at n (get_or (a ∷ l) (length l) no_item)

-- ---- pages joined

-- fronts of a list
module _ (l : List Item) where
  -- so many more, whether or not the front reached its end
  take_more : (n m : ℕ) → take (length (take n l) + m) l ≡ take (n + m) l
  take_more n m =
      ⊎_elim
      (λ h. let e : min n (length l) ≡ n = omega arith in rw (length-take n l, e))
      (λ h. let e : min n (length l) ≡ length l = omega arith in rw (length-take n l, e, take_all (length l + m) l (omega arith), take_all (n + m) l (omega arith)))
      (le_or_more n (length l))

module _ (q : Query) (cs : List Claim) where
  abbrev Listed : List Item
  Listed = listed q cs (length cs)

  -- a page after the first i items of the order is the next so many
  pub page_next : (i size : ℕ) → page_of q cs (place_after (length cs) (take i Listed)) size ≡ take size (drop (length (take i Listed)) Listed)
  unfolding page_of following place_after
  page_next i size = go (take i Listed) refl
    where
      go : (l : List Item) → take i Listed ≡ l → page_of q cs (place_after (length cs) l) size ≡ take size (drop (length l) Listed)
      go [] e = ap (take size) (rest_start q.order Listed)
      go (a ∷ l) e =
          let n : length (take i Listed) ≡ suc (length l) = ap length e in
          let h : length l < length Listed = omega (arith, length-take i Listed) in
          let f : get_or (a ∷ l) (length l) no_item ≡ get_or Listed (length l) no_item = ap (λ (x : List Item). get_or x (length l) no_item) (sym e) ∙ get_or-take i Listed (length l) no_item (omega (arith, length-take i Listed)) in
          rw f (ap (take size) (rest_next q.order (length cs) Listed (length l) no_item (listed_rising q cs (length cs)) h))

  pub pages_join : (i size : ℕ) → take i Listed ++ page_of q cs (place_after (length cs) (take i Listed)) size ≡ take (i + size) Listed
  pages_join i size =
      let n : ℕ = length (take i Listed) in
      ap (λ (l : List Item). take i Listed ++ l) (page_next i size)
      ∙ ap (λ (l : List Item). l ++ take size (drop (length (take i Listed)) Listed)) (sym (take_again i Listed))
      ∙ sym (take-add (length (take i Listed)) size Listed) ∙ take_more Listed i size

  -- the first pages, each asked for from the last item of the ones before
  unfoldable pub pages : ℕ → ℕ → List Item
  pages size zero = []
  pages size (suc i) = pages size i ++ page_of q cs (place_after (length cs) (pages size i)) size

  -- they are the first so many of the order, and in the end the whole of it
  pub pages_are : (size i : ℕ) → pages size i ≡ take (i * size) Listed
  unfolding pages
  pages_are size zero = let w : 0 * size ≡ 0 = omega arith in rw w
  pages_are size (suc i) =
      let w : i * size + size ≡ suc i * size = omega arith in
      ap (λ (l : List Item). l ++ page_of q cs (place_after (length cs) l) size) (pages_are size i)
      ∙ pages_join (i * size) size ∙ ap (λ (n : ℕ). take n Listed) w

  pub pages_whole : (size i : ℕ) → length Listed ≤ i * size → pages size i ≡ Listed
  pages_whole size i h = pages_are size i ∙ take_all (i * size) Listed h

  -- the mark of an item that was shown holds
  pub mark_shown : (n j : ℕ) → j < length (listed q cs n) → mark_holds q cs (place_at n (get_or (listed q cs n) j no_item)) ≡ true
  unfolding mark_holds
  mark_shown n j h =
      let a = all_get_d (IsOf q cs n) (listed q cs n) j no_item (listed_are q cs n) h in
      let x : Item = get_or (listed q cs n) j no_item in
      let e : x.distance ≡ (item_of q cs x.number).distance = ap (λ (y : Item). y.distance) a.is in
      rw (lt-ltb x.number n a.below, eq-eqb x.distance (item_of q cs x.number).distance e, le-leb x.distance q.reach a.within)

-- ---- claims that are entered later

-- claims entered later change no page of an earlier snapshot
pub page_grown : (q : Query) (cs more : List Claim) (n : ℕ) (m : Mark) (size : ℕ) → n ≤ length cs → page_of q (cs ++ more) (After n m) size ≡ page_of q cs (After n m) size
unfolding page_of following
page_grown q cs more n m size h = rw (listed_grown q cs more n h)

-- ---- the first of the order

first_take : (size : ℕ) (l : List Item) → 0 < size → first_of (take size l) ≡ first_of l
unfolding first_of
first_take zero l h = absurd (omega arith)
first_take (suc size) [] h = refl
first_take (suc size) (a ∷ l) h = refl

pub first_some : (l : List Item) (a : Item) → Memᴰ a l → first_of l ≡ None → ⊥
unfolding first_of
first_some [] a m e = elim m [ ]
first_some (b ∷ l) a m e = let z : ◌≡◌ {A = ℕ} 0 1 = cc in omega arith

module _ (q : Query) (cs : List Claim) where
  -- nearest is the first of the first page, farthest the first of far order
  pub nearest_first : (size : ℕ) → 0 < size → nearest_of q cs ≡ first_of (page_of q cs Start size)
  unfolding nearest_of page_of following
  nearest_first size h = sym (ap (λ (l : List Item). first_of (take size l)) (rest_start q.order (listed q cs (length cs))) ∙ first_take size (listed q cs (length cs)) h)

  pub farthest_first : (size : ℕ) → 0 < size → farthest_of q cs ≡ first_of (page_of (far_query q) cs Start size)
  unfolding farthest_of page_of following
  farthest_first size h =
      sym (ap (λ (l : List Item). first_of (take size l)) (rest_start (far_query q).order (listed (far_query q) cs (length cs))) ∙ first_take size (listed (far_query q) cs (length cs)) h)

  -- [4.1] Nothing just where no claim is within reach
  pub nearest_nothing : nearest_of q cs ≡ None → (k : ℕ) → k < length cs → q.reach < (item_of q cs k).distance
  unfolding nearest_of
  nearest_nothing e k h =
      ⊎_elim
      (λ w. absurd (first_some (listed q cs (length cs)) (item_of q cs k) (listed_has q cs (length cs) k h w) e))
      (λ l. l) (le_or_more (item_of q cs k).distance q.reach)

  pub nearest_none : ((k : ℕ) → k < length cs → q.reach < (item_of q cs k).distance) → nearest_of q cs ≡ None
  unfolding nearest_of first_of
  nearest_none none = go (listed q cs (length cs)) (listed_are q cs (length cs))
    where
      go : (l : List Item) → All (IsOf q cs (length cs)) l → first_of l ≡ None
      go [] h = refl
      go (a ∷ l) h = absurd (let d : a.distance ≡ (item_of q cs a.number).distance = ap (λ (y : Item). y.distance) h.0.is in omega (arith, none a.number h.0.below, h.0.within))

  -- [4.2] Nothing where there is no claim; that there is something else where there is one needs the measure (walk, Farthest)
  pub farthest_none : length cs ≡ 0 → farthest_of q cs ≡ None
  unfolding farthest_of listed first_of
  farthest_none e = rw e
