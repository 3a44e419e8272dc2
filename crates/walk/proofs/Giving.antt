-- From the keys that a walk kept to the items of a page. Assumes nothing.
use Prim.Native.Nat.{ℕ, zero, suc, ◌+◌, ◌*◌, ◌/◌, ◌%◌, ◌<◌, ◌≤◌}
use mathlib.Core.Path.{◌≡◌, refl, sym, ap, ◌∙◌}
use mathlib.Core.Bool.{Bool, true, false}
use mathlib.Core.List.{List, [], ◌∷◌, ◌++◌, append_assoc}
use native.Mathlib.Omega.{arith}
use lib.Dec.{ltb}
use lib.ListN.{length, get_or, take, drop, length-append, length-drop, length-take}
use lib.Seq.{sets, sets-eq, length-sets, take_at, drop_at, drop-drop, take-suc, take_all}
use borrow.Author.Tests.{ltb-true, ltb-false}
use Rattle.paper.specs.declared.orders.Order.{Order}
use Rattle.paper.specs.declared.orders.Order.TheVariants.{Near, Far}
use Rattle.paper.specs.Limits.{most_claims}
use Rattle.paper.specs.Tree.{reference_at}
use Rattle.walk_keep.specs.declared.asked.Asked.{Asked}
use Rattle.walk_keep.specs.Numbers.{most_distance, top, rank_at, key_at}
use Rattle.walk_keep.specs.Page.{ranks, items, filled}
use Rattle.walk_keep.specs.Kept.{ok_by, Holding}
use Rattle.walk_keep.proofs.Keeping.{rising_at, rising_few, rising_ok}
use Rattle.walk_keep.specs.Asked.{wanted_by}
use Rattle.walk_keep.proofs.Admitting.{admitted_is, in_numbers}
use Rattle.walk.specs.Walking.{GiveAsk, Gives}

-- ---- what a key stands for

module _ (o : Order) (x k : ℕ) (near : x ≤ most_distance) (stored : k < most_claims) (y : ℕ) (is : y ≡ key_at (rank_at o x) k) where
  number_of : y % most_claims ≡ k
  number_of = omega arith

  rank_of : y / most_claims ≡ rank_at o x
  rank_of = omega arith

  twice : (o : Order) → rank_at o (rank_at o x) ≡ x
  unfolding rank_at
  twice Near = refl
  twice Far = omega arith

  small : y / most_claims ≤ top
  unfolding rank_at
  small = go o rank_of
    where
      go : (o : Order) → y / most_claims ≡ rank_at o x → y / most_claims ≤ top
      go Near e = omega arith
      go Far e = omega arith

  distance_of : rank_at o (y / most_claims) ≡ x
  distance_of = ap (rank_at o) rank_of ∙ twice o

-- ---- one item more

-- numbers put behind a front
put_behind : (A D W : List ℕ) (n w : ℕ) → length A ≡ n → length W ≡ w → w ≤ length D → sets (A ++ D) n W ≡ A ++ (W ++ drop w D)
put_behind A D W n w lA lW h =
    sets-eq W (A ++ D) n (omega (arith, length-append A D)) ∙ append_assoc (take n (A ++ D)) W (drop (n + length W) (A ++ D))
    ∙ ap (λ (u : List ℕ). u ++ (W ++ drop (n + length W) (A ++ D))) (take_at A D n lA)
    ∙ ap (λ (u : List ℕ). A ++ (W ++ u)) (ap (λ (u : ℕ). drop (n + u) (A ++ D)) lW ∙ sym (drop-drop w n (A ++ D)) ∙ ap (drop w) (drop_at A D n lA))

module _ (ref dist : ℕ → ℕ) where
  items_append : (l m : List ℕ) → items ref dist (l ++ m) ≡ items ref dist l ++ items ref dist m
  unfolding items
  items_append [] m = refl
  items_append (k ∷ l) m = rw (items_append l m)

  items_length : (l : List ℕ) → length (items ref dist l) ≡ length l * 3
  unfolding items
  items_length [] = refl
  items_length (k ∷ l) = let h = items_length l in omega arith

  fill_next : (l base : List ℕ) (i : ℕ) → i < length l → i * 3 + 3 ≤ length base
      → sets (filled ref dist (take i l) base) (i * 3) (get_or l i 0 ∷ ref (get_or l i 0) ∷ dist (get_or l i 0) ∷ []) ≡ filled ref dist (take (i + 1) l) base
  unfolding items
  fill_next l base i hi long =
      let k : ℕ = get_or l i 0 in
      let A : List ℕ = items ref dist (take i l) in
      let D : List ℕ = drop (length (take i l) * 3) base in
      let W : List ℕ = k ∷ ref k ∷ dist k ∷ [] in
      let n : length (take i l) ≡ i = length-take i l ∙ omega arith in
      let n' : length (take (i + 1) l) ≡ i + 1 = length-take (i + 1) l ∙ omega arith in
      let lA : length A ≡ i * 3 = items_length (take i l) ∙ omega arith in
      let lD : 3 ≤ length D = rw length-drop (omega arith) in
      let s : i + 1 ≡ suc i = omega arith in
      let w : length (take i l) * 3 + 3 ≡ length (take (i + 1) l) * 3 = omega arith in
      let e₃ : drop 3 D ≡ drop (length (take (i + 1) l) * 3) base = drop-drop 3 (length (take i l) * 3) base ∙ ap (λ (u : ℕ). drop u base) w in
      let e₄ : items ref dist (take (i + 1) l) ≡ A ++ W = ap (λ (u : ℕ). items ref dist (take u l)) s ∙ ap (items ref dist) (take-suc l i 0 hi) ∙ items_append (take i l) (k ∷ []) in
      put_behind A D W (i * 3) 3 lA refl lD ∙ ap (λ (u : List ℕ). A ++ (W ++ u)) e₃
      ∙ sym (append_assoc A W (drop (length (take (i + 1) l) * 3) base)) ∙ ap (λ (u : List ℕ). u ++ drop (length (take (i + 1) l) * 3) base) (sym e₄)

-- ---- the loop that gives items

pub record Giving (ask : Asked) (references kept o₀ o : List ℕ) (i : ℕ) : Type 0 where
  pub long : length o ≡ length o₀
  pub given : (dist : ℕ → ℕ) (l : List ℕ) → Holding ask dist kept l → (i ≤ length l) × (o ≡ filled (reference_at references) dist (take i l) o₀)

pub giving_start : (ask : Asked) (references kept o : List ℕ) → Giving ask references kept o o 0
unfolding items
giving_start ask references kept o = record { long = refl; given = λ dist l h. (omega arith, refl) }

-- item i of a room that holds claims
module _ {ask : Asked} {dist : ℕ → ℕ} {kept l : List ℕ} (h : Holding ask dist kept l) (i : ℕ) where
  held : i < ask.sought.size → (get_or kept i 0 ≡ ask.end → ⊥) → i < length l
  held hi ne = go (ltb i (length l)) refl
    where
      go : (u : Bool) → ltb i (length l) ≡ u → i < length l
      go true p = ltb-true i (length l) p
      go false p = absurd (ne (h.ends i (ltb-false i (length l) p) hi))

  module _ (hi : i < length l) where
    abbrev K : ℕ
    K = get_or l i 0

    numbered : K < ask.sought.snapshot
    numbered = (rising_at (ranks ask.order dist) (ok_by ask dist) ask.sought.snapshot ask.sought.size zero l i h.rising hi).1

    stored : K < most_claims
    stored = omega (arith, numbered, ask.stored)

    not_end : get_or kept i 0 ≡ ask.end → ⊥
    not_end e =
        let b = in_numbers ask (dist K) K (h.near i hi) stored (admitted_is (wanted_by ask) (dist K) K (rising_ok (ranks ask.order dist) (ok_by ask dist) ask.sought.snapshot ask.sought.size zero l i h.rising hi)) in
        omega (arith, b.1, h.keys i hi)

    number_is : get_or kept i 0 % most_claims ≡ K
    number_is = number_of ask.order (dist K) K (h.near i hi) stored (get_or kept i 0) (h.keys i hi)

    rank_small : get_or kept i 0 / most_claims ≤ top
    rank_small = small ask.order (dist K) K (h.near i hi) stored (get_or kept i 0) (h.keys i hi)

    distance_is : rank_at ask.order (get_or kept i 0 / most_claims) ≡ dist K
    distance_is = distance_of ask.order (dist K) K (h.near i hi) stored (get_or kept i 0) (h.keys i hi)

module _ {ask : Asked} {references kept o₀ : List ℕ} (asks : GiveAsk ask references kept o₀) {o : List ℕ} {i : ℕ} (g : Giving ask references kept o₀ o i) where
  pub give_ready : i < length kept → (get_or kept i 0 ≡ ask.end → ⊥)
      → ((get_or kept i 0 / most_claims ≤ top) × (get_or kept i 0 % most_claims < length references)) × (i * 3 + 3 ≤ length o)
  give_ready hi ne =
      let hl = held asks.holds i (omega (arith, asks.few)) ne in
      ((rank_small asks.holds i hl, omega (arith, number_is asks.holds i hl, numbered asks.holds i hl, asks.named)), omega (arith, asks.long, g.long))

  pub giving_turn : {o' : List ℕ} → i < length kept → (get_or kept i 0 ≡ ask.end → ⊥)
      → o' ≡ sets o (i * 3) (get_or kept i 0 % most_claims ∷ reference_at references (get_or kept i 0 % most_claims) ∷ rank_at ask.order (get_or kept i 0 / most_claims) ∷ []) → Giving ask references kept o₀ o' (i + 1)
  giving_turn hi ne put =
      record {
        long = simp length-sets at (ap length put) ∙ g.long;
        given = λ dist l h.
            let hl : i < length l = held h i (omega (arith, asks.few)) ne in (
              omega arith,
              rw (number_is h i hl, distance_is h i hl) at put
                  ∙ ap (λ (u : List ℕ). sets u (i * 3) (get_or l i 0 ∷ reference_at references (get_or l i 0) ∷ dist (get_or l i 0) ∷ [])) (g.given dist l h).1
                  ∙ fill_next (reference_at references) dist l o₀ i hl (omega (arith, asks.long)),
            );
      }

  module _ (dist : ℕ → ℕ) (l : List ℕ) (h : Holding ask dist kept l) where
    whole : (n : ℕ) → i ≡ length l → n ≡ length l → Gives (reference_at references) dist l o₀ o n
    whole n e f = record { room = (g.given dist l h).1 ∙ ap (λ (u : List ℕ). filled (reference_at references) dist u o₀) (take_all i l (omega arith)); counts = f }

    pub given_end : get_or kept i 0 ≡ ask.end → Gives (reference_at references) dist l o₀ o i
    given_end e = let all = go (ltb i (length l)) refl in whole i all all
      where
        go : (u : Bool) → ltb i (length l) ≡ u → i ≡ length l
        go true p = absurd (not_end h i (ltb-true i (length l) p) e)
        go false p = omega (arith, ltb-false i (length l) p, (g.given dist l h).0)

    pub given_all : length kept ≤ i → Gives (reference_at references) dist l o₀ o (length kept)
    given_all all =
        let few = rising_few (ranks ask.order dist) (ok_by ask dist) ask.sought.snapshot ask.sought.size zero l h.rising in
        whole (length kept) (omega (arith, asks.few, (g.given dist l h).0)) (omega (arith, asks.few, (g.given dist l h).0))
