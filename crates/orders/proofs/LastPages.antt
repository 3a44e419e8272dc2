-- What the last flag says, claim by claim: a last page has every claim that follows its place, and behind another a claim follows. Assumes nothing.
use Prim.Native.Nat.{ℕ, zero, suc, ◌<◌, ◌≤◌}
use mathlib.Core.Path.{◌≡◌, subst}
use mathlib.Core.Bool.{true, false}
use mathlib.Core.List.{List, [], ◌∷◌, Memᴰ}
use native.Mathlib.Omega.{arith}
use lib.ListN.{length, get_or, take}
use lib.Seq.{take_all}
use Rattle.paper.specs.declared.orders.Order.{Order}
use Rattle.paper.specs.declared.orders.Place.{Place}
use Rattle.paper.specs.Points.{Claim}
use Rattle.paper.specs.declared.orders.Item.{Item}
use Rattle.paper.specs.Orders.{no_item, Query, earlier, item_of, listed, follows, snapshot_of, following, page_of, last_of}
use Rattle.orders.proofs.Lists.{All, all_get_d}
use Rattle.orders.proofs.Sorted.{Rising, listed_are, listed_rising, rest_follows, all_rest, rising_rest}
use Rattle.orders.proofs.Page.{last_all, last_more}
use Rattle.orders.proofs.Meaning.{listed_has}
use Rattle.orders.proofs.KeptBack.{rest_has}

-- an item of a list that rises stands behind all in front of it
rising_front : (o : Order) (l : List Item) (n : ℕ) (z : Item) → Rising o l → n < length l → All (λ x. earlier o x (get_or l n z) ≡ true) (take n l)
rising_front o l zero z r h = tt
rising_front o [] (suc n) z r h = absurd (omega arith)
rising_front o (x ∷ l) (suc n) z r h = (all_get_d _ l n z r.0 (omega arith), rising_front o l n z r.1 (omega arith))

module _ (q : Query) (cs : List Claim) (p : Place) (size : ℕ) where
  -- [4.7] a last page has every claim below the snapshot and within reach that comes after its place
  pub last_has_every_claim : last_of size (following q cs p) ≡ true → (k : ℕ) → k < snapshot_of p (length cs) → (item_of q cs k).distance ≤ q.reach
      → follows q.order p (item_of q cs k) ≡ true → Memᴰ (item_of q cs k) (page_of q cs p size)
  unfolding page_of following
  last_has_every_claim last k below within after =
      rw (take_all size (following q cs p) (last_all size (following q cs p) last))
      (rest_has q.order p (item_of q cs k) (listed q cs (snapshot_of p (length cs))) after (listed_has q cs (snapshot_of p (length cs)) k below within))

  -- a claim below the snapshot and within reach, after the place and behind all items of the page
  pub record ClaimBehind (k : ℕ) : Type 0 where
    pub below : k < snapshot_of p (length cs)
    pub within : (item_of q cs k).distance ≤ q.reach
    pub after : follows q.order p (item_of q cs k) ≡ true
    pub behind : All (λ x. earlier q.order x (item_of q cs k) ≡ true) (page_of q cs p size)

  -- [4.7] behind a page that is not the last there is one
  pub a_claim_behind : last_of size (following q cs p) ≡ false → ClaimBehind (get_or (following q cs p) size no_item).number
  unfolding page_of following
  a_claim_behind more =
      let all : List Item = listed q cs (snapshot_of p (length cs)) in
      let here : size < length (following q cs p) = last_more size (following q cs p) more in
      let is = all_get_d _ (following q cs p) size no_item (all_rest q.order _ p all (listed_are q cs (snapshot_of p (length cs)))) here in
      record {
        below = is.below;
        within = subst (λ (x : Item). x.distance ≤ q.reach) is.is is.within;
        after = subst (λ (x : Item). follows q.order p x ≡ true) is.is (all_get_d _ (following q cs p) size no_item (rest_follows q.order p all) here);
        behind = subst (λ (x : Item). All (λ y. earlier q.order y x ≡ true) (take size (following q cs p))) is.is
            (rising_front q.order (following q cs p) size no_item (rising_rest q.order p all (listed_rising q cs (snapshot_of p (length cs)))) here);
      }
