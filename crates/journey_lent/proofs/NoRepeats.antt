-- [3.17] Where no reference stands twice in the table that a world begins with, none ever does, in its table or on a list. Assumes nothing.
use Prim.Native.Nat.{ℕ, zero, suc, ◌<◌, ◌≤◌}
use mathlib.Core.Path.{◌≡◌, refl, sym, ap, ◌∙◌}
use mathlib.Core.Bool.{Bool, true, false}
use mathlib.Core.List.{List, [], ◌∷◌, Memᴰ}
use native.Mathlib.Omega.{arith}
use lib.Dec.{ltb}
use lib.IntN.{ℤ}
use lib.ListN.{length, get_or, length-take}
use lib.Seq.{get_or-take}
use borrow.Author.Tests.{ltb-true, ltb-false}
use Rattle.paper.specs.declared.lists.List as lists
use Rattle.paper.specs.Points.{Claim, zero_claim}
use Rattle.paper.specs.declared.orders.Item.{Item}
use Rattle.paper.specs.Orders.{no_item, Query, item_of, listed}
use Rattle.paper.specs.Outcomes.{Outcome, refused, gives, leaves}
use Rattle.paper.specs.Tree.{Store, claims_in}
use Rattle.paper.specs.References.{references_of, in_force, anew}
use Rattle.paper.specs.Runs.{enter_call}
use Rattle.paper.specs.Lists.{Held, listing, opening_held, asking_held}
use Rattle.paper.specs.Calls.{office_call}
use Rattle.paper.specs.Codec.{lines}
use Rattle.orders.proofs.Lists.{all_get_d}
use Rattle.orders.proofs.Sorted.{IsOf, listed_are}
use Rattle.orders.proofs.Meaning.{listed_once}
use Rattle.tree_repeats.proofs.Among.{anew_is}
use Rattle.tree_repeats.proofs.EnteredOnce.{entered_once}
use Rattle.journey_lent.specs.World.{LentWorld, LentEvent, enters, opens, asks, receives, takes, strays, the_held, put_table, put_list, put_in_air, next_lent, LentStep, happens, copies, LentReachable, LentLater, still, onwards}
use Rattle.journey_lent.proofs.Demand.{every_list_is_the_first_so_many}

-- no reference stands twice among the claims
abbrev pub NoneTwice : List Claim → Type 0
NoneTwice claims = anew [] (in_force claims) ≡ true

-- ---- the table

table_none : (w : LentWorld) (given : List ℕ) (points : List ℤ) (o : Outcome Store) → enter_call w.store given points ≡ o
    → NoneTwice (claims_in w.store) → NoneTwice (claims_in (leaves put_table o w).store)
table_none w given points (refused n) e none = none
table_none w given points (gives s) e none = entered_once w.store given points s e none

-- the other calls leave the table as it is
list_store : (w : LentWorld) (room : List ℕ) (o : Outcome lists.List) → (leaves (put_list room) o w).store ≡ w.store
list_store w room (refused n) = refl
list_store w room (gives l) = refl

air_store : (w : LentWorld) (o : Outcome (List ℕ)) → (leaves put_in_air o w).store ≡ w.store
air_store w (refused n) = refl
air_store w (gives s) = refl

event_none : (w : LentWorld) (e : LentEvent) → NoneTwice (claims_in w.store) → NoneTwice (claims_in (next_lent w e).store)
unfolding next_lent
event_none w (enters given points) none = table_none w given points _ refl none
event_none w (opens q room) none = rw (list_store w room (opening_held q)) none
event_none w (asks i size out) none = rw (air_store w (asking_held lines (the_held w i) size out)) none
event_none w (receives line out) none = rw (air_store w (office_call w.store out line)) none
event_none w (takes i line) none = none
event_none w (strays line) none = none

step_none : {w v : LentWorld} → LentStep w v → NoneTwice (claims_in w.store) → NoneTwice (claims_in v.store)
step_none {w} (happens e a) none = event_none w e none
step_none (copies i here room c) none = none

-- [3.17] at no later moment does the table have a reference twice
pub no_reference_comes_twice : {w v : LentWorld} → LentLater w v → NoneTwice (claims_in w.store) → NoneTwice (claims_in v.store)
no_reference_comes_twice still none = none
no_reference_comes_twice (onwards l s) none = step_none s (no_reference_comes_twice l none)

-- ---- a list

reference_at_lem : (claims : List Claim) (k : ℕ) → get_or (references_of claims) k 0 ≡ (get_or claims k zero_claim).reference
unfolding references_of
reference_at_lem [] k = refl
reference_at_lem (c ∷ claims) zero = refl
reference_at_lem (c ∷ claims) (suc k) = reference_at_lem claims k

references_length : (claims : List Claim) → length (references_of claims) ≡ length claims
unfolding references_of
references_length [] = refl
references_length (c ∷ claims) = ap suc (references_length claims)

module _ (q : Query) (claims : List Claim) (s : ℕ) (held : s ≤ length claims) (none : NoneTwice claims) where
  -- two claims with the same reference are one
  apart : (k j : ℕ) → k < j → j < s → (get_or claims k zero_claim).reference ≡ (get_or claims j zero_claim).reference → ⊥
  apart k j l h e =
      let n = references_length claims in
      (anew_is [] (in_force claims) none k (omega arith)).once j l (omega arith) (reference_at_lem claims k ∙ e ∙ sym (reference_at_lem claims j))

  shown_once : (i j : ℕ) → i < j → j < length (listed q claims s)
      → (get_or (listed q claims s) i no_item).reference ≡ (get_or (listed q claims s) j no_item).reference → ⊥
  unfolding item_of
  shown_once i j l h e = go (ltb a.number b.number) (ltb b.number a.number) refl refl
    where
      a : Item
      a = get_or (listed q claims s) i no_item

      b : Item
      b = get_or (listed q claims s) j no_item

      is_a : IsOf q claims s a
      is_a = all_get_d (IsOf q claims s) (listed q claims s) i no_item (listed_are q claims s) (omega arith)

      is_b : IsOf q claims s b
      is_b = all_get_d (IsOf q claims s) (listed q claims s) j no_item (listed_are q claims s) h

      same : (get_or claims a.number zero_claim).reference ≡ (get_or claims b.number zero_claim).reference
      same = sym (ap (λ (x : Item). x.reference) is_a.is) ∙ e ∙ ap (λ (x : Item). x.reference) is_b.is

      go : (x y : Bool) → ltb a.number b.number ≡ x → ltb b.number a.number ≡ y → ⊥
      go true y p r = apart a.number b.number (ltb-true _ _ p) is_b.below same
      go false true p r = apart b.number a.number (ltb-true _ _ r) is_a.below (sym same)
      go false false p r =
          let c : b.number ≤ a.number = ltb-false _ _ p in
          let d : a.number ≤ b.number = ltb-false _ _ r in
          listed_once q claims s i j no_item l h (omega arith)

-- [3.17] no list shows a reference twice
pub no_list_shows_a_reference_twice : (w : LentWorld) → LentReachable w → (h : Held) → Memᴰ h w.lists → h.list.query.table ≡ w.store.table.number
    → NoneTwice (claims_in w.store) → (i j : ℕ) → i < j → j < length (listing h).items
    → (get_or (listing h).items i no_item).reference ≡ (get_or (listing h).items j no_item).reference → ⊥
no_list_shows_a_reference_twice w r h m ours none i j l inside e =
    let t = (every_list_is_the_first_so_many w r h m ours).truthful in
    let L = listing h in
    let n : ℕ = length L.items in
    let all : List Item = listed L.query (claims_in w.store) L.snapshot in
    let long : n ≤ length all = omega (arith, ap length t.front, length-take n all) in
    let at : (k : ℕ) → k < n → get_or L.items k no_item ≡ get_or all k no_item =
    λ k hk. ap (λ (x : List Item). get_or x k no_item) t.front ∙ get_or-take n all k no_item hk in
    shown_once L.query (claims_in w.store) L.snapshot t.held none i j l (omega arith)
    (sym (ap (λ (x : Item). x.reference) (at i (omega arith))) ∙ e ∙ ap (λ (x : Item). x.reference) (at j inside))
