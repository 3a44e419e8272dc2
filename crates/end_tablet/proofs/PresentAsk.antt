-- Whether an answer is to the present ask of a list: queries compared, and what the present ask is. Assumes nothing.
use Prim.Native.Nat.{ℕ, ◌+◌, ◌-◌, ◌*◌, ◌≤◌}
use mathlib.Core.Path.{◌≡◌, refl, sym, ap, ◌∙◌}
use mathlib.Core.Bool.{Bool, true, false}
use mathlib.Core.List.{List}
use native.Mathlib.Omega.{arith}
use lib.Dec.{eqb}
use lib.ListN.{get_or, take}
use borrow.Author.Tests.{eq-eqb, ne_eqb}
use Rattle.paper.specs.declared.lines.Answer.{Answer}
use Rattle.paper.specs.declared.lines.Scope.{Scope}
use Rattle.paper.specs.declared.lists.List as lists
use Rattle.paper.specs.declared.queries.Query as queries
use Rattle.paper.specs.declared.orders.Place.{Place}
use Rattle.paper.specs.declared.orders.Place.TheVariants.{Start, After}
use Rattle.paper.specs.Orders.{query_in, snapshot_of}
use Rattle.paper.specs.Ends.{last_item, present_place, same_probe, same_query, same_place, to_present}
use Rattle.paper.specs.Lists.{held, items_in, listing}
use Rattle.paper.specs.Codec.{place_in, scope_of, answer_meant}
use Rattle.orders.proofs.Rooms.{length_in}
use Rattle.end_tablet.proofs.ItemLaws.{item_at, item_get}
use Rattle.end_tablet.proofs.ListLaws.{same_take}

-- ---- places

-- what was written reads back
pub place_back : (p : Place) → place_in (scope_of p (snapshot_of p 0)) ≡ p
unfolding place_in scope_of
place_back Start = refl
place_back (After n m) = refl

-- ---- queries

module _ (p q : queries.Query) where
  abbrev same : Bool
  same = same_query (query_in p) (query_in q)

  pub query_table : (p.table ≡ q.table → ⊥) → false ≡ same
  unfolding same_query
  query_table h = rw (ne_eqb p.table q.table h)

  module _ (ht : p.table ≡ q.table) where
    pub query_measure : (p.measure ≡ q.measure → ⊥) → false ≡ same
    unfolding same_query
    query_measure h = rw (eq-eqb p.table q.table ht, ne_eqb p.measure q.measure h)

    module _ (hm : p.measure ≡ q.measure) where
      pub query_d : (p.d ≡ q.d → ⊥) → false ≡ same
      unfolding same_query
      query_d h = rw (eq-eqb p.table q.table ht, eq-eqb p.measure q.measure hm, ne_eqb p.d q.d h)

      module _ (hd : p.d ≡ q.d) (b : Bool) (be : b ≡ same_probe p.d p.probe q.probe) where
        probes : same_probe p.d (take p.d p.probe) (take q.d q.probe) ≡ b
        probes = same_take p.d p.d q.d p.probe q.probe (omega arith) (omega arith) ∙ sym be

        pub query_probe : b ≡ false → false ≡ same
        unfolding same_query
        query_probe h =
            rw (eq-eqb p.table q.table ht, eq-eqb p.measure q.measure hm, eq-eqb p.d q.d hd, probes, h)

        pub query_reach : b ≡ true → eqb p.reach q.reach ≡ same
        unfolding same_query
        query_reach h =
            rw (eq-eqb p.table q.table ht, eq-eqb p.measure q.measure hm, eq-eqb p.d q.d hd, probes, h)

-- ---- the present ask

-- the last item of a list that has one
last_at : (n : ℕ) (room : List ℕ) → 1 ≤ n → last_item (items_in n room) ≡ item_at room (n - 1)
last_at n room h = rw (length_in n room) (item_get n (n - 1) room (omega arith))

module _ (l : lists.List) (room : List ℕ) where
  abbrev present_at : Place
  present_at = present_place (listing (held l room))

  pub present_after : l.started ≡ true → 1 ≤ l.count
      → record { from = 1; snapshot = l.snapshot; distance = get_or room (l.count * 3 - 1) 0; number = get_or room (l.count * 3 - 3) 0 } ≡ scope_of present_at (snapshot_of present_at 0)
  unfolding present_place listing scope_of
  present_after s h =
      let a : (l.count - 1) * 3 ≡ l.count * 3 - 3 = omega arith in
      let b : l.count * 3 - 3 + 2 ≡ l.count * 3 - 1 = omega arith in
      rw (s, last_at l.count room h, a, b)

  pub present_start : l.started ≡ false → record { from = 0; snapshot = 0; distance = 0; number = 0 } ≡ scope_of present_at (snapshot_of present_at 0)
  unfolding present_place listing scope_of
  present_start s = rw s

  module _ (y : Answer) (a : Bool) (ae : a ≡ same_query (query_in l.query) (query_in y.query)) where
    pub present_query : a ≡ false → false ≡ to_present (listing (held l room)) (answer_meant y)
    unfolding to_present listing answer_meant
    present_query h = rw (← ae, h)

    pub present_place_lem : a ≡ true → (p : Scope) → p ≡ scope_of present_at (snapshot_of present_at 0)
        → (r : Bool) → r ≡ same_place (place_in p) (place_in y.scope) → r ≡ to_present (listing (held l room)) (answer_meant y)
    unfolding to_present listing answer_meant
    present_place_lem h p pe r e =
        let b : place_in p ≡ present_at = ap place_in pe ∙ place_back present_at in
        e ∙ ap (λ (u : Place). same_place u (place_in y.scope)) b ∙ rw (← ae, h)
