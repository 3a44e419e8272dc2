-- What is below a side: what the tests of a side find, and that a walk loses nothing where they let it skip the side. Assumes nothing.
use Prim.Native.Nat.{ℕ, ◌+◌, ◌-◌, ◌<◌, ◌≤◌, max}
use mathlib.Core.Path.{◌≡◌, refl, ◌∙◌}
use mathlib.Core.Logic.{inl}
use mathlib.Core.Bool.{Bool, true, false, cond}
use mathlib.Core.List.{List}
use native.Mathlib.Omega.{arith}
use lib.Dec.{eqb}
use lib.ListN.{get_or}
use Rattle.std.specs.Prelude.{Option, Some, None}
use borrow.Author.Tests.{le-ltb, lt-ltb, le-leb, lt-leb, ne_eqb, eqb-false}
use Rattle.paper.specs.declared.orders.Order.TheVariants.{Near, Far}
use Rattle.paper.specs.Tree.{field_at, side_claim}
use Rattle.tree.specs.BuiltNodes.{Holds}
use Rattle.walk_keep.specs.declared.asked.Asked.{Asked}
use Rattle.walk_keep.specs.Numbers.{most_distance, rank_at, key_at, half_at}
use Rattle.walk_keep.specs.Kept.{Walked}
use Rattle.walk_keep.specs.Skips.{passed_at, beyond_at}
use Rattle.walk_keep.proofs.Walks.{walked_still, walked_then, walked_fewer}
use Rattle.walk_keep.proofs.SkipLaws.{passed_by, half_way, beyond_covered}
use Rattle.walk.specs.Walking.{Metric, Below, InOrBelow, link_at, way_down}

-- ---- the node below a side

module _ (nodes : List ℕ) (m s w : ℕ) where
  pub link_some : field_at nodes m (4 + s) ≡ w + 1 → link_at nodes m s ≡ Some w
  unfolding link_at
  link_some e = let z : w + 1 - 1 ≡ w = omega arith in rw (e, ne_eqb (w + 1) 0 (λ q. omega arith), z)

  pub link_is : link_at nodes m s ≡ Some w → field_at nodes m (4 + s) ≡ w + 1
  unfolding link_at
  link_is = go (eqb (field_at nodes m (4 + s)) 0) refl
    where
      go : (u : Bool) → eqb (field_at nodes m (4 + s)) 0 ≡ u → cond u None (Some (field_at nodes m (4 + s) - 1)) ≡ Some w → field_at nodes m (4 + s) ≡ w + 1
      go true p e = absurd cc
      go false p e = let f : field_at nodes m (4 + s) - 1 ≡ w = cc in omega (arith, eqb-false (field_at nodes m (4 + s)) 0 p)

-- ---- the tests of a side

module _ (nodes : List ℕ) (ask : Asked) (m s x least : ℕ) (o : List ℕ) (far : ℕ) (read : far ≡ field_at nodes m (2 + s)) where
  abbrev Way : Option ℕ
  Way = way_down nodes ask m s x least o

  pub way_passed : x < ask.first - far → None ≡ Way
  unfolding way_down passed_at
  way_passed h = rw (← read, lt-ltb x (ask.first - far) h)

  module _ (open' : ask.first - far ≤ x) (y : ℕ) (bound : y ≡ key_at (max (x - far) least) (field_at nodes m 1)) where
    pub way_beyond : get_or o (ask.sought.size - 1) 0 ≤ y → None ≡ Way
    unfolding way_down passed_at beyond_at
    way_beyond h = rw (← read, ← bound, le-ltb x (ask.first - far) open', le-leb (get_or o (ask.sought.size - 1) 0) y h)

    pub way_open : y < get_or o (ask.sought.size - 1) 0 → link_at nodes m s ≡ Way
    unfolding way_down passed_at beyond_at
    way_open h = rw (← read, ← bound, le-ltb x (ask.first - far) open', lt-leb (get_or o (ask.sought.size - 1) 0) y h)

pub way_leads : (nodes : List ℕ) (ask : Asked) (m s x least : ℕ) (o : List ℕ) (w : ℕ) → way_down nodes ask m s x least o ≡ Some w → field_at nodes m (4 + s) ≡ w + 1
unfolding way_down
way_leads nodes ask m s x least o w =
    go (passed_at ask.first x (field_at nodes m (2 + s))) (beyond_at ask.sought x (field_at nodes m (2 + s)) least (field_at nodes m 1) o)
  where
    go : (u v : Bool) → cond u None (cond v None (link_at nodes m s)) ≡ Some w → field_at nodes m (4 + s) ≡ w + 1
    go true v e = absurd cc
    go false true e = absurd cc
    go false false e = link_is nodes m s w e

-- ---- below a side

module _ (ask : Asked) (nodes : List ℕ) (e : ℕ → ℕ → ℕ) (dist : ℕ → ℕ) (way : Option ℕ) (o : List ℕ) where
  pub side_down : (m : ℕ) → way ≡ Some m → (o' : List ℕ) → Walked ask dist (Holds nodes e m) o o' → Walked ask dist (InOrBelow nodes e way) o o'
  side_down m is o' h =
      walked_fewer ask dist (InOrBelow nodes e way) (Holds nodes e m) o o' (λ j c. let i = c.is in let f : c.node ≡ m = cc in rw f at c.holds) h

module _ (ask : Asked) (nodes : List ℕ) (e : ℕ → ℕ → ℕ) (dist : ℕ → ℕ) (metric : Metric e dist) (m s : ℕ) where
  abbrev pub Side : ℕ → Type 0
  Side j = Below nodes e m s (side_claim nodes m s) j

  -- no claim below the side is before rank `least`
  abbrev pub Least : ℕ → Type 0
  Least least = (j : ℕ) → Side j → (least ≤ most_distance) × ((ask.order ≡ Near → least ≤ dist j) × (ask.order ≡ Far → least ≡ 0))

  pub least_any : Least 0
  least_any j c = (omega arith, ((λ _. omega arith), λ _. refl))

  -- [4.14] by the halves, where the other side's claim is at rank y
  pub least_half : (x y : ℕ) → s < 2 → dist (side_claim nodes m s) ≤ most_distance → x ≡ rank_at ask.order (dist (side_claim nodes m s))
      → y ≡ rank_at ask.order (dist (side_claim nodes m (1 - s))) → y ≤ x → Least (half_at ask.order (x - y) s)
  least_half x y hs near px py closer j c =
      half_way ask.order (dist (side_claim nodes m s)) (dist (side_claim nodes m (1 - s))) (dist j) (e (side_claim nodes m s) j) (e (side_claim nodes m (1 - s)) j) s x y
      near px py closer hs (metric.there (side_claim nodes m s) j) (metric.between (side_claim nodes m (1 - s)) j) c.closer

  module _ (x least : ℕ) (near : dist (side_claim nodes m s) ≤ most_distance) (px : x ≡ rank_at ask.order (dist (side_claim nodes m s))) (leasts : Least least) (o : List ℕ) where
    side_passed : passed_at ask.first x (field_at nodes m (2 + s)) ≡ true → Walked ask dist Side o o
    side_passed test =
        walked_still ask dist Side o
        (λ l g j c y. absurd (passed_by (dist (side_claim nodes m s)) (dist j) (e (side_claim nodes m s) j) (field_at nodes m (2 + s)) near
        (metric.there (side_claim nodes m s) j) (metric.back (side_claim nodes m s) j) c.near ask x j px test y))

    side_beyond : beyond_at ask.sought x (field_at nodes m (2 + s)) least (field_at nodes m 1) o ≡ true → Walked ask dist Side o o
    side_beyond test =
        walked_still ask dist Side o
        (λ l g j c y. beyond_covered ask dist o l g j y (dist (side_claim nodes m s)) (e (side_claim nodes m s) j) (field_at nodes m (2 + s)) least (field_at nodes m 1) x near
        (metric.there (side_claim nodes m s) j) (metric.back (side_claim nodes m s) j) c.near (leasts j c).0 (leasts j c).1 c.later px test)

    -- what the walk of the way down leaves is what a walk over all below the side would leave
    pub side_went : (way : Option ℕ) (o' : List ℕ) → way ≡ way_down nodes ask m s x least o → Walked ask dist (InOrBelow nodes e way) o o' → Walked ask dist Side o o'
    unfolding way_down
    side_went way o' is w =
        go (passed_at ask.first x (field_at nodes m (2 + s))) (beyond_at ask.sought x (field_at nodes m (2 + s)) least (field_at nodes m 1) o) refl refl is
      where
        after : Walked ask dist Side o o → Walked ask dist Side o o'
        after h = walked_then ask dist Side Side (InOrBelow nodes e way) o o o' h w (λ j c. inl c)

        go : (u v : Bool) → passed_at ask.first x (field_at nodes m (2 + s)) ≡ u
            → beyond_at ask.sought x (field_at nodes m (2 + s)) least (field_at nodes m 1) o ≡ v → way ≡ cond u None (cond v None (link_at nodes m s)) → Walked ask dist Side o o'
        go true v p q f = after (side_passed p)
        go false true p q f = after (side_beyond q)
        go false false p q f =
            walked_fewer ask dist Side (InOrBelow nodes e way) o o'
            (λ j c. record { node = c.room; is = f ∙ link_some nodes m s c.room c.leads; holds = c.holds }) w
