-- Farthest finds something where there is a claim, whose coordinates are of 32 bits: none is beyond the measure's greatest distance.
-- With `farthest_none`: [4.2] it is nothing just where there is no claim. Assumes nothing.
use Prim.Native.Nat.{ℕ, zero, suc, ◌<◌, ◌≤◌}
use mathlib.Core.Path.{◌≡◌, refl, sym, ap, subst, ◌∙◌}
use mathlib.Core.List.{List}
use native.Mathlib.Omega.{arith}
use Rattle.std.specs.Prelude.{Option, None, Some}
use lib.Dec.{lit<}
use lib.IntN.{ℤ}
use lib.ListN.{length, get_or}
use Rattle.paper.specs.declared.orders.Order.TheVariants.{Near, Far}
use Rattle.paper.specs.Points.{measure_of, greatest_of, Claim, zero_claim}
use Rattle.paper.specs.declared.orders.Item.{Item}
use Rattle.paper.specs.Orders.{Query, item_of, listed, far_query, farthest_of}
use Rattle.paper.specs.Tree.{Store, side_claim, claims_in}
use Rattle.paper.specs.Outcomes.{gives}
use Rattle.paper.specs.Calls.{table_query, NothingJust}
use Rattle.measure.proofs.Metric.{In32, distance_most}
use Rattle.orders.proofs.Meaning.{listed_has}
use Rattle.orders.proofs.Pages.{first_some, farthest_none}
use Rattle.tree.specs.BuiltNodes.{Linked}
use Rattle.tree.proofs.PointsInMemory.{claims_length}
use Rattle.walk.specs.Walking.{dist_of, RootBounded}
use Rattle.walk.specs.Asking.{Answerable}
use Rattle.walk.proofs.Bridge.{item_is}

pub farthest_some : (q : Query) (cs : List Claim) → In32 q.probe → In32 (get_or cs 0 zero_claim).point → 0 < length cs → farthest_of q cs ≡ None → ⊥
unfolding farthest_of item_of
farthest_some q cs hp hc h e =
    first_some (listed (far_query q) cs (length cs)) (item_of (far_query q) cs 0)
    (listed_has (far_query q) cs (length cs) 0 h (distance_most (measure_of q.measure) q.d (get_or cs 0 zero_claim).point q.probe hc hp)) e

-- ---- at the call: that coordinates are of 32 bits shows where they are measured, and the walk measures the root's left claim

-- [4.2] what the walk found: Nothing just where the table has no claim
module _ (s : Store) (probe : List ℤ) (asks : Answerable s probe)
    (root : RootBounded s.table.used s.table.measure s.table.d s.coordinates s.nodes probe) where
  abbrev asked : Query
  asked = table_query s.table Near probe 0

  count_is : length (claims_in s) ≡ s.table.count
  count_is = claims_length s.table.d s.table.count s.references s.coordinates

  -- the root's left claim is listed
  root_found : 0 < s.table.count → farthest_of asked (claims_in s) ≡ None → ⊥
  unfolding farthest_of Linked
  root_found some e =
      let j : ℕ = side_claim s.nodes 0 0 in
      let used : s.table.used ≡ 0 → ⊥ = λ z. omega (arith, asks.tree.empty z) in
      let node = asks.tree.linked 0 (omega (arith, used)) in
      let stored : j < s.table.count = omega (arith, node.left, node.stored 0 (lit< tt)) in
      let greatest : ℕ = greatest_of (measure_of s.table.measure) s.table.d in
      let is : (item_of (far_query asked) (claims_in s) j).distance ≡ dist_of s.table.measure s.table.d s.coordinates probe j =
      ap (λ (a : Item). a.distance) (item_is s.table Far greatest s.references s.coordinates probe j stored) in
      first_some (listed (far_query asked) (claims_in s) (length (claims_in s))) (item_of (far_query asked) (claims_in s) j)
      (listed_has (far_query asked) (claims_in s) (length (claims_in s)) j (omega (arith, count_is)) (subst (λ (x : ℕ). x ≤ greatest) (sym is) (root used))) e

  pub farthest_just : (f : Option Item) → f ≡ farthest_of asked (claims_in s) → NothingJust s.table.count (gives f)
  farthest_just None e = go s.table.count refl
    where
      go : (n : ℕ) → s.table.count ≡ n → s.table.count ≡ 0
      go zero q = q
      go (suc n) q = absurd (root_found (omega arith) (sym e))
  farthest_just (Some a) e = go s.table.count refl
    where
      go : (n : ℕ) → s.table.count ≡ n → 0 < s.table.count
      go zero q = absurd (let none = e ∙ farthest_none asked (claims_in s) (count_is ∙ q) in let z : ◌≡◌ {A = ℕ} 0 1 = cc in omega arith)
      go (suc n) q = omega arith
