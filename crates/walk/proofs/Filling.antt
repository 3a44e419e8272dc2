-- A question to a table as the walk asks it, and the front of the room that the walk fills. Assumes nothing.
use Prim.Native.Nat.{ℕ, ◌≤◌}
use mathlib.Core.Path.{◌≡◌, refl, ap, subst, ◌∙◌}
use mathlib.Core.Bool.{Bool, ◌&&◌}
use mathlib.Core.List.{List, []}
use native.Mathlib.Omega.{arith}
use lib.Dec.{ltb, leb}
use lib.IntN.{ℤ}
use lib.ListN.{length, take, get_or}
use lib.Seq.{take-nil}
use Rattle.paper.specs.declared.orders.Order.{Order}
use Rattle.paper.specs.declared.orders.Place.{Place}
use Rattle.paper.specs.declared.orders.Place.TheVariants.{Start, After}
use Rattle.paper.specs.Points.{measure_of, greatest_of}
use Rattle.paper.specs.declared.orders.Item.{Item}
use Rattle.paper.specs.Orders.{listed, follows, rest, snapshot_of, following, page_of, flat, fronted}
use Rattle.paper.specs.Fields.{in_slots}
use Rattle.paper.specs.Tree.{Store, side_claim, claims_in, reference_at}
use Rattle.paper.specs.Calls.{table_query}
use Rattle.tree.proofs.PointsInMemory.{claims_length}
use Rattle.walk_keep.specs.declared.asked.Asked.{Asked}
use Rattle.walk_keep.specs.Asked.{admitted, wants, AsksFor}
use Rattle.walk_keep.specs.Page.{Filled}
use Rattle.walk_keep.specs.Kept.{ok_by}
use Rattle.walk.specs.Walking.{dist_of, dist_by, Bounded, RootBounded, AskFilled}
use Rattle.walk.specs.Asking.{Answerable, Pageable, Fills}
use Rattle.walk.proofs.Bridge.{slots_away, filled_page}

-- an item comes after a place whatever its reference is
follows_alike : (order : Order) (place : Place) (k y z x : ℕ)
    → follows order place (record { number = k; reference = y; distance = x }) ≡ follows order place (record { number = k; reference = z; distance = x })
unfolding follows
follows_alike order Start k y z x = refl
follows_alike order (After n m) k y z x = refl

module _ {s : Store} {probe : List ℤ} (asks : Answerable s probe) (order : Order) (reach : ℕ) (place : Place) (size : ℕ) {o : List ℕ} (h : Pageable s.table place size o) where
  abbrev Page : List Item
  Page = page_of (table_query s.table order probe reach) (claims_in s) place size

  -- a table without claims has an empty page
  none_seen : s.table.used ≡ 0 → snapshot_of place (length (claims_in s)) ≡ 0
  none_seen z =
      let c : length (claims_in s) ≡ s.table.count = claims_length s.table.d s.table.count s.references s.coordinates in
      ap (snapshot_of place) c ∙ omega (arith, h.stored, asks.tree.empty z)

  pub fill_none : s.table.used ≡ 0 → Fills Page o o 0
  unfolding page_of following listed rest fronted flat
  fill_none z =
      let e = none_seen z in
      let t : take {A = Item} size [] ≡ [] = take-nil size in
      record { room = rw (e, t); counts = rw (e, t) }

  module _ (used : s.table.used ≡ 0 → ⊥) {ask : Asked} (is : AsksFor s.table order reach place size ask) {slots : List ℤ} (padded : slots ≡ in_slots (length probe) probe) where
    abbrev Dist : ℕ → ℕ
    Dist = dist_of s.table.measure s.table.d s.coordinates probe

    -- the question measures by the table's header, and padded or not, the probe is as far from every claim
    measured : ◌≡◌ {A = ℕ → ℕ} (dist_by ask s.coordinates slots) Dist
    measured = rw (is.measure_is, is.d_is) (λ i k. slots_away s.table.measure s.table.d s.coordinates probe slots k asks.measurable.aimed padded i)

    -- it admits what the query lists after the place
    admits : (k : ℕ) → admitted ask (Dist k) k
        ≡ (ltb k (snapshot_of place s.table.count) && (leb (Dist k) reach && follows order place (record { number = k; reference = get_or s.references k 0; distance = Dist k })))
    unfolding wants
    admits k = rw (is.snapshot_is, is.reach_is, is.order_is, is.place_is, follows_alike order place k 0 (get_or s.references k 0) (Dist k))

    asked : {n size' : ℕ} {o' : List ℕ} {r : ℕ} {order' : Order} (ok : ℕ → Bool) → order' ≡ order → n ≡ snapshot_of place s.table.count → size' ≡ size
        → Filled order' (reference_at s.references) Dist ok n size' o o' r → Filled order (reference_at s.references) Dist ok (snapshot_of place s.table.count) size o o' r
    asked ok p q e f = rw (← p, ← q, ← e) f

    pub fill_done : {o' : List ℕ} {r : ℕ} → AskFilled ask s.references (dist_by ask s.coordinates slots) o o' r → Fills Page o o' r
    fill_done {o'} {r} f =
        filled_page s.table order reach s.references s.coordinates probe place asks.tree.few h.stored _ admits size o o' r
        (asked (ok_by ask Dist) is.order_is is.snapshot_is is.size_is (subst (λ (dist : ℕ → ℕ). AskFilled ask s.references dist o o' r) measured f))

    pub root_told : Bounded ask.measure ask.d s.coordinates slots (side_claim s.nodes 0 0) → RootBounded s.table.used s.table.measure s.table.d s.coordinates s.nodes probe
    root_told b _ = rw (is.measure_is, is.d_is) at (subst (λ (dist : ℕ → ℕ). dist (side_claim s.nodes 0 0) ≤ greatest_of (measure_of ask.measure) ask.d) measured b)
