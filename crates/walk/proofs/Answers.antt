-- One law for each way through the questions. Assumes nothing.
use Prim.Native.Nat.{ℕ, ◌+◌, ◌*◌, ◌<◌, ◌≤◌}
use mathlib.Core.Path.{◌≡◌, refl, sym, ap, subst, ◌∙◌}
use mathlib.Core.Bool.{Bool, true, false}
use mathlib.Core.List.{List, [], ◌∷◌, ◌++◌}
use native.Mathlib.Omega.{arith}
use Rattle.std.specs.Prelude.{Option, None, Some}
use lib.Dec.{leb}
use lib.IntN.{ℤ}
use lib.ListN.{length, get_or, take, drop, length-take}
use lib.Seq.{take_at, take-take, paste}
use borrow.Author.Tests.{lt-ltb, le-ltb, eq-eqb, ne_eqb}
use Rattle.paper.specs.declared.orders.Mark.{Mark}
use Rattle.paper.specs.declared.orders.Order.{Order}
use Rattle.paper.specs.declared.orders.Order.TheVariants.{Near, Far}
use Rattle.paper.specs.declared.orders.Paged.{Paged}
use Rattle.paper.specs.declared.orders.Place.{Place}
use Rattle.paper.specs.declared.orders.Place.TheVariants.{Start, After}
use Rattle.paper.specs.declared.points.Measure.{Measure}
use Rattle.paper.specs.declared.tables.Table.{Table}
use Rattle.paper.specs.Points.{measure_of, greatest_of, Claim}
use Rattle.paper.specs.declared.orders.Item.{Item}
use Rattle.paper.specs.Orders.{Query, item_of, listed, snapshot_of, following, page_of, paged_of, first_of, nearest_of, farthest_of, mark_holds, flat, fronted}
use Rattle.paper.specs.Tree.{Store, claims_from, claims_in}
use Rattle.paper.specs.Calls.{table_query}
use Rattle.tree.specs.Soundness.{Good}
use Rattle.tree.proofs.TestedTables.{lent_located, good_tree}
use Rattle.tree.proofs.PointsInMemory.{claims_length}
use Rattle.walk.specs.Walking.{dist_of}
use Rattle.walk.specs.Asking.{Measurable, Answerable, Markable, Fills, PageFound, PageIs}
use Rattle.orders.proofs.Lists.{front_length}
use Rattle.orders.proofs.Rooms.{flat_length, flat_front}
use Rattle.orders.proofs.Sorted.{rest_start}
use Rattle.walk.proofs.Bridge.{item_is}

-- ---- a page, found with one item more

module _ (q : Query) (cs : List Claim) (place : Place) (size : ℕ) where
  abbrev Rest : List Item
  Rest = following q cs place

  module _ (o o' : List ℕ) (r : ℕ) (h : Fills (page_of q cs place (size + 1)) o o' r) where
    -- the page is the front of what was looked for
    front_is : (n : ℕ) → n ≡ length (take size Rest) → take (3 * n) o' ≡ flat (take size Rest)
    unfolding page_of fronted
    front_is n e =
        let few : n ≤ length (take (size + 1) Rest) = omega (arith, length-take size Rest, length-take (size + 1) Rest) in
        ap (take (3 * n)) h.room
        ∙ flat_front n (take (size + 1) Rest) _ few
        ∙ ap flat (take-take n (size + 1) Rest (omega (arith, length-take size Rest)) ∙ rw e (sym (front_length (take size Rest) size Rest refl)))

    pub page_found : (p : Paged) → ((l : List Item) → r ≡ length (take (size + 1) l) → p ≡ paged_of size l) → PageFound q cs place size o' p
    unfolding page_of
    page_found p counted =
        let e : p ≡ paged_of size Rest = counted Rest h.counts in
        record { front = front_is p.count (ap (λ (x : Paged). x.count) e); count = ap (λ (x : Paged). x.count) e; last = ap (λ (x : Paged). x.last) e }

  module _ (scratch : List ℕ) (r : Paged) (h : PageFound q cs place size scratch r) where
    pub found_few : r.count ≤ size
    unfolding page_of
    found_few = omega (arith, h.count, length-take size Rest)

    -- copied to the front of the room
    pub page_is : (o o' : List ℕ) → o' ≡ paste o 0 scratch (3 * r.count) → PageIs q cs place size o o' r
    unfolding fronted
    page_is o o' e =
        let z : 0 + 3 * r.count ≡ 3 * r.count = omega arith in
        record {
          room = e ∙ ap (λ (n : ℕ). take (3 * r.count) scratch ++ drop n o) z
              ∙ ap (λ (l : List ℕ). l ++ drop (3 * r.count) o) h.front ∙ ap (λ (n : ℕ). flat (page_of q cs place size) ++ drop (3 * n) o) h.count;
          count = h.count;
          last = h.last;
        }

-- ---- the first of the order: a front of one

module _ (s : Store) (order : Order) (probe : List ℤ) (reach : ℕ) where
  abbrev Q : Query
  Q = table_query s.table order probe reach

  abbrev L : List Item
  L = listed Q (claims_in s) s.table.count

  start_page : (size : ℕ) → page_of Q (claims_in s) Start size ≡ take size L
  unfolding page_of following
  start_page size =
      rw (claims_length s.table.d s.table.count s.references s.coordinates, rest_start order L)

  module _ (o o' : List ℕ) (r : ℕ) (h : Fills (page_of Q (claims_in s) Start 1) o o' r) where
    abbrev first_in : Item
    first_in = record { number = get_or o' 0 0; reference = get_or o' 1 0; distance = get_or o' 2 0 }

    pub first_none : r ≡ 0 → None ≡ first_of L
    unfolding first_of
    first_none z = go L (sym z ∙ h.counts ∙ ap length (start_page 1))
      where
        go : (l : List Item) → 0 ≡ length (take 1 l) → None ≡ first_of l
        go [] e = refl
        go (a ∷ l) e = absurd (omega arith)

    pub first_some : (r ≡ 0 → ⊥) → Some first_in ≡ first_of L
    unfolding first_of fronted flat
    first_some some = go L (h.counts ∙ ap length (start_page 1)) (h.room ∙ ap (λ (l : List Item). fronted l o) (start_page 1))
      where
        go : (l : List Item) → r ≡ length (take 1 l) → o' ≡ fronted (take 1 l) o → Some first_in ≡ first_of l
        go [] e f = absurd (some e)
        go (a ∷ l) e f = rw f

module _ (s : Store) (probe : List ℤ) (r : Option Item) where
  pub nearest_is : (reach : ℕ) → r ≡ first_of (L s Near probe reach) → r ≡ nearest_of (table_query s.table Near probe reach) (claims_in s)
  unfolding nearest_of
  nearest_is reach h = rw (claims_length s.table.d s.table.count s.references s.coordinates) h

  pub farthest_is : (m : Measure) (greatest : ℕ) → m ≡ measure_of s.table.measure → greatest ≡ greatest_of m s.table.d
      → r ≡ first_of (L s Far probe greatest) → r ≡ farthest_of (table_query s.table Near probe 0) (claims_in s)
  unfolding farthest_of
  farthest_is m greatest pm pg h = rw (claims_length s.table.d s.table.count s.references s.coordinates, ← pm, ← pg) h

-- ---- whether the mark holds

module _ (t : Table) (coordinates probe : List ℤ) (reach : ℕ) (place : Place) where
  abbrev Holds : Bool → Type 0
  Holds b = (order : Order) (references : List ℕ) → b ≡ mark_holds (table_query t order probe reach) (claims_from t.d t.count references coordinates) place

  pub mark_start : place ≡ Start → Holds true
  unfolding mark_holds
  mark_start p order references = rw p

  module _ (n : ℕ) (m : Mark) (is : place ≡ After n m) (h : Markable t coordinates probe place) where
    stored : n ≤ t.count
    stored = subst (λ (p : Place). snapshot_of p t.count ≤ t.count) is h.stored

    pub mark_late : n ≤ m.number → Holds false
    unfolding mark_holds
    mark_late l order references = rw (is, le-ltb m.number n l)

    module _ (x : ℕ) (measured : x ≡ dist_of t.measure t.d coordinates probe m.number) (l : m.number < n) where
      far_is : (order : Order) (references : List ℕ) → (item_of (table_query t order probe reach) (claims_from t.d t.count references coordinates) m.number).distance ≡ x
      far_is order references = ap (λ (a : Item). a.distance) (item_is t order reach references coordinates probe m.number (omega (arith, stored))) ∙ sym measured

      pub mark_off : (x ≡ m.distance → ⊥) → Holds false
      unfolding mark_holds
      mark_off ne order references = rw (is, lt-ltb m.number n l, far_is order references, ne_eqb m.distance x (λ e. ne (sym e)))

      pub mark_within : x ≡ m.distance → Holds (leb m.distance reach)
      unfolding mark_holds
      mark_within e order references = rw (is, lt-ltb m.number n l, far_is order references, eq-eqb m.distance x (sym e))

-- ---- handed on

-- what the front of the room shows after a page: the page's items
pub page_front : (q : Query) (cs : List Claim) (place : Place) (size : ℕ) (o o' : List ℕ) (r : Paged) → PageIs q cs place size o o' r
    → take (3 * r.count) o' ≡ flat (page_of q cs place size)
unfolding fronted
page_front q cs place size o o' r h =
    let l : List Item = page_of q cs place size in
    let e : length (flat (page_of q cs place size)) ≡ 3 * r.count = flat_length (page_of q cs place size) ∙ ap (λ (n : ℕ). 3 * n) (sym h.count) in
    ap (take (3 * r.count)) h.room ∙ take_at (flat (page_of q cs place size)) (drop (3 * length (page_of q cs place size)) o) (3 * r.count) e

-- a sound table can be asked
module _ (s : Store) (g : Good s) (probe : List ℤ) (h : length probe ≡ s.table.d) where
  pub good_measurable : Measurable s.table s.coordinates probe
  good_measurable =
      record { located = lent_located s.table s.coordinates (length s.nodes) s.table.count g.fit.lent g.count; aimed = h }

  pub good_answerable : Answerable s probe
  good_answerable = record { tree = good_tree s g; ranged = g.fit.range; measurable = good_measurable; named = omega (arith, g.count, g.fit.references) }
