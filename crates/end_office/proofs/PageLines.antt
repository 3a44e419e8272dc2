-- A page of a sound table fits an answer's line, and what is written of it is the line that the rules say. Assumes nothing.
use Prim.Native.Nat.{ℕ, zero, suc, ◌+◌, ◌*◌, ◌≤◌, ◌<◌}
use mathlib.Core.Path.{◌≡◌, refl, sym, ap, subst}
use mathlib.Core.Bool.{Bool, true, false, cond, ◌&&◌}
use mathlib.Core.List.{List, [], ◌∷◌}
use native.Mathlib.Omega.{arith}
use lib.Dec.{leb, eqb}
use lib.ListN.{length, get_or, take, length-take}
use borrow.Author.Tests.{eq-eqb, le-leb, lt-ltb, leb-true, eqb-true}
use Rattle.paper.specs.declared.lines.Scope.{Scope}
use Rattle.paper.specs.declared.orders.Order.{Order}
use Rattle.paper.specs.declared.orders.Paged.{Paged}
use Rattle.paper.specs.declared.orders.Place.{Place}
use Rattle.paper.specs.declared.queries.Query as queries
use Rattle.paper.specs.Points.{Claim}
use Rattle.paper.specs.declared.orders.Item.{Item}
use Rattle.paper.specs.Orders.{Query, query_in, snapshot_of, earlier, insert, item_of, listed, follows, rest, following, page_of, flat}
use Rattle.paper.specs.Tree.{Store, claims_in}
use Rattle.paper.specs.Outcomes.{Outcome, gives}
use Rattle.paper.specs.Frames.{line_of}
use Rattle.lines.proofs.WritersReaders.{bare_fits}
use Rattle.paper.specs.Fields.{flag_of, scope_ok, numbers_ok, references_ok}
use Rattle.paper.specs.Lines.{Writes, bare_line, query_fits, answer_frame, answer_ranges, answer_fits}
use Rattle.paper.specs.Ends.{answer_of, table_of, matches}
use Rattle.paper.specs.Codec.{place_in, scope_of, answer_line}
use Rattle.paper.proofs.Tests.{and_first, and_second, and_both}
use Rattle.paper.proofs.Ranges.{is_range}
use Rattle.checks.proofs.Naming.{place_start, place_after_lem}
use Rattle.tree.proofs.TestedTables.{good_few}
use Rattle.paper.specs.Calls.{table_query}
use Rattle.walk.specs.Asking.{Pageable, Markable, PageFound}
use Rattle.tree.proofs.PointsInMemory.{claims_length}
use Rattle.orders.proofs.Rooms.{flat_length}
use Rattle.walk.proofs.Bridge.{claims_at}
use Rattle.walk.proofs.Answers.{good_measurable}
use Rattle.end_office.specs.Desk.{AskOurs, Paging, ask_in, page_line}
use Rattle.paper.specs.Limits.{scratch_items, longest_answer, most_claims, most_number, most_page}

-- ---- items that an answer has room for

pub record SmallItem (a : Item) : Type 0 where
  pub number : a.number ≤ most_number
  pub reference : a.reference < 4294967296

abbrev pub AllSmall : List Item → Type 0
AllSmall [] = Unit {0}
AllSmall (a ∷ l) = SmallItem a × AllSmall l

insert_small : (o : Order) (a : Item) (l : List Item) → SmallItem a → AllSmall l → AllSmall (insert o a l)
unfolding insert
insert_small o a [] s all = (s, tt)
insert_small o a (b ∷ l) s all = go (earlier o a b) (insert_small o a l s all.1)
  where
    go : (e : Bool) → AllSmall (insert o a l) → AllSmall (cond e (a ∷ b ∷ l) (b ∷ insert o a l))
    go true deep = (s, all)
    go false deep = (all.0, deep)

listed_small : (q : Query) (cs : List Claim) (n : ℕ) → ((k : ℕ) → k < n → SmallItem (item_of q cs k)) → AllSmall (listed q cs n)
unfolding listed
listed_small q cs zero h = tt
listed_small q cs (suc n) h = go (leb (item_of q cs n).distance q.reach) (listed_small q cs n (λ k l. h k (omega arith)))
  where
    go : (e : Bool) → AllSmall (listed q cs n) → AllSmall (cond e (insert q.order (item_of q cs n) (listed q cs n)) (listed q cs n))
    go true deep = insert_small q.order (item_of q cs n) (listed q cs n) (h n (omega arith)) deep
    go false deep = deep

rest_small : (o : Order) (p : Place) (l : List Item) → AllSmall l → AllSmall (rest o p l)
unfolding rest
rest_small o p [] all = tt
rest_small o p (a ∷ l) all = go (follows o p a) (rest_small o p l all.1)
  where
    go : (e : Bool) → AllSmall (rest o p l) → AllSmall (cond e (a ∷ rest o p l) (rest o p l))
    go true deep = (all.0, deep)
    go false deep = deep

take_small : (n : ℕ) (l : List Item) → AllSmall l → AllSmall (take n l)
take_small zero l all = tt
take_small (suc n) [] all = tt
take_small (suc n) (a ∷ l) all = (all.0, take_small n l all.1)

flat_references : (l : List Item) → AllSmall l → references_ok (flat l) ≡ true
unfolding flat references_ok
flat_references [] all = refl
flat_references (a ∷ l) all = rw (lt-ltb a.reference 4294967296 all.0.reference) (flat_references l all.1)

flat_numbers : (l : List Item) → AllSmall l → numbers_ok (flat l) ≡ true
unfolding flat numbers_ok
flat_numbers [] all = refl
flat_numbers (a ∷ l) all = rw (le-leb a.number most_number all.0.number) (flat_numbers l all.1)

-- ---- a scope, read and repeated

pub scope_from_lem : (p : Scope) → scope_ok p ≡ true → p.from ≤ 1
unfolding scope_ok
scope_from_lem p e = leb-true p.from 1 (and_first (leb p.from 1) _ e)

pub scope_start : (p : Scope) (n : ℕ) → p.from ≡ 0
    → record { from = 0; snapshot = n; distance = 0; number = 0 } ≡ scope_of (place_in p) (snapshot_of (place_in p) n)
unfolding scope_of
scope_start p n e = rw (place_start p e)

pub scope_after : (p : Scope) (n : ℕ) → p.from ≤ 1 → (p.from ≡ 0 → ⊥) → p ≡ scope_of (place_in p) (snapshot_of (place_in p) n)
unfolding scope_of
scope_after p n h e =
    let q : p.from ≡ 1 = omega arith in
    rw (place_after_lem p e)
    (ap (λ (k : ℕ). record { from = k; snapshot = p.snapshot; distance = p.distance; number = p.number }) q)

scope_repeats : (p : Scope) (n : ℕ) → scope_ok p ≡ true → n ≤ most_claims → scope_ok (scope_of (place_in p) (snapshot_of (place_in p) n)) ≡ true
unfolding scope_ok
scope_repeats p n e h = go p.from refl
  where
    go : (k : ℕ) → p.from ≡ k → scope_ok (scope_of (place_in p) (snapshot_of (place_in p) n)) ≡ true
    go zero q = rw (← scope_start p n q, le-leb n most_claims h)
    go (suc k) q = rw (← scope_after p n (scope_from_lem p e) (λ z. omega arith)) e

-- ---- a query of this table, as the walk and a line have it

module _ (s : Store) (q : queries.Query) (p : Scope) (size out : ℕ) (h : AskOurs s q p size out) where
  same_header : (q.table ≡ s.table.number) × ((q.measure ≡ s.table.measure) × (q.d ≡ s.table.d))
  unfolding matches
  same_header =
      let t = eqb q.table s.table.number in
      let m = eqb q.measure s.table.measure in
      let d = eqb q.d s.table.d in
      let rest = and_second t (m && d) h.ours in
      (eqb-true _ _ (and_first t (m && d) h.ours), (eqb-true _ _ (and_first m d rest), eqb-true _ _ (and_second m d rest)))

  pub own_query : query_in q ≡ table_query s.table q.order (take q.d q.probe) q.reach
  own_query =
      λ i. record {
        order = q.order;
        table = same_header.0 i;
        measure = same_header.1.0 i;
        d = same_header.1.1 i;
        probe = take q.d q.probe;
        reach = q.reach;
      }

  module _ (eight : 7 < length q.probe) where
    pub aimed : length (take q.d q.probe) ≡ s.table.d
    aimed = simp length-take (omega (arith, h.ask.narrow, same_header.1.1))

    pub markable : (place : Place) → place ≡ place_in p → snapshot_of (place_in p) s.table.count ≤ s.table.count
        → Markable s.table s.coordinates (take q.d q.probe) place
    markable place e k = record { measurable = good_measurable s h.is_open.good (take q.d q.probe) aimed; stored = rw e k }

    query_fits_lem : query_fits (query_in q) ≡ true
    unfolding query_fits
    query_fits_lem =
        subst (λ (x : Query). query_fits x ≡ true) (sym own_query)
        (and_both _ _ (is_range s.table.measure s.table.d h.is_open.good.fit.range) (eq-eqb _ _ aimed))

-- ---- the page, written

line_written : (fits : Bool) (f before : List ℕ) (w : Outcome ℕ) (after : List ℕ) → fits ≡ true → longest_answer ≤ length before
    → Writes (bare_line fits longest_answer f (length before)) before w after → Writes (gives (line_of f)) before w after
line_written fits f before w after e h x = rw (bare_fits fits longest_answer f (length before) e h) at x

flag_small : (b : Bool) → flag_of b ≤ 1
flag_small true = omega arith
flag_small false = omega arith

module _ (s : Store) (q : queries.Query) (p : Scope) (size out : ℕ) (h : Paging s q p size out) where
  abbrev Page : List Item
  Page = page_of (query_in q) (claims_in s) (place_in p) size

  abbrev Scoped : Scope
  Scoped = scope_of (place_in p) (snapshot_of (place_in p) s.table.count)

  pub pageable : (place : Place) (room : List ℕ) → place ≡ place_in p → scratch_items ≤ length room → Pageable s.table place (size + 1) room
  pageable place room e l = record { stored = rw e h.stored; some = omega arith; few = omega (arith, h.asking.ask.most); long = omega (arith, h.asking.ask.most) }

  page_few : length Page ≤ size
  unfolding page_of
  page_few = simp length-take (omega arith)

  item_small : ((i : ℕ) → get_or s.references i 0 < 4294967296) → (k : ℕ) → k < snapshot_of (place_in p) s.table.count
      → SmallItem (item_of (query_in q) (claims_in s) k)
  unfolding item_of
  item_small known k l =
      let few = good_few s h.asking.is_open.good in
      let c = claims_at s.table.d s.table.count s.references s.coordinates k (omega (arith, h.stored)) in
      record { number = omega (arith, few, h.stored); reference = rw c (known k) }

  page_small : ((i : ℕ) → get_or s.references i 0 < 4294967296) → AllSmall Page
  unfolding page_of following
  page_small known =
      let n : length (claims_in s) ≡ s.table.count = claims_length s.table.d s.table.count s.references s.coordinates in
      take_small size _ (rest_small _ (place_in p) _ (listed_small _ (claims_in s) _ (λ k l. item_small known k (rw n at l))))

  -- what was written is the line of the page
  module _ (place : Place) (room : List ℕ) (r : Paged) (at : place ≡ place_in p)
      (is : PageFound (table_query s.table q.order (take q.d q.probe) q.reach) (claims_in s) place size room r) where
    is_page : PageFound (query_in q) (claims_in s) (place_in p) size room r
    is_page = subst (λ (x : Query). PageFound x (claims_in s) (place_in p) size room r) (sym (own_query s q p size out h.asking)) (rw at at is)

    pub page_count : r.count ≤ most_page
    page_count = omega (arith, is_page.count, page_few, h.asking.ask.most)

    module _ (scope : Scope) (is-scope : scope ≡ Scoped) (last : ℕ) (flag : last ≡ flag_of r.last) (n : ℕ) (three : n ≡ 3 * r.count)
        (known : (i : ℕ) → get_or s.references i 0 < 4294967296) (eight : 7 < length q.probe) where
      page_items : take n room ≡ flat Page
      page_items = rw three is_page.front

      fits : answer_fits (query_in q) Scoped (flag_of r.last) (length Page) (flat Page) ≡ true
      unfolding answer_fits answer_ranges
      fits =
          let a = h.asking in
          let all = page_small known in
          and_both _ _ (query_fits_lem s q p size out a eight)
          (and_both _ _ (and_both _ _ (scope_repeats p s.table.count a.ask.scope (good_few s a.is_open.good))
          (and_both _ _ (le-leb (flag_of r.last) 1 (flag_small r.last)) (le-leb (length Page) most_page (omega (arith, page_few, a.ask.most)))))
          (and_both _ _ (eq-eqb _ _ (flat_length Page)) (and_both _ _ (flat_references Page all) (flat_numbers Page all))))

      line_is : line_of (answer_frame (query_in q) Scoped (flag_of r.last) (length Page) (flat Page)) ≡ answer_line (answer_of (table_of s) (ask_in q p size))
      unfolding answer_line answer_of
      line_is = rw (claims_length s.table.d s.table.count s.references s.coordinates, is_page.last)

      pub page_written : (before : List ℕ) (w : Outcome ℕ) (after : List ℕ) → longest_answer ≤ length before
          → Writes (bare_line (answer_fits (query_in q) scope last r.count (take n room)) longest_answer
          (answer_frame (query_in q) scope last r.count (take n room)) (length before)) before w after
          → Writes (page_line (table_of s) (ask_in q p size)) before w after
      page_written before w after long x =
          let y = rw (is-scope, flag, page_items, is_page.count) at x in
          rw line_is at (line_written _ _ before w after fits long y)
