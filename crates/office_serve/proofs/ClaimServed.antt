-- The books of the office, and a claim line served: refused, or entered into the table. Assumes nothing.
use Prim.Native.Nat.{ℕ, ◌+◌, ◌*◌, ◌≤◌, ◌<◌}
use mathlib.Core.Path.{◌≡◌, refl, sym, ap, ◌∙◌}
use mathlib.Core.Bool.{Bool, true, false, cond, ◌&&◌, not}
use mathlib.Core.List.{List, [], ◌∷◌, ◌++◌}
use native.Mathlib.Omega.{arith}
use lib.Dec.{leb, eqb}
use lib.IntN.{ℤ}
use lib.ListN.{length, take}
use lib.Seq.{take-take, length-paste}
use borrow.Author.Tests.{eq-eqb, ne_eqb, le-leb, lt-leb, eqb-true}
use Rattle.paper.specs.declared.lines.ClaimLine.{ClaimLine}
use Rattle.paper.specs.declared.tables.Table.{Table}
use Rattle.paper.specs.Points.{InRange, point}
use Rattle.paper.specs.Tree.{Store, store, built, claims_from, claims_in}
use Rattle.paper.specs.Runs.{added}
use Rattle.paper.specs.Outcomes.{refused, gives, must}
use Rattle.paper.specs.References.{in_force, is_among, anew}
use Rattle.paper.specs.Ends.{table_of}
use Rattle.paper.specs.Ends as Ends
use Rattle.paper.specs.Program.{closed, opened, table_for, ours, claim_in, with_claim, claim_entering, refusal, claim_turn}
use Rattle.paper.proofs.Tests.{and_second}
use Rattle.paper.proofs.Outcomes.{must_go, must_stop}
use Rattle.tree.specs.BuiltNodes.{IsBuilt}
use Rattle.tree.specs.Soundness.{Roomy}
use Rattle.tree.proofs.ClaimsInMemory.{references_are, point_length}
use Rattle.tree.proofs.Adding.{good_end, added_good, added_claims, added_kept}
use Rattle.tree.proofs.PointsInMemory.{claims_length}
use Rattle.tree_repeats.proofs.Among.{anew_one}
use Rattle.office_serve.specs.Serving.{Put, books_of, header_for, Ready, Served}
use Rattle.office_serve.proofs.Written.{wrote_none}
use Rattle.paper.specs.Limits.{office_claims}

-- ---- the books

pub books_none : (s : Store) → s.table.count ≡ 0 → books_of s ≡ closed
unfolding books_of
books_none s e = rw (eq-eqb s.table.count 0 e)

pub books_some : (s : Store) → (s.table.count ≡ 0 → ⊥) → books_of s ≡ opened (table_of s)
unfolding books_of
books_some s e = rw (ne_eqb s.table.count 0 e)

-- ---- the table that a claim goes to

abbrev pub with_header : Store → Table → Store
with_header s h = store h s.references s.coordinates s.nodes

header_table : (s : Store) (c : ClaimLine) → s.table.capacity ≡ office_claims → table_for (books_of s) c ≡ table_of (with_header s (header_for s.table c))
unfolding table_for books_of header_for claims_from
header_table s c cap = go (eqb s.table.count 0)
  where
    go : (b : Bool)
        → table_for (cond b closed (opened (table_of s))) c
        ≡ table_of (with_header s (cond b (record { number = c.table; measure = c.measure; d = c.d; capacity = s.table.capacity; count = 0; used = 0 }) s.table))
    go true = rw cap
    go false = refl

header_ready : (s : Store) (c : ClaimLine) → Ready s → InRange c.measure c.d → Ready (with_header s (header_for s.table c))
unfolding header_for IsBuilt built
header_ready s c r i = go (eqb s.table.count 0)
  where
    fresh : Table
    fresh = record { number = c.table; measure = c.measure; d = c.d; capacity = s.table.capacity; count = 0; used = 0 }

    wide : s.table.capacity * c.d ≤ length s.coordinates
    wide = let p = r.wide in rw r.capacity (omega (arith, i.narrow))

    go : (b : Bool) → Ready (with_header s (cond b fresh s.table))
    go true =
        let f = r.good.fit in
        record {
          good = record {
            fit = record {
              range = i;
              some = f.some;
              references = f.references;
              lent = record { narrow = i.narrow; most = f.lent.most; coordinates = wide; nodes = f.lent.nodes };
            };
            count = omega arith;
            built = refl;
          };
          capacity = r.capacity;
          wide = r.wide;
        }
    go false = r

-- ---- a claim

module _ (s : Store) (c : ClaimLine) (r : Ready s) (i : InRange c.measure c.d) (h : Table) (is : h ≡ header_for s.table c)
    (b : Bool) (test : b ≡ (eqb c.table h.number && (eqb c.measure h.measure && eqb c.d h.d))) (out : List ℕ) (at : ℕ) where
  pub head_ready : Ready (with_header s h)
  head_ready = rw is (header_ready s c r i)

  table_is : table_for (books_of s) c ≡ table_of (with_header s h)
  table_is = rw is (header_table s c r.capacity)

  ours_is : ours (table_for (books_of s) c) c ≡ b
  unfolding ours
  ours_is = rw table_is (sym test)

  count_is : length (claims_in (with_header s h)) ≡ h.count
  count_is = claims_length h.d h.count s.references s.coordinates

  claim_refused : (n : ℕ) (l : List ℕ) (e : ℕ) → claim_entering (table_for (books_of s) c) c ≡ refused n → Put (refusal n) out at l e
      → Served (claim_turn (books_of s) (claim_entering (table_for (books_of s) c) c)) s out at l e
  unfolding claim_turn
  claim_refused n l e q p = rw q (record { books = refl; ready = r; printed = p })

  pub claim_11 : b ≡ false → (l : List ℕ) (e : ℕ) → Put (refusal 11) out at l e
      → Served (claim_turn (books_of s) (claim_entering (table_for (books_of s) c) c)) s out at l e
  unfolding claim_entering
  claim_11 t l e p = claim_refused 11 l e (rw (ours_is, t)) p

  -- the claim's reference is looked for among those in force
  pub stored : h.count ≤ length s.references
  stored = omega (arith, head_ready.good.count, head_ready.good.fit.references)

  module _ (t : b ≡ true) (k : Bool) (search : k ≡ is_among (take h.count s.references) c.reference) where
    for_us : ours (table_for (books_of s) c) c ≡ true
    for_us = ours_is ∙ t

    new_is : anew (in_force (table_for (books_of s) c).claims) (c.reference ∷ []) ≡ not k
    new_is =
        ap (λ (u : Ends.Table). anew (in_force u.claims) (c.reference ∷ [])) table_is
        ∙ anew_one (in_force (claims_in (with_header s h))) c.reference
        ∙ ap (λ (l : List ℕ). not (is_among l c.reference)) (references_are h.d h.count s.references s.coordinates stored)
        ∙ ap not (sym search)

    pub claim_17 : k ≡ true → (l : List ℕ) (e : ℕ) → Put (refusal 17) out at l e
        → Served (claim_turn (books_of s) (claim_entering (table_for (books_of s) c) c)) s out at l e
    unfolding claim_entering
    claim_17 known l e p = claim_refused 17 l e (must_go _ 11 _ for_us ∙ must_stop _ 17 _ (new_is ∙ ap not known)) p

    module _ (unknown : k ≡ false) where
      past_17 : claim_entering (table_for (books_of s) c) c
          ≡ must (leb (h.count + 1) h.capacity) 3 (gives (with_claim (table_of (with_header s h)) (claim_in c)))
      unfolding claim_entering
      past_17 =
          must_go _ 11 _ for_us
          ∙ must_go _ 17 _ (new_is ∙ ap not unknown)
          ∙ ap (λ (u : Ends.Table). must (leb (length u.claims + 1) u.capacity) 3 (gives (with_claim u (claim_in c)))) table_is
          ∙ ap (λ (n : ℕ). must (leb (n + 1) h.capacity) 3 (gives (with_claim (table_of (with_header s h)) (claim_in c)))) count_is

      pub claim_3 : h.capacity ≤ h.count → (l : List ℕ) (e : ℕ) → Put (refusal 3) out at l e
          → Served (claim_turn (books_of s) (claim_entering (table_for (books_of s) c) c)) s out at l e
      claim_3 full l e p = claim_refused 3 l e (past_17 ∙ must_stop _ 3 _ (lt-leb (h.count + 1) h.capacity (omega arith))) p

      module _ (more : h.count < h.capacity) (eight : 7 < length c.coordinates) where
        pub add_ready : Roomy (with_header s h) 1 × (0 * h.d + h.d ≤ length c.coordinates)
        add_ready =
            (record { good = head_ready.good; free = omega arith }, omega (arith, head_ready.good.fit.range.narrow))

        same_d : h.d ≡ c.d
        same_d = sym (eqb-true c.d h.d (and_second (eqb c.measure h.measure) (eqb c.d h.d)
            (and_second (eqb c.table h.number) (eqb c.measure h.measure && eqb c.d h.d) (sym test ∙ t))))

        abbrev Point : List ℤ
        Point = point h.d c.coordinates 0

        whole : h.d ≤ length Point
        whole = let q = point_length h.d c.coordinates 0 add_ready.1 in omega (arith, q)

        place_is : take h.d Point ≡ take c.d c.coordinates
        unfolding point
        place_is =
            let z : 0 * h.d ≡ 0 = omega arith in
            rw z (take-take h.d h.d c.coordinates (omega arith) ∙ ap (λ (n : ℕ). take n c.coordinates) same_d)

        entered_is : table_of (added (with_header s h) c.reference Point) ≡ with_claim (table_of (with_header s h)) (claim_in c)
        unfolding with_claim claim_in
        entered_is =
            let x = added_claims (with_header s h) head_ready.good more c.reference Point whole in
            let k = added_kept (with_header s h) c.reference Point in
            let y = x ∙ ap (λ (l : List ℤ). claims_in (with_header s h) ++ (record { reference = c.reference; point = l } ∷ [])) place_is in
            λ j. record { number = k.number j; measure = k.measure j; d = k.d j; capacity = k.capacity j; claims = y j }

        entering_gives : claim_entering (table_for (books_of s) c) c ≡ gives (with_claim (table_of (with_header s h)) (claim_in c))
        entering_gives = past_17 ∙ must_go _ 3 _ (le-leb (h.count + 1) h.capacity (omega arith))

        added_ready : Ready (added (with_header s h) c.reference Point)
        unfolding added
        added_ready =
            record {
              good = added_good (with_header s h) head_ready.good more c.reference Point whole;
              capacity = head_ready.capacity;
              wide = rw (length-paste s.coordinates (h.count * h.d) Point h.d (good_end (with_header s h) head_ready.good more) whole) r.wide;
            }

        pub claim_in_lem : (x : Store) → x ≡ added (with_header s h) c.reference Point → at ≤ length out
            → Served (claim_turn (books_of s) (claim_entering (table_for (books_of s) c) c)) x out at out at
        unfolding claim_turn
        claim_in_lem x e inside =
            let k : (added (with_header s h) c.reference Point).table.count ≡ h.count + 1 = (added_kept (with_header s h) c.reference Point).count in
            rw (entering_gives, e)
            (record {
              books = books_some (added (with_header s h) c.reference Point) (λ z. omega (arith, k)) ∙ ap opened entered_is;
              ready = added_ready;
              printed = record { out = sym (wrote_none out at); end = omega arith; short = inside };
            })
