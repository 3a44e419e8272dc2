-- Adding claims to a good table: it stays good, its claims are the old ones with the new ones behind, and nothing else of the lent memory changes. Assumes nothing.
use Prim.Native.Nat.{ℕ, zero, suc, ◌+◌, ◌*◌, ◌<◌, ◌≤◌}
use mathlib.Core.Path.{◌≡◌, refl, sym, ap, ◌∙◌}
use mathlib.Core.List.{List, [], ◌∷◌, ◌++◌, append_assoc, append-nil}
use native.Mathlib.Omega.{arith}
use native.Mathlib.Numerals.{add-one}
use native.Mathlib.Nat.{mul_comm, suc-mul}
use lib.IntN.{ℤ}
use lib.ListN.{length, get_or, set, take, length-set}
use lib.Seq.{take_all, get_or-set_same, get_or-set_other, paste, length-paste}
use Rattle.paper.specs.declared.tables.Table.{Table}
use Rattle.paper.specs.Points.{Claim, point}
use Rattle.paper.specs.Tree.{grown, built, Store, store, apart, apart_in, reference_at, with_reference, claims_from, claims_in}
use Rattle.paper.specs.Runs.{counted, next_grown, added, added_run}
use Rattle.tree.specs.BuiltNodes.{Enterable, IsBuilt}
use Rattle.tree.specs.Soundness.{Good, Roomy}
use Rattle.tree.proofs.Building.{stays_built, enter_long}
use Rattle.tree.proofs.SameDistances.{build_ext}
use Rattle.tree.proofs.PointsInMemory.{before_next}
use Rattle.tree.proofs.TestedTables.{good_few, good_tree, good_used}
use Rattle.tree.proofs.ClaimsInMemory.{apart_ext, put_before, point_before, point_new, claims_more, claim_eq, claims_ext, point_length}

-- ---- one claim more

module _ (s : Store) (g : Good s) (more : s.table.count < s.table.capacity) where
  -- the next claim's place is inside
  pub good_end : s.table.count * s.table.d + s.table.d ≤ length s.coordinates
  good_end = omega (arith, before_next s.table.d s.table.count s.table.capacity more, g.fit.lent.coordinates)

  -- the next claim can be entered
  pub good_ready : (l : List ℤ) → length l ≡ length s.coordinates → Enterable s.nodes s.table.used s.table.d l s.table.count
  good_ready l e =
      record {
        linked = (good_tree s g).linked;
        room = omega (arith, good_used s g, g.fit.lent.nodes);
        few = omega (arith, good_few s g);
        located = record {
          narrow = g.fit.lent.narrow;
          inside = omega (arith, good_end, suc-mul s.table.count s.table.d, ap (λ (n : ℕ). n * s.table.d) (add-one s.table.count));
        };
      }

  module _ (r : ℕ) (p : List ℤ) (whole : s.table.d ≤ length p) where
    -- entering a claim keeps a table good
    pub added_good : Good (added s r p)
    unfolding added IsBuilt
    added_good =
        let n : ℕ = s.table.count in
        let d : ℕ = s.table.d in
        let l : List ℤ = paste s.coordinates (n * d) p d in
        let e : ℕ → ℕ → ℕ = apart s.table.measure d l in
        let same : (j k : ℕ) → j < k → k < n → apart_in s j k ≡ e j k =
        λ j k hj hk. apart_ext s.table.measure d n s.coordinates l (λ i hi. sym (put_before s.coordinates (n * d) p d (omega (arith, good_end)) i hi)) j k (omega arith) hk in
        let room : n * 6 ≤ length s.nodes = omega (arith, g.fit.lent.nodes) in
        let is : built e n s.nodes ≡ grown s.nodes s.table.used = sym (build_ext (apart_in s) e n s.nodes room (good_few s g) same) ∙ g.built in
        let long = enter_long e s.table.used n s.nodes (omega (arith, good_used s g, g.fit.lent.nodes)) (good_tree s g).linked in
        record {
          fit = record {
            range = g.fit.range;
            some = g.fit.some;
            references = rw (length-set s.references n r) g.fit.references;
            lent = record {
              narrow = g.fit.lent.narrow;
              most = g.fit.lent.most;
              coordinates = rw (length-paste s.coordinates (n * d) p d good_end whole) g.fit.lent.coordinates;
              nodes = rw long.0 g.fit.lent.nodes;
            };
          };
          count = omega arith;
          built = rw (add-one n) (stays_built e n s.table.used s.nodes (omega (arith, g.fit.lent.nodes)) (omega (arith, g.fit.lent.most)) is);
        }

    -- its claims are those that it had, and the new one
    pub added_claims : claims_in (added s r p) ≡ claims_in s ++ (record { reference = r; point = take s.table.d p } ∷ [])
    unfolding added
    added_claims =
        let n : ℕ = s.table.count in
        let d : ℕ = s.table.d in
        let l : List ℤ = paste s.coordinates (n * d) p d in
        let inside : n * d ≤ length s.coordinates = omega (arith, good_end) in
        ap (λ (k : ℕ). claims_from d k (set s.references n r) l) (add-one n)
        ∙ claims_more d n (set s.references n r) l
        ∙ ap (λ (old : List Claim). old ++ (record { reference = get_or (set s.references n r) n 0; point = point d l n } ∷ []))
        (claims_ext d n (set s.references n r) s.references l s.coordinates
        (λ i h. get_or-set_other s.references n i r 0 (λ q. omega arith))
        (λ i h. point_before s.coordinates (n * d) p d inside i (before_next d i n h)))
        ∙ ap (λ (c : Claim). claims_in s ++ (c ∷ []))
        (claim_eq _ _ (get_or-set_same s.references n r 0 (omega (arith, g.fit.references))) (point_new s.coordinates n p d inside whole))

-- ---- what adding keeps of the header

pub record HeaderKept (t u : Table) (more : ℕ) : Type 0 where
  pub number : u.number ≡ t.number
  pub measure : u.measure ≡ t.measure
  pub d : u.d ≡ t.d
  pub capacity : u.capacity ≡ t.capacity
  pub count : u.count ≡ t.count + more

pub added_kept : (s : Store) (r : ℕ) (p : List ℤ) → HeaderKept s.table (added s r p).table 1
unfolding added
added_kept s r p = record { number = refl; measure = refl; d = refl; capacity = refl; count = refl }

-- the stores of `add` are `added`
pub add_way : (s : Store) (r u : ℕ) (p l : List ℤ) (references nodes : List ℕ)
    → references ≡ with_reference s.references s.table.count r
    → l ≡ paste s.coordinates (s.table.count * s.table.d) p s.table.d
    → nodes ≡ (next_grown s l).nodes → u ≡ (next_grown s l).used
    → store (counted s.table u) references l nodes ≡ added s r p
unfolding added
add_way s r u p l references nodes g e f h = rw (g, f, h, ← e)

-- ---- a run

-- a place of a run with d numbers for each claim
pub in_run : (d i n : ℕ) (points : List ℤ) → length points ≡ d * n → i < n → i * d + d ≤ length points
in_run d i n points e h = omega (arith, before_next d i n h, mul_comm d n)

pub run_start : (given : List ℕ) (points : List ℤ) (s : Store) → s ≡ added_run given points 0 s
unfolding added_run
run_start given points s = refl

pub run_next : (given : List ℕ) (points : List ℤ) (i : ℕ) (s now next : Store) → now ≡ added_run given points i s → now.table.d ≡ s.table.d
    → next ≡ added now (reference_at given i) (point now.table.d points i) → next ≡ added_run given points (i + 1) s
unfolding added_run
run_next given points i s now next e q f = rw (add-one i, ← e, ← q) f

pub roomy_less : (s : Store) (m n : ℕ) → Roomy s m → n ≤ m → Roomy s n
roomy_less s m n h le = record { good = h.good; free = omega (arith, h.free) }

pub roomy_next : (s : Store) (r : ℕ) (p : List ℤ) (m : ℕ) → Roomy s (m + 1) → s.table.d ≤ length p → Roomy (added s r p) m
roomy_next s r p m h whole =
    let k = added_kept s r p in
    record { good = added_good s h.good (omega (arith, h.free)) r p whole; free = omega (arith, h.free, k.count, k.capacity) }

-- what is left after the first i claims of a run
pub record Ran (s x : Store) (given : List ℕ) (points : List ℤ) (i more : ℕ) : Type 0 where
  pub roomy : Roomy x more
  pub kept : HeaderKept s.table x.table i
  pub claims : claims_in x ≡ claims_in s ++ claims_from s.table.d i given points

ran_next : (s x : Store) (given : List ℕ) (points : List ℤ) (i more n : ℕ) → i < n → length points ≡ s.table.d * n → Ran s x given points i (more + 1)
    → Ran s (added x (get_or given i 0) (point s.table.d points i)) given points (suc i) more
ran_next s x given points i more n hi whole b =
    let d : ℕ = s.table.d in
    let r : ℕ = get_or given i 0 in
    let p : List ℤ = point d points i in
    let lp : length p ≡ d = point_length d points i (in_run d i n points whole hi) in
    let wx : x.table.d ≤ length p = omega (arith, b.kept.d) in
    let k = added_kept x r p in
    let tp : take x.table.d p ≡ p = take_all x.table.d p (omega (arith, b.kept.d)) in
    record {
      roomy = roomy_next x r p more b.roomy wx;
      kept = record {
        number = k.number ∙ b.kept.number;
        measure = k.measure ∙ b.kept.measure;
        d = k.d ∙ b.kept.d;
        capacity = k.capacity ∙ b.kept.capacity;
        count = omega (arith, k.count, b.kept.count);
      };
      claims = added_claims x b.roomy.good (omega (arith, b.roomy.free)) r p wx
          ∙ ap (λ (q : List ℤ). claims_in x ++ (record { reference = r; point = q } ∷ [])) tp
          ∙ ap (λ (old : List Claim). old ++ (record { reference = r; point = p } ∷ [])) b.claims
          ∙ append_assoc (claims_in s) (claims_from d i given points) (record { reference = r; point = p } ∷ [])
          ∙ ap (λ (new : List Claim). claims_in s ++ new) (sym (claims_more d i given points));
    }

module _ (s : Store) (given : List ℕ) (points : List ℤ) (n : ℕ) (h : Roomy s n) (whole : length points ≡ s.table.d * n) where
  pub ran : (i more : ℕ) → i + more ≡ n → Ran s (added_run given points i s) given points i more
  unfolding added_run claims_from
  ran zero more e =
      record {
        roomy = roomy_less s n more h (omega arith);
        kept = record { number = refl; measure = refl; d = refl; capacity = refl; count = omega arith };
        claims = sym (append-nil (claims_in s));
      }
  ran (suc i) more e = ran_next s (added_run given points i s) given points i more n (omega arith) whole (ran i (more + 1) (omega arith))

  -- a run keeps a table good
  pub run_good : Good (added_run given points n s)
  run_good = (ran n 0 (omega arith)).roomy.good

  -- its claims are those that it had, and the run's
  pub run_claims : claims_in (added_run given points n s) ≡ claims_in s ++ claims_from s.table.d n given points
  run_claims = (ran n 0 (omega arith)).claims

  -- its header is the same but for count and nodes in use
  pub run_kept : HeaderKept s.table (added_run given points n s).table n
  run_kept = (ran n 0 (omega arith)).kept
