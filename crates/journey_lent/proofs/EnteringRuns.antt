-- A run that reaches the call in lent memory, and the same run in a world, whose table is a list of claims. Assumes nothing.
use Prim.Native.Nat.{ℕ, zero, suc, ◌+◌, ◌*◌, ◌≤◌}
use mathlib.Core.Path.{◌≡◌, refl, sym, ap, ◌∙◌}
use mathlib.Core.Bool.{Bool, true, false}
use mathlib.Core.List.{List, [], ◌∷◌, ◌++◌}
use native.Mathlib.Omega.{arith}
use native.Mathlib.Nat.{le_refl, zero-mul, suc-mul, mul-suc}
use lib.IntN.{ℤ}
use lib.ListN.{length, get_or, take, drop, length-append}
use lib.Seq.{take_at, take-length, drop-append-add}
use lib.Dec.{leb, eqb}
use borrow.Author.Tests.{leb-true, le-leb, eq-eqb, eqb-true}
use Rattle.paper.specs.Points.{Claim, point}
use Rattle.paper.specs.Outcomes.{Outcome, refused, gives, must, onto, number}
use Rattle.paper.specs.Tree.{Store, fits, sound, claims_from, claims_in}
use Rattle.paper.specs.References.{references_of, in_force, anew}
use Rattle.paper.specs.Runs.{added_run, enter_call}
use Rattle.paper.specs.Ends.{Table, count, table_of, every}
use Rattle.paper.proofs.Outcomes.{must_go, must_stop}
use Rattle.orders.proofs.Lists.{All, all_append, all_map, every_true, every_all}
use Rattle.tree.specs.Soundness.{Good, Roomy}
use Rattle.tree.proofs.PointsInMemory.{claims_length}
use Rattle.tree.proofs.TestedTables.{fits_fit, fit_fits, sound_good, good_sound}
use Rattle.tree.proofs.Adding.{in_run, HeaderKept, run_claims, run_kept}
use Rattle.tree.proofs.ClaimsInMemory.{references_are, point_length}
use Rattle.tree.proofs.RunLaws.{Enters, enters_gives, zero_enters}
use Rattle.journey.specs.World.{run_entering}
use Rattle.journey_lent.specs.EnteredRuns.{run_of, points_of, call_enters}

-- ---- what the call enters, a world enters

-- each claim that is cut out of a run has d coordinates, where the run has them
claims_whole : (d n m : ℕ) (given : List ℕ) (points : List ℤ) → length points ≡ d * m → n ≤ m
    → All (λ (k : Claim). eqb (length k.point) d ≡ true) (claims_from d n given points)
unfolding claims_from
claims_whole d zero m given points e h = tt
claims_whole d (suc n) m given points e h =
    all_append _ (claims_from d n given points) _ (claims_whole d n m given points e (omega arith))
    (eq-eqb _ d (point_length d points n (in_run d n m points e (omega arith))), tt)

module _ (s : Store) (given : List ℕ) (points : List ℤ) where
  -- the claims of a whole run have d coordinates each
  run_whole : length points ≡ s.table.d * length given → every (λ (k : Claim). eqb (length k.point) s.table.d) (run_of s given points) ≡ true
  run_whole whole = every_true _ (run_of s given points) (claims_whole s.table.d (length given) (length given) given points whole (omega arith))

  -- count plus run, in memory and in a world
  run_count : count (table_of s) + length (run_of s given points) ≡ s.table.count + length given
  run_count =
      omega (
        arith,
        claims_length s.table.d s.table.count s.references s.coordinates,
        claims_length s.table.d (length given) given points,
      )

  -- the run's references
  run_references : references_of (run_of s given points) ≡ given
  run_references = references_are s.table.d (length given) given points (le_refl (length given)) ∙ take-length given

  -- the table with the run's claims behind its own
  abbrev entered : Table
  entered =
      record {
        number = s.table.number;
        measure = s.table.measure;
        d = s.table.d;
        capacity = s.table.capacity;
        claims = claims_in s ++ run_of s given points;
      }

  -- what a world tests of a whole run is what the call tests
  world_tests : length points ≡ s.table.d * length given
      → run_entering (table_of s) (run_of s given points)
      ≡ must (anew (in_force (claims_in s)) given) 17 (must (leb (s.table.count + length given) s.table.capacity) 3 (gives entered))
  unfolding run_entering
  world_tests whole =
      must_go _ 5 _ (run_whole whole)
      ∙ ap (λ (l : List ℕ). must (anew (in_force (claims_in s)) l) 17 (must (leb (count (table_of s) + length (run_of s given points)) s.table.capacity) 3 (gives entered))) run_references
      ∙ ap (λ (n : ℕ). must (anew (in_force (claims_in s)) given) 17 (must (leb n s.table.capacity) 3 (gives entered))) run_count

  -- a run that nothing refuses
  enters : Enters s given points → run_entering (table_of s) (run_of s given points) ≡ call_enters s given points
  unfolding call_enters
  enters h =
      let r : Roomy s (length given) = record { good = h.good; free = h.free } in
      let k : HeaderKept s.table (added_run given points (length given) s).table (length given) = run_kept s given points (length given) r h.whole in
      let c = run_claims s given points (length given) r h.whole in
      world_tests h.whole
      ∙ must_go _ 17 _ h.new
      ∙ must_go _ 3 _ (le-leb _ s.table.capacity h.free)
      ∙ (λ i. gives (record { number = sym k.number i; measure = sym k.measure i; d = sym k.d i; capacity = sym k.capacity i; claims = sym c i }))
      ∙ ap (λ (o : Outcome Store). onto o (λ x. gives (table_of x))) (sym (enters_gives s given points h))

  -- one with a reference that is not new, and one for which there is no room
  refused_17 : Good s → length points ≡ s.table.d * length given → anew (in_force (claims_in s)) given ≡ false
      → run_entering (table_of s) (run_of s given points) ≡ call_enters s given points
  unfolding call_enters enter_call
  refused_17 g whole old =
      world_tests whole
      ∙ must_stop _ 17 _ old
      ∙ rw (fit_fits s g.fit, good_sound s g, eq-eqb (length points) (s.table.d * length given) whole, old)

  refused_3 : Good s → length points ≡ s.table.d * length given → anew (in_force (claims_in s)) given ≡ true
      → leb (s.table.count + length given) s.table.capacity ≡ false
      → run_entering (table_of s) (run_of s given points) ≡ call_enters s given points
  unfolding call_enters enter_call
  refused_3 g whole new full =
      world_tests whole
      ∙ must_go _ 17 _ new
      ∙ must_stop _ 3 _ full
      ∙ rw (fit_fits s g.fit, good_sound s g, eq-eqb (length points) (s.table.d * length given) whole, new, full)

  good_alike : Good s → length points ≡ s.table.d * length given → run_entering (table_of s) (run_of s given points) ≡ call_enters s given points
  good_alike g whole = go (anew (in_force (claims_in s)) given) (leb (s.table.count + length given) s.table.capacity) refl refl
    where
      go : (n f : Bool) → anew (in_force (claims_in s)) given ≡ n → leb (s.table.count + length given) s.table.capacity ≡ f
          → run_entering (table_of s) (run_of s given points) ≡ call_enters s given points
      go true true n f =
          enters (record { good = g; whole = whole; new = n; free = leb-true (s.table.count + length given) s.table.capacity f })
      go true false n f = refused_3 g whole n f
      go false b n f = refused_17 g whole n

  -- what the call enters, a world enters: the table in lent memory is then the world's next table
  pub the_world_enters_what_the_call_enters : (x : Store) → enter_call s given points ≡ gives x
      → run_entering (table_of s) (run_of s given points) ≡ gives (table_of x)
  unfolding call_enters
  the_world_enters_what_the_call_enters x e =
      let h = zero_enters s given points (ap number e) in
      good_alike h.good h.whole ∙ ap (λ (o : Outcome Store). onto o (λ y. gives (table_of y))) e

  -- on a table that fits and is sound, with d coordinates for each reference, the two are one: where the call refuses, with 17 or 3, so does the world
  module _ (fit : fits s ≡ true) (well : sound s ≡ true) (whole : length points ≡ s.table.d * length given) where
    pub the_world_enters_as_the_call_does : run_entering (table_of s) (run_of s given points) ≡ call_enters s given points
    the_world_enters_as_the_call_does = good_alike (sound_good s (fits_fit s fit) well) whole

    pub the_world_refuses_what_the_call_refuses : (n : ℕ) → enter_call s given points ≡ refused n
        → run_entering (table_of s) (run_of s given points) ≡ refused n
    unfolding call_enters
    the_world_refuses_what_the_call_refuses n e =
        the_world_enters_as_the_call_does ∙ ap (λ (o : Outcome Store). onto o (λ y. gives (table_of y))) e

    pub the_call_refuses_what_the_world_refuses : (n : ℕ) → run_entering (table_of s) (run_of s given points) ≡ refused n
        → enter_call s given points ≡ refused n
    unfolding call_enters
    the_call_refuses_what_the_world_refuses n e = go (enter_call s given points) (sym the_world_enters_as_the_call_does ∙ e)
      where
        go : (o : Outcome Store) → onto o (λ y. gives (table_of y)) ≡ refused n → o ≡ refused n
        go (refused m) h = let q : m ≡ n = cc in ap refused q
        go (gives y) h = absurd (let z : ◌≡◌ {A = ℕ} 0 1 = cc in omega arith)

-- ---- every run of a world is one that the call may be given

-- the place of claim n + 1 behind p is that of claim n
drop_past : (d n : ℕ) (p points : List ℤ) → length p ≡ d → drop (suc n * d) (p ++ points) ≡ drop (n * d) points
drop_past d n p points e =
    let q : suc n * d ≡ length p + n * d = suc-mul n d ∙ (omega arith) in
    ap (λ (k : ℕ). drop k (p ++ points)) q ∙ drop-append-add p points (n * d)

-- behind a first claim with its d coordinates, the others are cut out as before
cut_first : (d n r : ℕ) (given : List ℕ) (p points : List ℤ) → length p ≡ d
    → claims_from d (suc n) (r ∷ given) (p ++ points) ≡ record { reference = r; point = p } ∷ claims_from d n given points
unfolding claims_from point
cut_first d zero r given p points e =
    ap (λ (k : ℕ). record { reference = r; point = take d (drop k (p ++ points)) } ∷ []) (zero-mul d)
    ∙ ap (λ (q : List ℤ). record { reference = r; point = q } ∷ []) (take_at p points d e)
cut_first d (suc n) r given p points e =
    ap (λ (l : List Claim). l ++ (record { reference = get_or given n 0; point = take d (drop (suc n * d) (p ++ points)) } ∷ [])) (cut_first d n r given p points e)
    ∙ ap (λ (q : List ℤ). record { reference = r; point = p } ∷ (claims_from d n given points ++ (record { reference = get_or given n 0; point = take d q } ∷ [])))
    (drop_past d n p points e)

module _ (d : ℕ) where
  run_cut : (run : List Claim) → All (λ (k : Claim). length k.point ≡ d) run
      → claims_from d (length (references_of run)) (references_of run) (points_of run) ≡ run
  unfolding references_of points_of claims_from
  run_cut [] h = refl
  run_cut (c ∷ run) h =
      cut_first d (length (references_of run)) c.reference (references_of run) c.point (points_of run) h.0
      ∙ ap (λ (l : List Claim). c ∷ l) (run_cut run h.1)

  run_long : (run : List Claim) → All (λ (k : Claim). length k.point ≡ d) run → length (points_of run) ≡ d * length (references_of run)
  unfolding references_of points_of
  run_long [] h = omega arith
  run_long (c ∷ run) h =
      omega (arith, length-append c.point (points_of run), h.0, run_long run h.1, mul-suc d (length (references_of run)))

-- a run that a world does not refuse with 5 is entered, or refused, as the call enters or refuses its references and coordinates
pub the_call_enters_as_the_world_does : (s : Store) → fits s ≡ true → sound s ≡ true → (run : List Claim)
    → every (λ (k : Claim). eqb (length k.point) s.table.d) run ≡ true
    → run_entering (table_of s) run ≡ call_enters s (references_of run) (points_of run)
the_call_enters_as_the_world_does s fit well run e =
    let h = all_map _ (λ (k : Claim). length k.point ≡ s.table.d) (λ k p. eqb-true (length k.point) s.table.d p) run (every_all _ run e) in
    ap (run_entering (table_of s)) (sym (run_cut s.table.d run h))
    ∙ the_world_enters_as_the_call_does s (references_of run) (points_of run) fit well (run_long s.table.d run h)
