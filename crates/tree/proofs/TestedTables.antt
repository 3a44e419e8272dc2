-- What the tests of a table tell: a table that passes them is good, and the other way round. Assumes nothing.
use Prim.Native.Nat.{ℕ, ◌+◌, ◌*◌, ◌<◌, ◌≤◌}
use mathlib.Core.Path.{◌≡◌, refl, sym, ap, ◌∙◌}
use mathlib.Core.Bool.{Bool, true, false, ◌&&◌}
use mathlib.Core.List.{List}
use native.Mathlib.Omega.{arith}
use native.Mathlib.Nat.{mul-le-mul, mul-le-mul_right}
use native.Mathlib.Numerals.{add-one}
use lib.IntN.{ℤ}
use lib.ListN.{length, get_or, replicate, length-replicate}
use lib.Dec.{leb, eqb}
use borrow.Author.Tests.{leb-true, eqb-true, le-leb, lt-leb, eq-eqb, ne_eqb}
use Rattle.paper.specs.declared.tables.Table.{Table}
use Rattle.paper.specs.Tree.{Grown, grown, entered, built, Store, apart, apart_in, fits, same_front, afresh, sound}
use Rattle.paper.proofs.FreeNodes.{built_takes}
use Rattle.tree.specs.BuiltNodes.{Neartree, Located, Enterable, IsBuilt}
use Rattle.tree.specs.Soundness.{MemoryHolds, Fit, Good}
use Rattle.tree.proofs.Building.{BuiltOver, build, build_alike, same_list, grown_eq}
use Rattle.tree.proofs.NodesInUse.{SameInUse}
use Rattle.paper.proofs.Tests.{and_first, and_second}
use Rattle.tree.proofs.Front.{front_at_lem, front_all, front_ext, agree_at}
use Rattle.paper.specs.Points.{in_range}
use Rattle.paper.proofs.Ranges.{range_is, is_range}
use Rattle.paper.specs.Limits.{most_claims}

-- ---- range and lent memory

-- a capacity in range, times a d in range, is small
pub few_points : (c d : ℕ) → c ≤ most_claims → d ≤ 8 → c * d ≤ 32768
few_points c d hc hd = mul-le-mul hc hd

module _ (s : Store) where
  c : ℕ
  c = s.table.capacity

  pub fits_fit : fits s ≡ true → Fit s
  unfolding fits c
  fits_fit h =
      let r : Bool = in_range s.table.measure s.table.d in
      let n : Bool = leb 1 c && leb c most_claims in
      let m : Bool = leb c (length s.references) in
      let p : Bool = leb (c * s.table.d) (length s.coordinates) in
      let q : Bool = leb (c * 6) (length s.nodes) in
      let h1 = and_second r (n && (m && (p && q))) h in
      let h2 = and_second n (m && (p && q)) h1 in
      let h3 = and_second m (p && q) h2 in
      let hn = and_first n (m && (p && q)) h1 in
      let range = range_is s.table.measure s.table.d (and_first r (n && (m && (p && q))) h) in
      record {
        range = range;
        some = leb-true 1 c (and_first (leb 1 c) (leb c most_claims) hn);
        references = leb-true c (length s.references) (and_first m (p && q) h2);
        lent = record {
          narrow = range.narrow;
          most = leb-true c most_claims (and_second (leb 1 c) (leb c most_claims) hn);
          coordinates = leb-true (c * s.table.d) (length s.coordinates) (and_first p q h3);
          nodes = leb-true (c * 6) (length s.nodes) (and_second p q h3);
        };
      }

  pub fit_fits : Fit s → fits s ≡ true
  unfolding fits c
  fit_fits f =
      rw (
        is_range s.table.measure s.table.d f.range,
        le-leb 1 c f.some,
        le-leb c most_claims f.lent.most,
        le-leb c (length s.references) f.references,
        le-leb (c * s.table.d) (length s.coordinates) f.lent.coordinates,
        le-leb (c * 6) (length s.nodes) f.lent.nodes,
      )

-- the points of a table's first n claims are in the lent memory
pub lent_located : (t : Table) (points : List ℤ) (numbers n : ℕ) → MemoryHolds t (length points) numbers → n ≤ t.capacity → Located t.d n points
lent_located t points numbers n l h = record { narrow = l.narrow; inside = omega (arith, mul-le-mul_right t.d h, l.coordinates) }

-- ---- rebuilding

module _ (measure d : ℕ) (coordinates : List ℤ) (nodes₀ nodes : List ℕ) (k used : ℕ) (is : grown nodes used ≡ built (apart measure d coordinates) k nodes₀) where
  -- after k claims the next can be entered
  pub rebuild_ready : (n : ℕ) → n * 6 ≤ length nodes₀ → n ≤ most_claims → Located d n coordinates → k < n → Enterable nodes used d coordinates k
  rebuild_ready n room few l hk =
      let b : BuiltOver (apart measure d coordinates) k nodes₀ (grown nodes used) = rw is (build (apart measure d coordinates) k nodes₀ (omega arith) (omega arith)) in
      let le : k + 1 ≤ n = omega arith in
      record {
        linked = b.sound.linked;
        room = omega (arith, b.long, b.few);
        few = omega arith;
        located = record { narrow = l.narrow; inside = omega (arith, mul-le-mul_right d le, l.inside) };
      }

  pub rebuild_next : (nodes' : List ℕ) (r : ℕ) → nodes' ≡ (entered (apart measure d coordinates) used k nodes).nodes
      → r ≡ (entered (apart measure d coordinates) used k nodes).used → grown nodes' r ≡ built (apart measure d coordinates) (k + 1) nodes₀
  unfolding built
  rebuild_next nodes' r p q =
      let e : ℕ → ℕ → ℕ = apart measure d coordinates in
      grown_eq (grown nodes' r) (entered e used k nodes) p q
      ∙ ap (λ (x : Grown). entered e x.used k x.nodes) is
      ∙ ap (λ (m : ℕ). built e m nodes₀) (sym (add-one k))

  -- no node is in use without a claim
  pub rebuild_few : used ≤ k
  rebuild_few = omega (arith, ap (λ (x : Grown). x.used) is, built_takes (apart measure d coordinates) k nodes₀)

pub rebuild_start : (e : ℕ → ℕ → ℕ) (nodes : List ℕ) → grown nodes 0 ≡ built e 0 nodes
unfolding built
rebuild_start e nodes = refl

-- ---- testing

-- memory of any contents gives what empty nodes give
alike_afresh : (e : ℕ → ℕ → ℕ) (nodes : List ℕ) (n : ℕ) → n * 6 ≤ length nodes → n ≤ most_claims → SameInUse (afresh e n) (built e n nodes)
unfolding afresh
alike_afresh e nodes n room few =
    let l = length-replicate {A = ℕ} (n * 6) 0 in
    build_alike e n (replicate (n * 6) 0) nodes (omega arith) few (omega arith)

module _ (s : Store) where
  pub sound_over : s.table.capacity < s.table.count → false ≡ sound s
  unfolding sound
  sound_over h = rw (lt-leb s.table.count s.table.capacity h)

  module _ (scratch nodes : List ℕ) (u : ℕ) (hc : s.table.count ≤ s.table.capacity) (most : s.table.capacity ≤ most_claims)
      (room : s.table.count * 6 ≤ length scratch) (is : grown nodes u ≡ built (apart_in s) s.table.count scratch) where
    alike : SameInUse (afresh (apart_in s) s.table.count) (grown nodes u)
    alike = rw is (alike_afresh (apart_in s) scratch s.table.count room (omega arith))

    pub sound_other : (u ≡ s.table.used → ⊥) → false ≡ sound s
    unfolding sound
    sound_other ne =
        rw (
          le-leb s.table.count s.table.capacity hc,
          ne_eqb (afresh (apart_in s) s.table.count).used s.table.used (λ p. ne (sym alike.used ∙ p)),
        )

    pub sound_last : u ≡ s.table.used → same_front (u * 6) nodes s.nodes ≡ sound s
    unfolding sound
    sound_last e =
        let n : ℕ = s.table.used * 6 in
        let again : List ℕ = (afresh (apart_in s) s.table.count).nodes in
        let f : same_front n again s.nodes ≡ same_front n nodes s.nodes =
        front_ext n again nodes s.nodes (agree_at s.table.used again nodes (λ m g hm hg. alike.agree.same m g (omega (arith, alike.used)) hg)) in
        rw (le-leb s.table.count s.table.capacity hc, eq-eqb (afresh (apart_in s) s.table.count).used s.table.used (alike.used ∙ e), f, e)

-- ---- a table that passes the tests is good

pub sound_good : (s : Store) → Fit s → sound s ≡ true → Good s
unfolding sound IsBuilt
sound_good s f hs =
    let t : Table = s.table in
    let n : ℕ = t.count in
    let e : ℕ → ℕ → ℕ = apart_in s in
    let bc : Bool = leb n t.capacity in
    let bu : Bool = eqb (afresh e n).used t.used in
    let bf : Bool = same_front (t.used * 6) (afresh e n).nodes s.nodes in
    let hc : n ≤ t.capacity = leb-true n t.capacity (and_first bc (bu && bf) hs) in
    let rest = and_second bc (bu && bf) hs in
    let hu : (afresh e n).used ≡ t.used = eqb-true (afresh e n).used t.used (and_first bu bf rest) in
    let same : (i : ℕ) → i < t.used * 6 → get_or (afresh e n).nodes i 0 ≡ get_or s.nodes i 0 =
    front_at_lem (t.used * 6) (afresh e n).nodes s.nodes (and_second bu bf rest) in
    let room : n * 6 ≤ length s.nodes = omega (arith, f.lent.nodes) in
    let few : n ≤ most_claims = omega (arith, f.lent.most) in
    let h = alike_afresh e s.nodes n room few in
    let b = build e n s.nodes room few in
    let x : Grown = built e n s.nodes in
    let xu : x.used ≡ t.used = sym h.used ∙ hu in
    let eq : x.nodes ≡ s.nodes = same_list x.nodes s.nodes t.used b.long
    (record { long = omega (arith, b.long); same = λ m g hm hg. sym (same (m * 6 + g) (omega arith)) ∙ h.agree.same m g (omega (arith, hu)) hg })
    (λ m g hm hg. b.behind m g (omega (arith, xu)) hg) in
    record { fit = f; count = hc; built = grown_eq x (grown s.nodes t.used) eq xu }

-- ---- and the other way round

module _ (s : Store) (g : Good s) where
  room : s.table.count * 6 ≤ length s.nodes
  room = omega (arith, g.count, g.fit.lent.nodes)

  pub good_few : s.table.count ≤ most_claims
  good_few = omega (arith, g.count, g.fit.lent.most)

  pub good_sound : sound s ≡ true
  unfolding sound IsBuilt
  good_sound =
      let n : ℕ = s.table.count in
      let e : ℕ → ℕ → ℕ = apart_in s in
      let h : SameInUse (afresh e n) (grown s.nodes s.table.used) = rw g.built at (alike_afresh e s.nodes n room good_few) in
      rw (le-leb n s.table.capacity g.count, eq-eqb (afresh e n).used s.table.used h.used)
      (front_all (s.table.used * 6) (afresh e n).nodes s.nodes
      (agree_at s.table.used (afresh e n).nodes s.nodes (λ m f hm hf. h.agree.same m f (omega (arith, h.used)) hf)))

  pub good_built : BuiltOver (apart_in s) s.table.count s.nodes (grown s.nodes s.table.used)
  unfolding IsBuilt
  good_built = rw g.built at (build (apart_in s) s.table.count s.nodes room good_few)

  -- what a walk needs
  pub good_tree : Neartree s.nodes (apart_in s) s.table.used s.table.count
  good_tree = good_built.sound

  pub good_used : s.table.used ≤ s.table.count
  good_used = good_built.few
