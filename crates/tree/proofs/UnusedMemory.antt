-- [3.13] What unused memory holds is kept until it comes into use: entering changes nothing behind the claims and the nodes in use. Assumes nothing.
use Prim.Native.Nat.{ℕ, zero, suc, ◌+◌, ◌-◌, ◌*◌, ◌/◌, ◌%◌, ◌<◌, ◌≤◌}
use mathlib.Core.Path.{◌≡◌, refl, sym, ap, ◌∙◌}
use mathlib.Core.List.{List}
use native.Mathlib.Omega.{arith}
use native.Mathlib.Nat.{mul-le-mul_right, suc-mul}
use native.Mathlib.Numerals.{add-one}
use lib.IntN.{ℤ}
use lib.ListN.{length, get_or, drop, length-drop}
use lib.Seq.{ext_get_or, get_or-drop, drop-drop, drop-set-lt, paste, drop-paste}
use Rattle.paper.specs.Outcomes.{gives, number}
use Rattle.paper.specs.Points.{point}
use Rattle.paper.specs.Tree.{Store, field_at, reference_at}
use Rattle.paper.specs.Runs.{added, added_run, enter_call}
use Rattle.paper.proofs.Outcomes.{same_given}
use Rattle.tree.specs.Soundness.{Good, Roomy}
use Rattle.tree.proofs.Building.{enter_long}
use Rattle.tree.proofs.NodesInUse.{enter_behind}
use Rattle.tree.proofs.TestedTables.{good_tree, good_used}
use Rattle.tree.proofs.ClaimsInMemory.{point_length}
use Rattle.tree.proofs.Adding.{good_end, added_kept, in_run, ran}
use Rattle.tree.proofs.RunLaws.{zero_enters, enters_gives}

-- of store x, what lies behind its claims and its nodes in use is what store s has there
pub record UnusedKept (s x : Store) : Type 0 where
  pub references : drop x.table.count x.references ≡ drop x.table.count s.references
  pub coordinates : drop (x.table.count * x.table.d) x.coordinates ≡ drop (x.table.count * x.table.d) s.coordinates
  pub nodes : drop (x.table.used * 6) x.nodes ≡ drop (x.table.used * 6) s.nodes

-- ---- lists that are the same from somewhere on

drop_further : {A : Type 0} (m n : ℕ) (a b : List A) → m ≤ n → drop m a ≡ drop m b → drop n a ≡ drop n b
drop_further m n a b h e =
    let q : m + (n - m) ≡ n = omega arith in
    rw q at (sym (drop-drop (n - m) m a) ∙ ap (drop (n - m)) e ∙ drop-drop (n - m) m b)

-- the same fields from node u on
drop_nodes : (a b : List ℕ) (u : ℕ) → length a ≡ length b → ((m g : ℕ) → u ≤ m → g < 6 → field_at a m g ≡ field_at b m g) → drop (u * 6) a ≡ drop (u * 6) b
drop_nodes a b u long same =
    ext_get_or 0 (drop (u * 6) a) (drop (u * 6) b) (length-drop (u * 6) a ∙ ap (λ (n : ℕ). n - u * 6) long ∙ sym (length-drop (u * 6) b))
    (λ i h. get_or-drop (u * 6) a i 0 ∙ at (u * 6 + i) (omega arith) ∙ sym (get_or-drop (u * 6) b i 0))
  where
    at : (i : ℕ) → u * 6 ≤ i → get_or a i 0 ≡ get_or b i 0
    at i h = let q : i / 6 * 6 + i % 6 ≡ i = omega arith in rw q at (same (i / 6) (i % 6) (omega arith) (omega arith))

unused_further : (s x y : Store) → y.table.d ≡ x.table.d → x.table.count ≤ y.table.count → x.table.used ≤ y.table.used
    → UnusedKept s x → UnusedKept x y → UnusedKept s y
unused_further s x y e claims used k l =
    record {
      references = l.references ∙ drop_further x.table.count y.table.count x.references s.references claims k.references;
      coordinates = l.coordinates ∙ drop_further (x.table.count * x.table.d) (y.table.count * y.table.d) x.coordinates s.coordinates (rw e (mul-le-mul_right x.table.d claims)) k.coordinates;
      nodes = l.nodes ∙ drop_further (x.table.used * 6) (y.table.used * 6) x.nodes s.nodes (omega arith) k.nodes;
    }

-- ---- one claim more

module _ (s : Store) (g : Good s) (more : s.table.count < s.table.capacity) (r : ℕ) (p : List ℤ) (whole : s.table.d ≤ length p) where
  room : s.table.used * 6 + 6 ≤ length s.nodes
  room = omega (arith, good_used s g, g.fit.lent.nodes)

  added_used : s.table.used ≤ (added s r p).table.used
  unfolding added
  added_used = (enter_long _ s.table.used s.table.count s.nodes room (good_tree s g).linked).1

  added_unused : UnusedKept s (added s r p)
  unfolding added
  added_unused =
      let n : ℕ = s.table.count in
      let d : ℕ = s.table.d in
      let e : (n + 1) * d ≡ n * d + d = omega (arith, suc-mul n d, ap (λ (k : ℕ). k * d) (add-one n)) in
      record {
        references = drop-set-lt (n + 1) s.references n r (omega arith);
        coordinates = ap (λ (i : ℕ). drop i (paste s.coordinates (n * d) p d)) e
            ∙ drop-paste s.coordinates (n * d) p d (omega (arith, good_end s g more)) whole
            ∙ ap (λ (i : ℕ). drop i s.coordinates) (sym e);
        nodes = drop_nodes _ s.nodes _ (enter_long _ s.table.used n s.nodes room (good_tree s g).linked).0
            (enter_behind _ s.table.used n s.nodes room (good_tree s g).linked);
      }

-- ---- a run, and the call

run_unused : (s : Store) (given : List ℕ) (points : List ℤ) (n : ℕ) → Roomy s n → length points ≡ s.table.d * n → (i more : ℕ) → i + more ≡ n
    → UnusedKept s (added_run given points i s)
unfolding added_run
run_unused s given points n h whole zero more e = record { references = refl; coordinates = refl; nodes = refl }
run_unused s given points n h whole (suc i) more e =
    let x : Store = added_run given points i s in
    let p : List ℤ = point s.table.d points i in
    let b = ran s given points n h whole i (more + 1) (omega arith) in
    let some : x.table.count < x.table.capacity = omega (arith, b.roomy.free) in
    let long : x.table.d ≤ length p = omega (arith, b.kept.d, point_length s.table.d points i (in_run s.table.d i n points whole (omega arith))) in
    let k = added_kept x (reference_at given i) p in
    unused_further s x (added x (reference_at given i) p) k.d (omega (arith, k.count)) (added_used x b.roomy.good some (reference_at given i) p long)
    (run_unused s given points n h whole i (more + 1) (omega arith)) (added_unused x b.roomy.good some (reference_at given i) p long)

-- [3.13] a call that enters a run keeps what lies behind the claims and the nodes that are in use after it
pub enter_keeps_unused : (s : Store) (given : List ℕ) (points : List ℤ) (x : Store) → enter_call s given points ≡ gives x → UnusedKept s x
enter_keeps_unused s given points x e =
    let h = zero_enters s given points (ap number e) in
    let q : x ≡ added_run given points (length given) s = same_given _ _ (sym e ∙ enters_gives s given points h) in
    rw q (run_unused s given points (length given) (record { good = h.good; free = h.free }) h.whole (length given) 0 (omega arith))
