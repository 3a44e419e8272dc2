-- What building gives, whatever the memory held, and that a built table stays one. Assumes nothing.
use Prim.Native.Nat.{ℕ, zero, suc, ◌+◌, ◌*◌, ◌/◌, ◌%◌, ◌<◌, ◌≤◌}
use mathlib.Core.Path.{◌≡◌, refl, sym, ◌∙◌, subst}
use mathlib.Core.List.{List}
use native.Mathlib.Omega.{arith}
use native.Mathlib.Decide.{dec_le}
use lib.ListN.{length, get_or}
use lib.Seq.{ext_get_or}
use Rattle.paper.specs.Tree.{Grown, grown, field_at, entered, built}
use Rattle.paper.specs.Limits.{most_claims}
use Rattle.paper.proofs.FreeNodes.{built_takes}
use Rattle.tree.specs.BuiltNodes.{Linked, Neartree, IsBuilt}
use Rattle.tree.proofs.Stores.{fresh_length}
use Rattle.tree.proofs.Keeping.{keeps, place}
use Rattle.tree.proofs.NodesInUse.{Agree, SameInUse, enter_alike, enter_behind}

-- ---- what building gives, whatever the memory held

pub record BuiltOver (e : ℕ → ℕ → ℕ) (n : ℕ) (a : List ℕ) (x : Grown) : Type 0 where
  pub sound : Neartree x.nodes e x.used n
  pub long : length x.nodes ≡ length a
  pub few : x.used ≤ n
  pub behind : (m g : ℕ) → x.used ≤ m → g < 6 → field_at x.nodes m g ≡ field_at a m g

pub enter_long : (e : ℕ → ℕ → ℕ) (used k : ℕ) (a : List ℕ) → used * 6 + 6 ≤ length a → Linked a used k
    → (length (entered e used k a).nodes ≡ length a) × (used ≤ (entered e used k a).used)
unfolding entered
enter_long e zero k a room lk = (fresh_length a 0 k, omega arith)
enter_long e (suc u) k a room lk =
    let p = place (suc u) e (suc u) k 0 a (omega arith) (omega arith) room lk in (p.long, p.more)

pub build : (e : ℕ → ℕ → ℕ) (n : ℕ) (a : List ℕ) → n * 6 ≤ length a → n ≤ most_claims → BuiltOver e n a (built e n a)
unfolding built Linked
build e zero a room few =
    record {
      sound = record { linked = λ m hm. absurd (omega arith); room = omega arith; few = few; empty = λ q. refl; all = λ j hj. absurd (omega arith) };
      long = refl;
      few = built_takes e 0 a;
      behind = λ m g hm hg. refl;
    }
build e (suc n) a room few =
    let b = build e n a (omega arith) (omega arith) in
    let r : (built e n a).used * 6 + 6 ≤ length (built e n a).nodes = omega (arith, b.long, b.few) in
    let l = enter_long e (built e n a).used n (built e n a).nodes r b.sound.linked in
    let n1 : n + 1 ≡ suc n = omega arith in
    record {
      sound = rw n1 at (keeps e (built e n a).used n (built e n a).nodes b.sound r (omega arith));
      long = l.0 ∙ b.long;
      few = built_takes e (suc n) a;
      behind = λ m g hm hg. enter_behind e (built e n a).used n (built e n a).nodes r b.sound.linked m g hm hg
          ∙ b.behind m g (omega (arith, l.1)) hg;
    }

-- ---- two memories are built alike

pub build_alike : (e : ℕ → ℕ → ℕ) (n : ℕ) (a b : List ℕ) → n * 6 ≤ length a → n ≤ most_claims → length a ≤ length b → SameInUse (built e n a) (built e n b)
unfolding built
build_alike e zero a b room few len = record { agree = record { long = len; same = λ m g hm hg. absurd (omega arith) }; used = refl }
build_alike e (suc n) a b room few len =
    let p = build e n a (omega arith) (omega arith) in
    let h = build_alike e n a b (omega arith) (omega arith) len in
    rw (← h.used) (enter_alike e (built e n a).used n (built e n a).nodes (built e n b).nodes
    (omega (arith, p.long, p.few)) p.sound.linked h.agree)

pub grown_eq : (x y : Grown) → x.nodes ≡ y.nodes → x.used ≡ y.used → x ≡ y
grown_eq x y p q = λ i. record { nodes = p i; used = q i }

-- lists that agree on the first w nodes and on all behind are equal
pub same_list : (a b : List ℕ) (w : ℕ) → length a ≡ length b → Agree w b a → ((m g : ℕ) → w ≤ m → g < 6 → field_at a m g ≡ field_at b m g) → a ≡ b
same_list a b w long ag rest = ext_get_or 0 a b long (λ i hi. go i (dec_le w (i / 6)))
  where
    go : (i : ℕ) → Dec (w ≤ i / 6) → get_or a i 0 ≡ get_or b i 0
    go i (yes h) = let q : i / 6 * 6 + i % 6 ≡ i = omega arith in rw q at (rest (i / 6) (i % 6) h (omega arith))
    go i (no h) = let q : i / 6 * 6 + i % 6 ≡ i = omega arith in rw q at (sym (ag.same (i / 6) (i % 6) (omega arith) (omega arith)))

-- ---- handed on

-- a built table stays one when the next claim is entered
pub stays_built : (e : ℕ → ℕ → ℕ) (n used : ℕ) (a : List ℕ) → n * 6 + 6 ≤ length a → n + 1 ≤ most_claims → IsBuilt e n a used
    → IsBuilt e (suc n) (entered e used n a).nodes (entered e used n a).used
unfolding IsBuilt built
stays_built e n used a room few is =
    let pa : BuiltOver e n a (grown a used) = rw is at (build e n a (omega arith) (omega arith)) in
    let r : used * 6 + 6 ≤ length a = omega (arith, pa.few) in
    let l = enter_long e used n a r pa.sound.linked in
    let out : Grown = entered e used n a in
    let x : Grown = built e n out.nodes in
    let px : BuiltOver e n out.nodes x = build e n out.nodes (omega (arith, l.0)) (omega arith) in
    let h₁ : SameInUse (grown a used) x = rw is at (build_alike e n a out.nodes (omega arith) (omega arith) (omega (arith, l.0))) in
    let y : Grown = entered e used n x.nodes in
    let h₂ : SameInUse out y = enter_alike e used n a x.nodes r pa.sound.linked h₁.agree in
    let lx : Linked x.nodes used n = subst (λ (u : ℕ). Linked x.nodes u n) (sym h₁.used) px.sound.linked in
    let rx : used * 6 + 6 ≤ length x.nodes = omega (arith, px.long, l.0) in
    let ly = enter_long e used n x.nodes rx lx in
    rw (← h₁.used) (grown_eq y out (same_list y.nodes out.nodes out.used (ly.0 ∙ px.long) h₂.agree
    (λ m g hm hg. enter_behind e used n x.nodes rx lx m g (omega (arith, h₂.used)) hg ∙ px.behind m g (omega (arith, h₁.used, l.1)) hg)) (sym h₂.used))
