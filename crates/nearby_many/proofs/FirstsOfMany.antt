-- One law for each way through a call for many questions. Assumes nothing.
use Prim.Native.Nat.{ℕ, suc, ◌+◌, ◌*◌, ◌<◌, ◌≤◌}
use mathlib.Core.Path.{◌≡◌, refl, sym, ap, ◌∙◌}
use mathlib.Core.Bool.{true, false}
use mathlib.Core.List.{List}
use native.Mathlib.Nat.{mul_comm}
use native.Mathlib.Omega.{arith}
use lib.Dec.{leb, eqb}
use lib.IntN.{ℤ}
use lib.ListN.{length, drop, length-drop}
use lib.Seq.{length-take-le}
use borrow.Author.Tests.{leb-true, eqb-true}
use Rattle.std.specs.Prelude.{Option}
use Rattle.paper.specs.Points.{point}
use Rattle.paper.specs.declared.orders.Item.{Item}
use Rattle.paper.specs.Outcomes.{Outcome, refused, gives, must, onto, number, Promise}
use Rattle.paper.specs.Tree.{Store, fits, sound}
use Rattle.tree.proofs.PointsInMemory.{before_next}
use Rattle.walk.specs.Asking.{Answerable}
use Rattle.walk.proofs.Answers.{good_answerable}
use Rattle.paper.specs.Calls.{table_refusal}
use Rattle.paper.proofs.Outcomes.{must_stop, must_go, number_0, must_behind, stops, promise_refused, promise_given}
use Rattle.walk_tested.proofs.TableLaws.{table_refused, table_good, table_goes}
use Rattle.nearby_many.specs.Rows.{each, instead, put_found}
use Rattle.nearby_many.specs.Counts.{on_many, many_refusal}
use Rattle.nearby_many.specs.Many.{probe_at, firsts_call, Asked}

-- ---- 1, 2, 5

module _ (s : Store) (probes n why : ℕ) (we : why ≡ table_refusal s) where
  pub many_table : (why ≡ 0 → ⊥) → why ≡ many_refusal s probes n
  unfolding many_refusal
  many_table h = sym (ap number (table_refused s why we _ h))

-- behind 1 and 2
module _ (s : Store) (probes n : ℕ) (tested : 0 ≡ table_refusal s) where
  pub many_wide : 1 ≤ s.table.d
  many_wide = (table_good s 0 tested refl).fit.range.wide

  pub many_left : many_refusal s probes n ≡ number (must (eqb probes (s.table.d * n)) 5 (gives n))
  unfolding many_refusal
  many_left = ap number (table_goes s 0 tested refl _)

-- ---- question i

pub probe_long : (s : Store) (probes : List ℤ) (i : ℕ) → i * s.table.d + s.table.d ≤ length probes → length (probe_at s probes i) ≡ s.table.d
unfolding point
probe_long s probes i h = length-take-le s.table.d (drop (i * s.table.d) probes) (omega (arith, length-drop (i * s.table.d) probes))

pub asked_answerable : (s : Store) (probes : List ℤ) (i : ℕ) → Asked s (length probes) i → Answerable s (probe_at s probes i)
asked_answerable s probes i h = good_answerable s (table_good s 0 h.tested refl) (probe_at s probes i) (probe_long s probes i h.aimed)

tested_by : (s : Store) → fits s ≡ true → sound s ≡ true → 0 ≡ table_refusal s
unfolding table_refusal
tested_by s f e = rw (f, e)

pub asked_of : (s : Store) (probes n : ℕ) → fits s ≡ true → sound s ≡ true → eqb probes (s.table.d * n) ≡ true → (i : ℕ) → i < n → Asked s probes i
asked_of s probes n f e whole i few =
    record {
      tested = tested_by s f e;
      aimed = omega (arith, before_next s.table.d i n few, mul_comm s.table.d n, eqb-true probes (s.table.d * n) whole);
    }

-- ---- rows one after another

module _ (f : ℕ → List ℕ → List ℕ) (before : List ℕ) where
  pub each_none : before ≡ each f 0 before
  unfolding each
  each_none = refl

  pub each_next : (i : ℕ) (now after : List ℕ) → now ≡ each f i before → after ≡ f i now → after ≡ each f (i + 1) before
  unfolding each
  each_next i now after g e = let p : i + 1 ≡ suc i = omega arith in rw p (e ∙ ap (f i) g)

-- row i of n is in a room for them
pub row_fits : (w n room i : ℕ) → leb (n * w) room ≡ true → i < n → i * w + w ≤ room
row_fits w n room i h few = omega (arith, before_next w i n few, leb-true (n * w) room h)

-- ---- [9.16] n questions for an item each: 1, 2, 5, 12

module _ (s : Store) (probes n : ℕ) where
  -- what any call does behind 1, 2, 5
  then_goes : {A : Type 0} (x : Outcome A) → on_many s probes n x ≡ onto (on_many s probes n (gives n)) (λ u. x)
  then_goes x = must_behind (fits s) 1 _ x _ (must_behind (sound s) 2 _ x _ (must_behind (eqb probes (s.table.d * n)) 5 x x (gives n) refl))

  pub many_refused : {A : Type 0} (why : ℕ) → why ≡ many_refusal s probes n → (x : Outcome A) → (why ≡ 0 → ⊥) → on_many s probes n x ≡ refused why
  unfolding many_refusal
  many_refused why we x h = stops (on_many s probes n x) x (on_many s probes n (gives n)) (then_goes x) why we h

  module _ (none : 0 ≡ many_refusal s probes n) where
    all : (fits s ≡ true) × (sound s ≡ true) × (eqb probes (s.table.d * n) ≡ true)
    unfolding many_refusal
    all =
        let h1 = number_0 (fits s) 0 _ (sym none) in
        let h2 = number_0 (sound s) 1 _ h1.1 in
        (h1.0, h2.0, (number_0 (eqb probes (s.table.d * n)) 4 (gives n) h2.1).0)

    pub many_goes : {A : Type 0} (x : Outcome A) → on_many s probes n x ≡ x
    many_goes x = must_go (fits s) 1 _ all.0 ∙ must_go (sound s) 2 _ all.1 ∙ must_go (eqb probes (s.table.d * n)) 5 _ all.2

    pub many_asked : (i : ℕ) → i < n → Asked s probes i
    many_asked = asked_of s probes n all.0 all.1 all.2

  module _ (answer : ℕ → Option Item) (out : List ℕ) where
    abbrev call : Outcome (List ℕ)
    call = firsts_call s probes n answer out

    pub firsts_refused : (why : ℕ) → why ≡ many_refusal s probes n → (why ≡ 0 → ⊥) → Promise number instead call out why out
    unfolding firsts_call
    firsts_refused why we h = promise_refused number instead call out why why (many_refused why we _ h) refl

    module _ (none : 0 ≡ many_refusal s probes n) where
      pub firsts_12 : leb (n * 4) (length out) ≡ false → Promise number instead call out 12 out
      unfolding firsts_call
      firsts_12 h = promise_refused number instead call out 12 12 (many_goes none _ ∙ must_stop (leb (n * 4) (length out)) 12 _ h) refl

      pub firsts_answered : leb (n * 4) (length out) ≡ true → (after : List ℕ) → after ≡ each (put_found answer) n out
          → Promise number instead call out 0 after
      unfolding firsts_call
      firsts_answered h after w =
          promise_given number instead call out (each (put_found answer) n out) 0 after
          (many_goes none _ ∙ must_go (leb (n * 4) (length out)) 12 _ h) refl w
