-- A table that a call tests: 1 and 2, and then 5 where it has a probe. Assumes nothing.
use Prim.Native.Nat.{ℕ}
use mathlib.Core.Path.{◌≡◌, refl, sym, ap, ◌∙◌}
use mathlib.Core.Bool.{Bool, true, false}
use mathlib.Core.List.{List}
use lib.Dec.{eqb}
use lib.IntN.{ℤ}
use lib.ListN.{length}
use borrow.Author.Tests.{eq-eqb, ne_eqb}
use Rattle.paper.specs.Outcomes.{Outcome, refused, gives, must, onto, number}
use Rattle.paper.specs.Tree.{Store, fits, sound}
use Rattle.paper.specs.Calls.{on_table, table_refusal, aimed}
use Rattle.paper.proofs.Outcomes.{must_stop, must_go, number_0, must_behind, stops}
use Rattle.tree.specs.Soundness.{Good, MemoryHolds}
use Rattle.tree.proofs.TestedTables.{fits_fit, sound_good}

-- ---- 1 and 2

module _ (s : Store) (a : Bool) (ae : a ≡ fits s) where
  -- 1 is the first test of every call on a table
  pub fit_stops : {A : Type 0} (x : Outcome A) → a ≡ false → must (fits s) 1 x ≡ refused 1
  fit_stops x h = must_stop (fits s) 1 x (sym ae ∙ h)

  pub fit_goes : {A : Type 0} (x : Outcome A) → a ≡ true → must (fits s) 1 x ≡ x
  fit_goes x h = must_go (fits s) 1 x (sym ae ∙ h)

  pub fit_lent : a ≡ true → MemoryHolds s.table (length s.coordinates) (length s.nodes)
  fit_lent h = (fits_fit s (sym ae ∙ h)).lent

  pub table_1 : a ≡ false → 1 ≡ table_refusal s
  unfolding table_refusal
  table_1 h = sym (ap number (fit_stops _ h))

  module _ (ha : a ≡ true) (b : Bool) (be : b ≡ sound s) where
    pub table_2 : b ≡ false → 2 ≡ table_refusal s
    unfolding table_refusal
    table_2 h = sym (ap number (fit_goes _ ha ∙ must_stop (sound s) 2 _ (sym be ∙ h)))

    pub table_0 : b ≡ true → 0 ≡ table_refusal s
    unfolding table_refusal
    table_0 h = sym (ap number (fit_goes _ ha ∙ must_go (sound s) 2 (gives s) (sym be ∙ h)))

module _ (s : Store) (n : ℕ) (we : n ≡ table_refusal s) where
  -- what any call does behind the two
  then_goes : {A : Type 0} (x : Outcome A) → on_table s x ≡ onto (on_table s (gives s)) (λ u. x)
  then_goes x = must_behind (fits s) 1 (must (sound s) 2 x) x (must (sound s) 2 (gives s)) (must_behind (sound s) 2 x x (gives s) refl)

  pub table_refused : {A : Type 0} (x : Outcome A) → (n ≡ 0 → ⊥) → on_table s x ≡ refused n
  unfolding table_refusal
  table_refused x h = stops (on_table s x) x (on_table s (gives s)) (then_goes x) n we h

  module _ (ok : n ≡ 0) where
    both : (fits s ≡ true) × (sound s ≡ true)
    unfolding table_refusal
    both = let h1 = number_0 (fits s) 0 (must (sound s) 2 (gives s)) (sym we ∙ ok) in (h1.0, (number_0 (sound s) 1 (gives s) h1.1).0)

    pub table_good : Good s
    table_good = sound_good s (fits_fit s both.0) both.1

    pub table_goes : {A : Type 0} (x : Outcome A) → on_table s x ≡ x
    table_goes x = must_go (fits s) 1 _ both.0 ∙ must_go (sound s) 2 _ both.1

-- ---- 5

module _ (s : Store) (probe : List ℤ) (n : ℕ) (we : n ≡ table_refusal s) where
  module _ (ok : n ≡ 0) where
    -- 5 is the next test of every call with a probe
    pub aim_stops : {A : Type 0} (x : Outcome A) → (length probe ≡ s.table.d → ⊥) → aimed s probe x ≡ refused 5
    aim_stops x h = table_goes s n we ok _ ∙ must_stop (eqb (length probe) s.table.d) 5 x (ne_eqb (length probe) s.table.d h)

    pub aim_goes : {A : Type 0} (x : Outcome A) → length probe ≡ s.table.d → aimed s probe x ≡ x
    aim_goes x h = table_goes s n we ok _ ∙ must_go (eqb (length probe) s.table.d) 5 x (eq-eqb (length probe) s.table.d h)
