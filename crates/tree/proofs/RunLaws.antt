-- Entering a run: when nothing refuses it, and what it then leaves. Assumes nothing.
use Prim.Native.Nat.{ℕ, ◌+◌, ◌*◌, ◌≤◌}
use mathlib.Core.Path.{◌≡◌, sym, ap, ◌∙◌}
use mathlib.Core.Bool.{true}
use mathlib.Core.List.{List, ◌++◌}
use lib.IntN.{ℤ}
use lib.ListN.{length}
use lib.Dec.{leb, eqb}
use borrow.Author.Tests.{leb-true, eqb-true, le-leb, eq-eqb}
use Rattle.paper.specs.Outcomes.{gives, number}
use Rattle.paper.specs.Tree.{Store, fits, sound, claims_from, claims_in}
use Rattle.paper.specs.References.{in_force, anew}
use Rattle.paper.specs.Runs.{added_run, enter_call}
use Rattle.paper.proofs.Outcomes.{must_go, number_0, same_given}
use Rattle.tree.specs.Soundness.{Good, Roomy}
use Rattle.tree.proofs.TestedTables.{fits_fit, fit_fits, sound_good, good_sound}
use Rattle.tree.proofs.Adding.{run_claims, run_good}

-- nothing refuses the run
pub record Enters (s : Store) (given : List ℕ) (points : List ℤ) : Type 0 where
  pub good : Good s
  pub whole : length points ≡ s.table.d * length given
  pub new : anew (in_force (claims_in s)) given ≡ true
  pub free : s.table.count + length given ≤ s.table.capacity

module _ (s : Store) (given : List ℕ) (points : List ℤ) where
  pub zero_enters : number (enter_call s given points) ≡ 0 → Enters s given points
  unfolding enter_call
  zero_enters z =
      let h1 = number_0 (fits s) 0 _ z in
      let h2 = number_0 (sound s) 1 _ h1.1 in
      let h5 = number_0 (eqb (length points) (s.table.d * length given)) 4 _ h2.1 in
      let h17 = number_0 (anew (in_force (claims_in s)) given) 16 _ h5.1 in
      let h3 = number_0 (leb (s.table.count + length given) s.table.capacity) 2 _ h17.1 in
      record {
        good = sound_good s (fits_fit s h1.0) h2.0;
        whole = eqb-true (length points) (s.table.d * length given) h5.0;
        new = h17.0;
        free = leb-true (s.table.count + length given) s.table.capacity h3.0;
      }

  -- such a run is entered
  pub enters_gives : Enters s given points → enter_call s given points ≡ gives (added_run given points (length given) s)
  unfolding enter_call
  enters_gives h =
      must_go (fits s) 1 _ (fit_fits s h.good.fit)
      ∙ must_go (sound s) 2 _ (good_sound s h.good)
      ∙ must_go (eqb (length points) (s.table.d * length given)) 5 _ (eq-eqb (length points) (s.table.d * length given) h.whole)
      ∙ must_go (anew (in_force (claims_in s)) given) 17 _ h.new
      ∙ must_go (leb (s.table.count + length given) s.table.capacity) 3 _ (le-leb (s.table.count + length given) s.table.capacity h.free)

  -- what entering a run asks of the table
  pub enters_roomy : (why : ℕ) → why ≡ number (enter_call s given points) → why ≡ 0
      → Roomy s (length given) × (length points ≡ s.table.d * length given)
  enters_roomy why we z =
      let e = zero_enters (sym we ∙ z) in (record { good = e.good; free = e.free }, e.whole)

  -- a run that was entered leaves a good table with the old claims and then the run's
  pub entered_good : (x : Store) → enter_call s given points ≡ gives x
      → Good x × (claims_in x ≡ claims_in s ++ claims_from s.table.d (length given) given points)
  entered_good x e =
      let h = zero_enters (ap number e) in
      let q : x ≡ added_run given points (length given) s = same_given _ _ (sym e ∙ enters_gives h) in
      let r : Roomy s (length given) = record { good = h.good; free = h.free } in
      rw q (run_good s given points (length given) r h.whole, run_claims s given points (length given) r h.whole)
