-- One law for each way through making a table and entering a run. Assumes nothing.
use Prim.Native.Nat.{ℕ, ◌+◌, ◌-◌, ◌*◌, ◌<◌, ◌≤◌}
use mathlib.Core.Path.{◌≡◌, refl, sym, ap, ◌∙◌}
use mathlib.Core.Bool.{Bool, true, false}
use mathlib.Core.List.{List}
use native.Mathlib.Omega.{arith}
use lib.Dec.{leb, eqb}
use lib.IntN.{ℤ}
use lib.ListN.{length, take}
use borrow.Author.Tests.{le-leb, lt-leb}
use Rattle.paper.specs.declared.tables.Table.{Table}
use Rattle.paper.specs.Outcomes.{Outcome, refused, gives, must, number, Promise}
use Rattle.paper.specs.Tree.{Store, store, memory, claims_in, fits}
use Rattle.paper.specs.References.{in_force, anew}
use Rattle.paper.specs.Runs.{make_call, added_run, enter_call, entered_shown, put_store}
use Rattle.paper.specs.Calls.{table_refusal}
use Rattle.paper.proofs.Outcomes.{must_stop, must_go, number_is, promise_refused, promise_given}
use Rattle.tree.specs.Soundness.{Good}
use Rattle.tree.proofs.ClaimsInMemory.{references_are}
use Rattle.tree.proofs.RunLaws.{zero_enters, enters_gives}
use Rattle.walk_tested.proofs.TableLaws.{fit_stops, fit_goes, table_refused, table_good, table_goes}

-- ---- [9.4] making

module _ (s : Store) (a : Bool) (ae : a ≡ fits s) where
  pub made_1 : a ≡ false → refused 1 ≡ make_call s
  unfolding make_call
  made_1 h = sym (fit_stops s a ae _ h)

  pub made_table : a ≡ true → gives s.table ≡ make_call s
  unfolding make_call
  made_table h = sym (fit_goes s a ae _ h)

-- ---- [9.6] entering

module _ (s : Store) (given : List ℕ) (points : List ℤ) where
  abbrev call : Outcome Store
  call = enter_call s given points

  -- the call from each of its tests on
  abbrev from_3 : Outcome Store
  from_3 = must (leb (s.table.count + length given) s.table.capacity) 3 (gives (added_run given points (length given) s))

  abbrev from_17 : Outcome Store
  from_17 = must (anew (in_force (claims_in s)) given) 17 from_3

  abbrev from_5 : Outcome Store
  from_5 = must (eqb (length points) (s.table.d * length given)) 5 from_17

  module _ (n : ℕ) (we : n ≡ table_refusal s) where
    pub run_refused : (n ≡ 0 → ⊥) → n ≡ number call
    unfolding enter_call
    run_refused h = sym (ap number (table_refused s n we from_5 h))

    module _ (ok : n ≡ 0) where
      good : Good s
      good = table_good s n we ok

      pub run_wide : 1 ≤ s.table.d
      run_wide = good.fit.range.wide

      pub run_count : s.table.count ≤ s.table.capacity
      run_count = good.count

      pub run_stored : s.table.count ≤ length s.references
      run_stored = omega (arith, good.count, good.fit.references)

      module _ (w : Bool) (we' : w ≡ eqb (length points) (s.table.d * length given)) where
        past_2 : call ≡ from_5
        unfolding enter_call
        past_2 = table_goes s n we ok from_5

        pub run_5 : w ≡ false → 5 ≡ number call
        run_5 h = sym (ap number (past_2 ∙ must_stop (eqb (length points) (s.table.d * length given)) 5 from_17 (sym we' ∙ h)))

        module _ (hw : w ≡ true) (a : Bool) (ae : a ≡ anew (take s.table.count s.references) given) where
          past_5 : call ≡ from_17
          past_5 = past_2 ∙ must_go (eqb (length points) (s.table.d * length given)) 5 from_17 (sym we' ∙ hw)

          -- what was looked at is what is in force
          tested : anew (in_force (claims_in s)) given ≡ a
          tested =
              ap (λ (l : List ℕ). anew l given) (references_are s.table.d s.table.count s.references s.coordinates run_stored) ∙ sym ae

          pub run_17 : a ≡ false → 17 ≡ number call
          run_17 h = sym (ap number (past_5 ∙ must_stop (anew (in_force (claims_in s)) given) 17 from_3 (tested ∙ h)))

          module _ (ha : a ≡ true) where
            past_17 : call ≡ from_3
            past_17 = past_5 ∙ must_go (anew (in_force (claims_in s)) given) 17 from_3 (tested ∙ ha)

            pub run_3 : s.table.capacity - s.table.count < length given → 3 ≡ number call
            run_3 h =
                sym (ap number (past_17 ∙ must_stop (leb (s.table.count + length given) s.table.capacity) 3 _
                (lt-leb (s.table.count + length given) s.table.capacity (omega (arith, run_count)))))

            pub run_0 : length given ≤ s.table.capacity - s.table.count → 0 ≡ number call
            run_0 h =
                sym (ap number (past_17 ∙ must_go (leb (s.table.count + length given) s.table.capacity) 3 _
                (le-leb (s.table.count + length given) s.table.capacity (omega (arith, run_count)))))

  -- refused, or entered
  module _ (why : ℕ) (we : why ≡ number call) where
    pub enter_refused : (why ≡ 0 → ⊥)
        → Promise entered_shown put_store call (memory s.references s.coordinates s.nodes) (refused why) (memory s.references s.coordinates s.nodes)
    enter_refused h = promise_refused entered_shown put_store call _ why (refused why) (number_is call why we h) refl

    pub enter_done : why ≡ 0 → (t : Table) (r : List ℕ) (l : List ℤ) (m : List ℕ) → store t r l m ≡ added_run given points (length given) s
        → Promise entered_shown put_store call (memory s.references s.coordinates s.nodes) (gives t) (memory r l m)
    enter_done z t r l m e =
        let x = zero_enters s given points (sym we ∙ z) in
        promise_given entered_shown put_store call _ (added_run given points (length given) s) (gives t) (memory r l m)
        (enters_gives s given points x)
        (ap (λ (y : Store). gives y.table) e)
        (ap (λ (y : Store). memory y.references y.coordinates y.nodes) e)
