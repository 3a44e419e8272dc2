-- The coordinates of two points, taken side by side. Assumes nothing.
use Prim.Native.Nat.{ℕ, ◌+◌, ◌-◌, ◌≤◌, ◌<◌}
use mathlib.Core.Path.{◌≡◌, ◌∙◌}
use mathlib.Core.List.{List}
use native.Mathlib.Omega.{arith}
use denote.Ref.{Bor}
use lib.IntN.{ℤ, pos}
use lib.ListN.{length, get_or, take, drop}
use Rattle.std.specs.declared.iter.Zip.{Zip}
use Rattle.std.specs.declared.slice.Iter.{Iter}
use Rattle.std.specs.declared.option.Option.{Option}
use Rattle.std.specs.declared.option.Option.TheVariants.{None, Some}
use Rattle.std.specs.Iterator.{Yields}
use Rattle.std.specs.Iterator.Adapters.{zip_first, zip_second}
use Rattle.std.specs.Slice.Iter.{iter_rest}
use Rattle.std.proofs.iter.Yields.{fronts}
use Rattle.std.proofs.lemmas.Iterator.{zips}
use Rattle.std.proofs.lemmas.List.{get_or-take, length-take, length-drop}
use Rattle.std.proofs.lemmas.Slice.Zip.{zip_turn, zip_end}

-- d coordinates as a part of lent memory
abbrev pub part : ℕ → ℕ → List ℤ → List ℤ
part at d a = take (at + d - at) (drop at a)

-- a loop over both parts that has yielded xs
module _ (at bt d : ℕ) (a b : List ℤ) (xs : List (Bor ℤ × Bor ℤ)) (s t u : Zip (Iter ℤ) (Iter ℤ)) (r : Option (Bor ℤ × Bor ℤ)) (first : iter_rest (zip_first s) ≡ part at d a) (second : iter_rest (zip_second s) ≡ part bt d b)
    (y : Yields (zips fronts fronts) s xs t) where
  -- which coordinates it yields now
  pub side_by_side : (p : Bor ℤ × Bor ℤ) → r ≡ Some p → zips fronts fronts t r u
      → (length xs < d) × (p.0.now ≡ get_or (drop at a) (length xs) (pos 0)) × (p.1.now ≡ get_or (drop bt b) (length xs) (pos 0))
  side_by_side p e z =
      let w = zip_turn (part at d a) (part bt d b) xs s t u r first second y p e z in
      let i : length xs < at + d - at = omega (arith, length-take (at + d - at) (drop at a), w.0) in
      let j : length xs < bt + d - bt = omega arith in (
        omega arith,
        w.2 (pos 0) ∙ get_or-take (at + d - at) (drop at a) (length xs) (pos 0) i,
        w.3 (pos 0) ∙ get_or-take (bt + d - bt) (drop bt b) (length xs) (pos 0) j,
      )

  -- that it has yielded all
  pub side_by_side_all : at + d ≤ length a → bt + d ≤ length b → r ≡ None → zips fronts fronts t r u → length xs ≡ d
  side_by_side_all h k e z =
      let w = zip_end (part at d a) (part bt d b) xs s t u r first second y e z in
      omega (arith, length-take (at + d - at) (drop at a), length-take (bt + d - bt) (drop bt b), length-drop at a, length-drop bt b)
