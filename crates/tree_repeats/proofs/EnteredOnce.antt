-- [3.17] A table in which no reference stands twice has none twice after any run. Assumes nothing.
use Prim.Native.Nat.{ℕ, ◌+◌, ◌-◌, ◌<◌, ◌≤◌}
use mathlib.Core.Path.{◌≡◌, refl, ap, ◌∙◌}
use mathlib.Core.Bool.{Bool, true, false}
use mathlib.Core.List.{List, [], ◌++◌}
use native.Mathlib.Omega.{arith}
use native.Mathlib.Nat.{le_refl}
use lib.Dec.{ltb}
use lib.IntN.{ℤ}
use lib.ListN.{length, get_or, length-append, get_or-append}
use lib.Seq.{take-length, get_or-append-add}
use borrow.Author.Tests.{ltb-true, ltb-false}
use Rattle.paper.specs.Outcomes.{gives, number}
use Rattle.paper.specs.Tree.{Store, claims_from, claims_in}
use Rattle.paper.specs.References.{in_force, anew}
use Rattle.paper.specs.Runs.{enter_call}
use Rattle.tree.proofs.ClaimsInMemory.{references_append, references_are}
use Rattle.tree.proofs.RunLaws.{zero_enters, entered_good}
use Rattle.tree_repeats.specs.NewReferences.{Lacks}
use Rattle.tree_repeats.proofs.Among.{anew_is, is_anew}

-- what is new to a list without repeats, behind it
module _ (a b : List ℕ) (first : anew [] a ≡ true) (second : anew a b ≡ true) where
  left : (i : ℕ) → i < length a → get_or (a ++ b) i 0 ≡ get_or a i 0
  left i h = get_or-append a b 0 i h

  right : (i : ℕ) → length a ≤ i → get_or (a ++ b) i 0 ≡ get_or b (i - length a) 0
  right i h =
      let e : i ≡ length a + (i - length a) = omega arith in
      ap (λ (k : ℕ). get_or (a ++ b) k 0) e ∙ get_or-append-add a b (i - length a) 0

  once : (i j : ℕ) → i < j → j < length (a ++ b) → get_or (a ++ b) i 0 ≡ get_or (a ++ b) j 0 → (c d : Bool) → ltb i (length a) ≡ c → ltb j (length a) ≡ d → ⊥
  unfolding Lacks
  once i j h inside e c true p q =
      let hj : j < length a = ltb-true j (length a) q in
      let hi : i < length a = omega arith in
      (anew_is [] a first i hi).once j h hj (rw (← left i hi, ← left j hj) e)
  once i j h inside e true false p q =
      let hi : i < length a = ltb-true i (length a) p in
      let hj : length a ≤ j = ltb-false j (length a) q in
      (anew_is a b second (j - length a) (omega (arith, length-append a b))).free i hi (rw (← left i hi, ← right j hj) e)
  once i j h inside e false false p q =
      let hi : length a ≤ i = ltb-false i (length a) p in
      let hj : length a ≤ j = ltb-false j (length a) q in
      (anew_is a b second (i - length a) (omega (arith, length-append a b))).once (j - length a) (omega arith) (omega (arith, length-append a b))
      (rw (← right i hi, ← right j hj) e)

  anew_behind : anew [] (a ++ b) ≡ true
  unfolding Lacks
  anew_behind =
      is_anew [] (a ++ b) (λ i h.
      record { free = λ k inside. absurd (omega arith); once = λ j l inside e. once i j l inside e (ltb i (length a)) (ltb j (length a)) refl refl })

-- [3.17] entering brings in no reference that is in force, and none twice
pub entered_once : (s : Store) (given : List ℕ) (points : List ℤ) (x : Store) → enter_call s given points ≡ gives x
    → anew [] (in_force (claims_in s)) ≡ true → anew [] (in_force (claims_in x)) ≡ true
entered_once s given points x e once-each =
    let claims = (entered_good s given points x e).1 in
    let new = (zero_enters s given points (ap number e)).new in
    let run : in_force (claims_from s.table.d (length given) given points) ≡ given =
    references_are s.table.d (length given) given points (le_refl (length given)) ∙ take-length given in
    rw (claims, references_append (claims_in s) (claims_from s.table.d (length given) given points), run)
    (anew_behind (in_force (claims_in s)) given once-each new)
