-- A window of a run: its references are new just where its index tells so. Assumes nothing.
use Prim.Native.Nat.{ℕ, ◌+◌, ◌-◌, ◌<◌, ◌≤◌}
use mathlib.Core.Path.{◌≡◌, refl, sym, ◌∙◌}
use mathlib.Core.Bool.{Bool, true, false}
use mathlib.Core.List.{List, [], ◌∷◌, ◌++◌}
use native.Mathlib.Omega.{arith}
use lib.Dec.{ltb}
use lib.ListN.{length, get_or, take, drop, length-append, get_or-append}
use lib.Seq.{get_or-take, length-take-le, get_or-append-add}
use Rattle.std.proofs.Common.{take-append-drop}
use borrow.Author.Tests.{ltb-true, ltb-false}
use Rattle.paper.specs.Tree.{reference_at}
use Rattle.paper.specs.References.{anew}
use Rattle.paper.proofs.Tests.{refuted}
use Rattle.tree_repeats.specs.NewReferences.{Lacks, Differ, NewAt}
use Rattle.tree_repeats.proofs.Among.{anew_is, anew_further}

-- the references of a window are new, before those behind it
abbrev pub AllNew : List ℕ → List ℕ → List ℕ → Type 0
AllNew known window behind = (i : ℕ) → i < length window → NewAt known (window ++ behind) i

module _ (known window behind : List ℕ) where
  first : (i : ℕ) → i < length window → get_or (window ++ behind) i 0 ≡ get_or window i 0
  first i h = get_or-append window behind 0 i h

  second : (k : ℕ) → get_or (window ++ behind) (length window + k) 0 ≡ get_or behind k 0
  second k = get_or-append-add window behind k 0

  pub new_differ : AllNew known window behind → Differ window
  unfolding Differ Lacks
  new_differ new j hj i hi e =
      let l : i < j = omega (arith, length-take-le j window (omega arith)) in
      (new i (omega arith)).once j l (omega (arith, length-append window behind)) (first i (omega arith) ∙ sym (get_or-take j window i 0 l) ∙ e ∙ sym (first j hj))

  pub new_known : AllNew known window behind → (k : ℕ) → k < length known → Lacks window (reference_at known k)
  unfolding Lacks
  new_known new k hk i hi e = (new i hi).free k hk (sym e ∙ sym (first i hi))

  pub new_behind : AllNew known window behind → (k : ℕ) → k < length behind → Lacks window (reference_at behind k)
  unfolding Lacks
  new_behind new k hk i hi e =
      (new i hi).once (length window + k) (omega arith) (omega (arith, length-append window behind)) (first i hi ∙ e ∙ sym (second k))

  -- and the other way round
  module _ (differ : Differ window) (free : (k : ℕ) → k < length known → Lacks window (reference_at known k))
      (apart : (k : ℕ) → k < length behind → Lacks window (reference_at behind k)) where
    once : (i j : ℕ) → i < length window → i < j → j < length (window ++ behind) → get_or (window ++ behind) i 0 ≡ get_or (window ++ behind) j 0 → (b : Bool) → ltb j (length window) ≡ b → ⊥
    unfolding Differ Lacks
    once i j h hj inside e true t =
        let l : j < length window = ltb-true j (length window) t in
        differ j l i (omega (arith, length-take-le j window (omega arith))) (get_or-take j window i 0 hj ∙ sym (first i h) ∙ e ∙ first j l)
    once i j h hj inside e false t =
        let l : length window ≤ j = ltb-false j (length window) t in
        let q : length window + (j - length window) ≡ j = omega arith in
        apart (j - length window) (omega (arith, length-append window behind)) i h (sym (first i h) ∙ e ∙ rw q at (second (j - length window)))

    pub window_new : AllNew known window behind
    unfolding Lacks
    window_new i h =
        record { free = λ k hk e. free k hk i h (sym (first i h) ∙ sym e); once = λ j hj inside e. once i j h hj inside e (ltb j (length window)) refl }

-- a window that is new leaves what is behind it to decide, and one that is not decides
pub anew_not : (known window behind : List ℕ) → (AllNew known window behind → ⊥) → anew known (window ++ behind) ≡ false
anew_not known window behind fails = refuted _ (λ e. fails (λ i h. anew_is known (window ++ behind) e i (omega (arith, length-append window behind))))

-- the same of a window that was split from the rest of a run
module _ (known window behind rest : List ℕ) (m : ℕ) (front : window ≡ take m rest) (back : behind ≡ drop m rest) where
  whole : window ++ behind ≡ rest
  whole = rw (front, back) (take-append-drop m rest)

  pub rest_further : AllNew known window behind → anew known rest ≡ anew known behind
  rest_further new = rw whole at (anew_further known window behind new)

  pub rest_not : (AllNew known window behind → ⊥) → anew known rest ≡ false
  rest_not fails = rw whole at (anew_not known window behind fails)

pub none_left : (known rest : List ℕ) → length rest ≡ 0 → anew known rest ≡ true
unfolding anew
none_left known [] e = refl
none_left known (r ∷ rest) e = absurd (omega arith)
