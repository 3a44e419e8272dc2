-- References among others, and new ones: what the definitions say position by position. Assumes nothing.
use Prim.Native.Nat.{ℕ, zero, suc, ◌<◌}
use mathlib.Core.Path.{◌≡◌, refl, sym}
use mathlib.Core.Bool.{Bool, true, false, ◌&&◌, ◌||◌, not}
use mathlib.Core.List.{List, [], ◌∷◌, ◌++◌}
use native.Mathlib.Omega.{arith}
use lib.Dec.{eqb}
use Rattle.std.proofs.Common.{append-nil}
use lib.ListN.{length, get_or}
use Rattle.std.specs.List.{fold}
use borrow.Author.Tests.{eq-eqb, ne_eqb, not-true}
use Rattle.paper.specs.References.{is_among, anew}
use Rattle.paper.proofs.Tests.{never, and_first, and_second, or_right}
use Rattle.tree_repeats.specs.NewReferences.{Lacks, NewAt}

-- ---- one reference

pub among_at : (some : List ℕ) (r i : ℕ) → i < length some → get_or some i 0 ≡ r → is_among some r ≡ true
unfolding is_among
among_at [] r i h e = absurd (omega arith)
among_at (x ∷ some) r zero h e = rw (eq-eqb x r e)
among_at (x ∷ some) r (suc i) h e = or_right (eqb x r) (is_among some r) (among_at some r i (omega arith) e)

pub lacks_among : (some : List ℕ) (r : ℕ) → Lacks some r → is_among some r ≡ false
unfolding is_among Lacks
lacks_among [] r none = refl
lacks_among (x ∷ some) r none =
    rw (ne_eqb x r (none 0 (omega arith)))
    (lacks_among some r (λ i h. none (suc i) (omega arith)))

pub among_lacks : (some : List ℕ) (r : ℕ) → is_among some r ≡ false → Lacks some r
unfolding Lacks
among_lacks some r e i h q = never (is_among some r) (among_at some r i h q) e

-- a search of all of them, from what is known before
pub among_folded : (some : List ℕ) (r : ℕ) (known : Bool) → fold (λ (k : Bool) (x : ℕ). k || eqb x r) known some ≡ (known || is_among some r)
unfolding is_among
among_folded [] r true = refl
among_folded [] r false = refl
among_folded (x ∷ some) r true = among_folded some r true
among_folded (x ∷ some) r false = among_folded some r (eqb x r)

-- ---- a run

-- [8.17] a run of one
pub anew_one : (known : List ℕ) (r : ℕ) → anew known (r ∷ []) ≡ not (is_among known r)
unfolding anew is_among
anew_one known r = go (is_among known r)
  where
    go : (b : Bool) → (not b && true) ≡ not b
    go true = refl
    go false = refl

-- [8.17] the test of a run passes just where each of its references is new
pub anew_is : (known run : List ℕ) → anew known run ≡ true → (i : ℕ) → i < length run → NewAt known run i
unfolding anew Lacks
anew_is known [] e i h = absurd (omega arith)
anew_is known (r ∷ run) e zero h =
    let rest = and_second (not (is_among known r)) (not (is_among run r) && anew known run) e in
    let behind = among_lacks run r (not-true (is_among run r) (and_first (not (is_among run r)) (anew known run) rest)) in
    record {
      free = among_lacks known r (not-true (is_among known r) (and_first (not (is_among known r)) _ e));
      once = λ j hj inside q. again behind j hj inside q;
    }
  where
    again : Lacks run r → (j : ℕ) → 0 < j → j < suc (length run) → r ≡ get_or (r ∷ run) j 0 → ⊥
    again behind zero hj inside q = omega arith
    again behind (suc j) hj inside q = behind j (omega arith) (sym q)
anew_is known (r ∷ run) e (suc i) h =
    let rest = and_second (not (is_among known r)) (not (is_among run r) && anew known run) e in
    let n = anew_is known run (and_second (not (is_among run r)) (anew known run) rest) i (omega arith) in
    record { free = n.free; once = λ j hj inside q. again n j hj inside q }
  where
    again : NewAt known run i → (j : ℕ) → suc i < j → j < suc (length run) → get_or run i 0 ≡ get_or (r ∷ run) j 0 → ⊥
    again n zero hj inside q = omega arith
    again n (suc j) hj inside q = n.once j (omega arith) (omega arith) q

-- one whose front is new is so where what is behind the front is
pub anew_further : (known front behind : List ℕ) → ((i : ℕ) → i < length front → NewAt known (front ++ behind) i) → anew known (front ++ behind) ≡ anew known behind
unfolding anew Lacks
anew_further known [] behind new = refl
anew_further known (r ∷ front) behind new =
    let n = new 0 (omega arith) in
    rw (
      lacks_among known r n.free,
      lacks_among (front ++ behind) r (λ i h q. n.once (suc i) (omega arith) (omega arith) (sym q)),
      anew_further known front behind (λ i h. let n = new (suc i) (omega arith) in
          record { free = n.free; once = λ j hj inside q. n.once (suc j) (omega arith) (omega arith) q }),
    )

pub is_anew : (known run : List ℕ) → ((i : ℕ) → i < length run → NewAt known run i) → anew known run ≡ true
unfolding anew
is_anew known run new = rw append-nil at (anew_further known run [] (rw append-nil new))
