-- Chains of an index: what a search along one has passed, and an index of no reference yet. Assumes nothing.
use Prim.Native.Nat.{ℕ, zero, suc, ◌+◌, ◌<◌, ◌≤◌}
use mathlib.Core.Path.{◌≡◌, refl, sym, ◌∙◌}
use mathlib.Core.Bool.{true, false}
use mathlib.Core.List.{List}
use native.Mathlib.Omega.{arith}
use lib.ListN.{length, get_or, replicate, length-replicate}
use Rattle.paper.specs.Limits.{most_claims}
use Rattle.tree_repeats.specs.NewReferences.{Lacks, Decides}
use Rattle.tree_repeats.specs.Index.{bucket_of, Indexed}
use Rattle.tree_repeats.proofs.EachTested.{tells_no, tells_yes}

-- ---- a search

-- a search for r that has come to x: none of the first i references from x on is r, and x is in r's bucket
pub record Passed (given : List ℕ) (r i x : ℕ) : Type 0 where
  pub before : x ≤ i
  pub none : (j : ℕ) → x ≤ j → j < i → get_or given j 0 ≡ r → ⊥
  pub own : (j : ℕ) → x ≡ j + 1 → bucket_of (get_or given j 0) ≡ bucket_of r

-- r is found, or the search has passed all
pub search_finds : (given : List ℕ) (r x y : ℕ) → x < length given → y ≡ get_or given x 0 → y ≡ r → Decides (Lacks given r) false
unfolding Lacks
search_finds given r x y inside read e = tells_no (λ none. none x inside (sym read ∙ e))

pub search_ends : (given : List ℕ) (r x : ℕ) → Passed given r (length given) x → x ≡ 0 → Decides (Lacks given r) true
unfolding Lacks
search_ends given r x p z = tells_yes (λ j h e. p.none j (omega arith) h e)

-- ---- no reference yet

-- zeros index nothing
zero_at : (n b : ℕ) → ◌≡◌ {A = ℕ} (get_or (replicate n 0) b 0) 0
zero_at zero b = refl
zero_at (suc n) zero = refl
zero_at (suc n) (suc b) = zero_at n b

pub index_none : (n : ℕ) (links given : List ℕ) → most_claims ≤ n → Indexed (replicate n 0) links given 0
index_none n links given wide =
    record {
      wide = rw (length-replicate {A = ℕ} n 0) wide;
      long = omega arith;
      inside = omega arith;
      starts = λ b h. rw (zero_at n b) (record { before = omega arith; none = λ j hx hj e. omega arith; own = λ j e. absurd (omega arith) });
      follows = λ j h. absurd (omega arith);
    }
