-- An index of references by buckets. Definitions only.
use Rattle.std.specs.Prelude.{ℕ, ◌+◌, ◌*◌, ◌/◌, ◌%◌, ◌<◌, ◌≤◌, ◌≡◌, List, length, get_or}
use Rattle.paper.specs.Limits.{most_claims}

-- the bucket of a reference; there are as many as a table has claims
unfoldable pub bucket_of : ℕ → ℕ
bucket_of r = r % 4294967296 * 2654435761 / 1048576 % most_claims

-- x leads to the last of the first i references that is in bucket b, by its position plus one; it is 0 where none is
pub record Leads (given : List ℕ) (b i x : ℕ) : Type 0 where
  pub before : x ≤ i
  pub none : (j : ℕ) → x ≤ j → j < i → bucket_of (get_or given j 0) ≡ b → ⊥
  pub own : (j : ℕ) → x ≡ j + 1 → bucket_of (get_or given j 0) ≡ b

-- the first i references are indexed: a bucket's head leads to the last of them, and the link of each to the one before it in its bucket
pub record Indexed (heads links given : List ℕ) (i : ℕ) : Type 0 where
  pub wide : most_claims ≤ length heads
  pub long : i ≤ length links
  pub inside : i ≤ length given
  pub starts : (b : ℕ) → b < most_claims → Leads given b i (get_or heads b 0)
  pub follows : (j : ℕ) → j < i → Leads given (bucket_of (get_or given j 0)) j (get_or links j 0)
