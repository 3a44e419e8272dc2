-- [10.11] The office from its first byte to here, by steps that are what `feed`, `emptied` and `anew` promise. Definitions only.
use Rattle.std.specs.Prelude.{ℕ, ◌≤◌, ◌≡◌, ◌⊎◌, List, [], ◌++◌, length, take, ℤ}
use Rattle.paper.specs.Tree.{Store, store}
use Rattle.paper.specs.Program.{OfficeState, program}
use Rattle.office_serve.specs.declared.feeding.Sitting.{Sitting}
use Rattle.office_serve.specs.Feeding.{Stands, Turning, Moved}
use Rattle.office_session.specs.Sittings.{anew_of, emptied_of, sitting_start}
use Rattle.paper.specs.Limits.{longest_answer}

-- [10.10] the chunk is read, or no line is left to read
abbrev pub Used : List ℕ → Sitting → Type 0
Used chunk sit = (length chunk ≤ sit.at) ⊎ (sit.left ≡ 0)

-- what `feed` promises: from the sitting `sit` and the output room b₀ it read on in the chunk, to the sitting r and the room b
pub record FeedPromise (chunk : List ℕ) (s₀ : Store) (l₀ : List ℕ) (sit : Sitting) (b₀ : List ℕ) (s : Store) (l : List ℕ) (r : Sitting) (b : List ℕ) : Type 0 where
  pub moved : (o : OfficeState) → Stands s₀ l₀ sit o → Moved o chunk sit b₀ s l r b
  pub short : r.written ≤ length b₀
  pub stops : Turning r (length chunk) (length b₀) → ⊥

-- [10.11] what is handed to the writer of a room: its front, as far as the sitting says that it is written
unfoldable pub handed : Sitting → List ℕ → List ℕ
handed r b = take r.written b

-- xs was read, of which the chunk is the last, and ys was handed to the writer
pub data Session : List ℕ → List ℕ → List ℕ → Store → List ℕ → Sitting → Type 0 where
  -- [10.1] before the first byte, whatever the memory holds
  begun : (rf : List ℕ) (ps : List ℤ) (rs l : List ℕ) → length l ≡ longest_answer → Session [] [] [] (store sitting_start.table rf ps rs) l sitting_start
  -- any bytes are the next chunk, once the one before is used
  next : {xs ys c : List ℕ} {s : Store} {l : List ℕ} {sit : Sitting} (chunk : List ℕ) → Session xs ys c s l sit → Used c sit → Session (xs ++ chunk) ys chunk s l (anew_of sit)
  -- a chunk is fed, wherever that stops, and the front of the room is written out
  feeds : {xs ys c : List ℕ} {s₀ s : Store} {l₀ l b₀ b : List ℕ} {sit r : Sitting} → Session xs ys c s₀ l₀ sit → FeedPromise c s₀ l₀ sit b₀ s l r b
      → Session xs (ys ++ handed r b) c s l (emptied_of r)

-- within a chunk: it is the last of xs
pub record InChunk (xs chunk : List ℕ) (s : Store) (l : List ℕ) (sit : Sitting) : Type 0 where
  pub handed_over : List ℕ
  pub session : Session xs handed_over chunk s l sit

-- [10.12] between chunks: xs was read, and its last chunk is used
pub record BetweenReads (xs : List ℕ) (s : Store) (l : List ℕ) (sit : Sitting) : Type 0 where
  pub chunk : List ℕ
  pub within : InChunk xs chunk s l sit
  pub used : Used chunk sit

-- [10.9] [10.11] the input is over, and the front of the room b is what was handed over last: in all it is what the program says to what was read
pub record RanWhole (b : List ℕ) : Type 0 where
  pub read : List ℕ
  pub store : Store
  pub line : List ℕ
  pub sitting : Sitting
  pub answered : BetweenReads read store line sitting
  pub last : ℕ
  pub program_is : answered.within.handed_over ++ take last b ≡ program read
