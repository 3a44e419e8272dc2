-- What is promised of lists in lent memory, by the words of journey's promise. Definitions only.
use Rattle.std.specs.Prelude.{ℕ, ◌≤◌, ◌≡◌, true, List, ◌∷◌, length}
use Rattle.paper.specs.Tree.{Store}
use Rattle.paper.specs.Ends.{table_of, Listing}
use Rattle.paper.specs.Lists.{Held, room_for, listing, sound_held}
use Rattle.paper.specs.Codec.{lines}
use Rattle.paper.specs.Limits.{longest_answer, longest_ask}
use Rattle.journey.specs.Promise.{Truthful, ask_line_of, reply_line_of, Extended}
use Rattle.journey_lent.specs.World.{LentWorld, asks, receives, takes, the_held, the_listing, next_lent}

-- [7.12] a list in its room is sound, and the first so many of what is listed at its snapshot
pub record TruthfulHeld (s : Store) (h : Held) : Type 0 where
  pub sound : sound_held h ≡ true
  pub truthful : Truthful (table_of s) (listing h)

-- [7.4] [6.3] the line of list i's present ask in w, and the line that the table in v answers it with
abbrev pub ask_in : LentWorld → ℕ → ℕ → List ℕ
ask_in w i size = ask_line_of lines (the_listing w i) size

abbrev pub reply_in : LentWorld → LentWorld → ℕ → ℕ → List ℕ
reply_in w v i size = reply_line_of lines (table_of v.store) (the_listing w i) size

-- [7.13] list i writes its present ask in w, and the ask reaches the office in v: each line is what the call adds to the air
pub record AnsweredHeld (w v : LentWorld) (i size : ℕ) : Type 0 where
  pub written : (out : ℕ) → longest_ask ≤ out → (next_lent w (asks i size out)).air ≡ ask_in w i size ∷ w.air
  pub answered : (out : ℕ) → longest_answer ≤ out → (next_lent v (receives (ask_in w i size) out)).air ≡ reply_in w v i size ∷ v.air

-- [7.13] and list i takes this answer in u: where its room has place for the grown list, that is what then stands there
pub record GrowsHeld (w v u : LentWorld) (i size : ℕ) : Type 0 where
  pub grown : Listing
  pub accepted : length grown.items ≤ room_for (the_held u i) → the_listing (next_lent u (takes i (reply_in w v i size))) i ≡ grown
  pub extended : Extended (table_of v.store) (table_of u.store) (the_listing w i) size grown
