-- What is promised of a world: lists over a link. Definitions only.
use Rattle.std.specs.Prelude.{ℕ, ◌+◌, ◌≤◌, ◌≡◌, true, false, cond, List, ◌∷◌, ◌++◌, ltb, length, take, drop}
use Rattle.paper.specs.declared.orders.Item.{Item}
use Rattle.paper.specs.Orders.{listed, snapshot_of, page_of, last_of}
use Rattle.paper.specs.Ends.{Ask, Answer, Codec, Table, count, matches, answer_of, Listing, present_ask, sound_in}
use Rattle.journey.specs.World.{World, the_list, asks, receives, takes, next}
use Rattle.paper.specs.Limits.{longest_answer, longest_ask, most_page}

-- [2.5] what is listed at the list's snapshot
abbrev pub all_of : Table → Listing → List Item
all_of t L = listed L.query t.claims L.snapshot

-- [7.12] a list is sound, and the first so many of what is listed at its snapshot
pub record Truthful (t : Table) (L : Listing) : Type 0 where
  pub sound : (room : ℕ) → length L.items ≤ room → sound_in room L ≡ true
  pub held : L.snapshot ≤ count t
  pub front : L.items ≡ take (length L.items) (all_of t L)
  -- [6.2] only a list that is for this table has started
  pub ours : L.started ≡ true → matches t L.query ≡ true

-- [6.3] [7.4] a list's present ask, and its answer from a table, as lines; the answer's items are the page that the ask names
abbrev pub ask_line_of : Codec → Listing → ℕ → List ℕ
ask_line_of c L size = c.ask_line (present_ask L size)

abbrev pub reply_line_of : Codec → Table → Listing → ℕ → List ℕ
reply_line_of c t L size = c.answer_line (answer_of t (present_ask L size))

-- [7.15] an answer by the former rule: called the last just where it has fewer items than were asked for
unfoldable pub former_answer_of : Table → Ask → Answer
former_answer_of t a =
    record {
      query = a.query;
      place = a.place;
      snapshot = snapshot_of a.place (count t);
      last = ltb (length (page_of a.query t.claims a.place a.size)) a.size;
      items = page_of a.query t.claims a.place a.size;
    }

-- [7.8] [4.3] a list that is for this table, is not complete, and may ask for a page of this size
pub record MayAsk (t : Table) (L : Listing) (size : ℕ) : Type 0 where
  pub ours : matches t L.query ≡ true
  pub unfinished : L.complete ≡ false
  pub one : 1 ≤ size
  pub most : size ≤ most_page

-- [7.13] list i writes its present ask in w, and the ask reaches the office in v: each line is what the step adds to the air
pub record Answered (c : Codec) (w v : World) (i size : ℕ) : Type 0 where
  pub written : (room out : ℕ) → length (the_list w i).items ≤ room → longest_ask ≤ out
      → (next c w (asks i size room out)).air ≡ ask_line_of c (the_list w i) size ∷ w.air
  pub answered : (out : ℕ) → longest_answer ≤ out
      → (next c v (receives (ask_line_of c (the_list w i) size) out)).air ≡ reply_line_of c v.table (the_list w i) size ∷ v.air

-- [7.13] how far the answer that table t gives to the present ask of L takes it, where table u is t or has grown from it
pub record Extended (t u : Table) (L : Listing) (size : ℕ) (grown : Listing) : Type 0 where
  -- [7.13] a full page more, or all that is left
  pub more : grown.items ≡ L.items ++ take size (drop (length L.items) (all_of u grown))
  pub front : grown.items ≡ take (length L.items + size) (all_of u grown)
  pub complete : grown.complete ≡ last_of size (drop (length L.items) (all_of u grown))
  pub query : grown.query ≡ L.query
  -- [7.7] the first answer fixes the snapshot
  pub snapshot : grown.snapshot ≡ cond L.started L.snapshot (count t)

-- [7.13] and list i takes this answer in u
pub record Grows (c : Codec) (w v u : World) (i size : ℕ) : Type 0 where
  pub grown : Listing
  pub accepted : (room : ℕ) → length grown.items ≤ room
      → the_list (next c u (takes i room (reply_line_of c v.table (the_list w i) size))) i ≡ grown
  pub extended : Extended v.table u.table (the_list w i) size grown
