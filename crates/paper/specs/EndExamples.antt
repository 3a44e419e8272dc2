-- The two ends by example, with the claims, probe and reach of examples a to j: an ask and an answer in full, and what comes late.
-- Definitions only.
use Rattle.std.specs.Prelude.{ℕ, ◌≡◌, Bool, true, false, List, [], ◌∷◌, ◌++◌}
use Rattle.paper.specs.Points.{Claim}
use Rattle.paper.specs.Outcomes.{Outcome, refused, gives}
use Rattle.paper.specs.Frames.{line_of}
use Rattle.paper.specs.Ends.{Answer, office, answer_to, Listing, fresh, present_ask, taken}
use Rattle.paper.specs.Codec.{lines}
use Rattle.paper.specs.Limits.{longest_answer}
use Rattle.paper.specs.Examples.{claim, five, six, query, table, item, after}

-- the answer to a list's present ask, taken into the list, in a room for so many items
abbrev pub takes_reply : ℕ → Listing → Outcome Answer → Outcome Listing
takes_reply room L (refused n) = refused n
takes_reply room L (gives y) = taken room L y

abbrev pub replies : List Claim → Listing → ℕ → Outcome Answer
replies claims L size = answer_to (table claims) (present_ask L size)

-- the list after its first page of 2
abbrev pub list_after_first : Listing
list_after_first =
    record {
      query = query 5;
      started = true;
      snapshot = 5;
      complete = false;
      items = item 1 102 1 ∷ item 4 105 1 ∷ [];
    }

-- and when all five are in it, complete or not
abbrev pub list_with_all : Bool → Listing
list_with_all complete =
    record {
      query = query 5;
      started = true;
      snapshot = 5;
      complete = complete;
      items = item 1 102 1 ∷ item 4 105 1 ∷ item 0 101 2 ∷ item 3 104 2 ∷ item 2 103 5 ∷ [];
    }

abbrev pub list_after_all : Listing
list_after_all = list_with_all true

-- [7.15] the answer that brings the last three, by the former rule: the page is full, so it is not called the last
abbrev pub former_answer : Answer
former_answer =
    record {
      query = query 5;
      place = after 5 1 4;
      snapshot = 5;
      last = false;
      items = item 0 101 2 ∷ item 3 104 2 ∷ item 2 103 5 ∷ [];
    }

-- [5.5] an ask line: of table 7, near 4 within 5, a page of 2 from the start
abbrev pub sample_ask : List ℕ
sample_ask = line_of (1 ∷ 0 ∷ 0 ∷ 0 ∷ 7 ∷ 1 ∷ 1 ∷ 0 ∷ 0 ∷ 0 ∷ 4 ∷ 0 ∷ 0 ∷ 0 ∷ 0 ∷ 0 ∷ 0 ∷ 0 ∷ 5 ∷ 0 ∷ 0 ∷ 0 ∷ 0 ∷ 0 ∷ 0 ∷ 0 ∷ 0 ∷ 0 ∷ 0 ∷ 0 ∷ 0 ∷ 0 ∷ 2 ∷ [])

-- [5.6] and its answer line: snapshot 5, not the last, claims 1 and 4
abbrev pub sample_answer : List ℕ
sample_answer = line_of (2 ∷ 0 ∷ 0 ∷ 0 ∷ 7 ∷ 1 ∷ 1 ∷ 0 ∷ 0 ∷ 0 ∷ 4 ∷ 0 ∷ 0 ∷ 0 ∷ 0 ∷ 0 ∷ 0 ∷ 0 ∷ 5 ∷ 0 ∷ 0 ∷ 5 ∷ 0 ∷ 0 ∷ 0 ∷ 0 ∷ 0 ∷ 0 ∷ 0 ∷ 0 ∷ 0 ∷ 0 ∷ 0 ∷ 2 ∷ 0 ∷ 1 ∷ 0 ∷ 0 ∷ 0 ∷ 102 ∷ 0 ∷ 0 ∷ 0 ∷ 0 ∷ 0 ∷ 0 ∷ 0 ∷ 1 ∷ 0 ∷ 4 ∷ 0 ∷ 0 ∷ 0 ∷ 105 ∷ 0 ∷ 0 ∷ 0 ∷ 0 ∷ 0 ∷ 0 ∷ 0 ∷ 1 ∷ [])

pub record EndsMarked : Type 0 where
  -- [7.7] [7.8] the first page is taken, and so is the next one
  pub first : takes_reply 5 (fresh (query 5)) (replies five (fresh (query 5)) 2) ≡ gives list_after_first
  pub then : takes_reply 5 list_after_first (replies five list_after_first 4) ≡ gives list_after_all
  -- [4.7] [7.8] a page of exactly all that are left completes the list
  pub exactly : takes_reply 5 list_after_first (replies five list_after_first 3) ≡ gives list_after_all
  -- [7.15] by the former rule the same page does not, though nothing is missing; then an empty page does
  pub former : taken 5 list_after_first former_answer ≡ gives (list_with_all false)
  pub after_former : takes_reply 5 (list_with_all false) (replies five (list_with_all false) 3) ≡ gives list_after_all
  -- [4.5] a claim that was entered after the first page, at distance 2, is in none of the later ones
  pub still : takes_reply 5 list_after_first (replies (five ++ (claim 106 6 ∷ [])) list_after_first 4) ≡ gives list_after_all
  -- [7.5] [8.13] an answer from the start that comes late, with another snapshot
  pub late : takes_reply 5 list_after_first (replies six (fresh (query 5)) 2) ≡ refused 13
  -- [8.15] [8.16] a room that the page does not fit; a list that is complete, before anything else
  pub small : takes_reply 4 list_after_first (replies five list_after_first 4) ≡ refused 15
  pub over : takes_reply 9 list_after_all (replies five (fresh (query 5)) 2) ≡ refused 16
  -- [6.1] the ask line is answered by the answer line
  pub sample : office lines (table five) longest_answer sample_ask ≡ gives sample_answer
