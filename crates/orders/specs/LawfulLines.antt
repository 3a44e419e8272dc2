-- What the two ends need of their lines: the ranges, and that what is written reads back. Definitions only.
use Rattle.std.specs.Prelude.{ℕ, ◌≤◌, ◌<◌, ◌^◌, ◌≡◌, true, ℤ, length}
use mathlib.Core.List.{List, Memᴰ}
use Rattle.std.specs.Int.Signed.{mag}
use Rattle.paper.specs.declared.orders.Mark.{Mark}
use Rattle.paper.specs.declared.orders.Place.{Place}
use Rattle.paper.specs.declared.orders.Place.TheVariants.{Start, After}
use Rattle.paper.specs.declared.orders.Item.{Item}
use Rattle.paper.specs.Orders.{Query, snapshot_of}
use Rattle.paper.specs.Points.{in_range}
use Rattle.paper.specs.Outcomes.{gives}
use Rattle.paper.specs.Ends.{Ask, Answer, Codec}
use Rattle.paper.specs.Limits.{most_claims, most_page}

-- [1.3] [2.4] [3.1] what the types of a call's arguments say: a table number of 32 bits, a reach of 64, signed coordinates of 32
pub record Typed (q : Query) : Type 0 where
  pub table : q.table < 2 ^ 32
  pub reach : q.reach < 2 ^ 64
  pub probe : (x : ℤ) → Memᴰ x q.probe → mag x < 2 ^ 31

-- [1.3] [1.5] a query in range
pub record QueryInRange (q : Query) : Type 0 where
  pub range : in_range q.measure q.d ≡ true
  pub long : length q.probe ≡ q.d
  pub typed : Typed q

-- [5.9] a snapshot and a mark in range
pub record MarkInRange (n : ℕ) (m : Mark) : Type 0 where
  pub snapshot : n ≤ most_claims
  pub distance : m.distance < 2 ^ 64
  pub number : m.number < most_claims

abbrev pub PlaceInRange : Place → Type 0
PlaceInRange Start = Unit {0}
PlaceInRange (After n m) = MarkInRange n m

-- [4.3] an ask in range
pub record AskInRange (a : Ask) : Type 0 where
  pub query : QueryInRange a.query
  pub place : PlaceInRange a.place
  pub one : 1 ≤ a.size
  pub most : a.size ≤ most_page

-- [1.2] [5.9] an item in range
pub record ItemInRange (x : Item) : Type 0 where
  pub number : x.number < most_claims
  pub reference : x.reference < 2 ^ 32
  pub distance : x.distance < 2 ^ 64

-- [5.9] [6.4] an answer in range; after the start its snapshot is the place's
pub record AnswerInRange (y : Answer) : Type 0 where
  pub query : QueryInRange y.query
  pub place : PlaceInRange y.place
  pub snapshot : y.snapshot ≤ most_claims
  pub used : snapshot_of y.place y.snapshot ≡ y.snapshot
  pub few : length y.items ≤ most_page
  pub items : (x : Item) → Memᴰ x y.items → ItemInRange x

-- [5.13] of a codec, in either order
pub record Lawful (c : Codec) : Type 0 where
  -- what was written reads back, its order too
  pub ask_back : (a : Ask) → AskInRange a → c.read_ask (c.ask_line a) ≡ gives a
  pub answer_back : (y : Answer) → AnswerInRange y → c.read_answer (c.answer_line y) ≡ gives y
  -- what reads is in range
  pub ask_is_ok : (s : List ℕ) (a : Ask) → c.read_ask s ≡ gives a → AskInRange a
  pub answer_is_ok : (s : List ℕ) (y : Answer) → c.read_answer s ≡ gives y → AnswerInRange y
  -- no ask reads as an answer
  pub ask_has_kind : (a : Ask) (z : Answer) → AskInRange a → c.read_answer (c.ask_line a) ≡ gives z → ⊥
