-- Lines from elsewhere, which a link may carry beside those of a world's own two ends. Definitions only.
use Rattle.std.specs.Prelude.{ℕ, ◌<◌, ◌^◌, ◌≡◌}
use mathlib.Core.List.{List, Memᴰ}
use Rattle.paper.specs.Orders.{query_in}
use Rattle.paper.specs.Outcomes.{gives}
use Rattle.paper.specs.Tree.{Store}
use Rattle.paper.specs.Ends.{Answer}
use Rattle.paper.specs.Lists.{Held, asking_held}
use Rattle.paper.specs.Calls.{office_call}
use Rattle.paper.specs.Codec.{lines, read_answer}
use Rattle.orders.specs.LawfulLines.{Typed}

-- [1.1] what the type of references says: numbers of 32 bits
abbrev pub References : List ℕ → Type 0
References given = (r : ℕ) → Memᴰ r given → r < 2 ^ 32

-- [7.14] lines that do not come from the office of table `number`
pub data Foreign (number : ℕ) : List ℕ → Type 0 where
  -- what an office answers, to whatever line, for any table in lent memory that has another number
  answered : (s : Store) → References s.references → (s.table.number ≡ number → ⊥) → (out : ℕ) (line given : List ℕ)
      → office_call s out line ≡ gives given → Foreign number given
  -- what any list asks, be it for this table or for another
  asked : (h : Held) → Typed (query_in h.list.query) → (size out : ℕ) (given : List ℕ) → asking_held lines h size out ≡ gives given
      → Foreign number given
  -- what reads as no answer: a claim's line, or one that the link broke
  unread : (given : List ℕ) → ((y : Answer) → read_answer given ≡ gives y → ⊥) → Foreign number given
