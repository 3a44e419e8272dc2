-- 4 is retired: no call of `nearby` tells it, nor does the program of a claim or an ask. Assumes nothing.
use Prim.Native.Nat.{ℕ}
use mathlib.Core.Path.{◌≡◌, refl}
use mathlib.Core.Bool.{Bool}
use mathlib.Core.List.{List}
use native.Mathlib.Omega.{arith}
use lib.IntN.{ℤ}
use Rattle.paper.specs.declared.orders.Order.{Order}
use Rattle.paper.specs.declared.orders.Place.{Place}
use Rattle.paper.specs.declared.lines.ClaimLine.{ClaimLine}
use Rattle.paper.specs.Orders.{Query}
use Rattle.paper.specs.Tree.{Store, fits, sound}
use Rattle.paper.specs.Lines.{bare_line, reading, read_as_ask, read_as_answer, read_as_claim}
use Rattle.paper.specs.Ends.{Ask, Table, answer_to, line_answered, opening, asking, taken, taking}
use Rattle.paper.specs.Codec.{lines, read_ask, read_answer}
use Rattle.paper.specs.Lists.{Held, opening_held, asking_held, taking_held}
use Rattle.paper.specs.Runs.{make_call, enter_call}
use Rattle.paper.specs.Calls.{table_refusal, nearest_call, farthest_call, page_call, office_call}
use Rattle.paper.specs.Program.{Books, closed, opened, claim_entering, reply_to, reply}
use Rattle.paper.proofs.Outcomes.{Untold, must_untold, onto_untold, gives_untold, untold}

-- [8.4] no call tells the number r
pub record NoCallTells (r : ℕ) : Type 0 where
  pub make_table : (s : Store) → Untold r (make_call s)
  pub table_refusal_lem : (s : Store) → table_refusal s ≡ r → ⊥
  pub enter : (s : Store) (given : List ℕ) (points : List ℤ) → Untold r (enter_call s given points)
  pub nearest : (s : Store) (probe : List ℤ) (reach : ℕ) → Untold r (nearest_call s probe reach)
  pub farthest : (s : Store) (probe : List ℤ) → Untold r (farthest_call s probe)
  pub page : (s : Store) (order : Order) (probe : List ℤ) (reach : ℕ) (place : Place) (size room : ℕ)
      → Untold r (page_call s order probe reach place size room)
  pub answer : (s : Store) (out : ℕ) (line : List ℕ) → Untold r (office_call s out line)
  pub open_list : (q : Query) → Untold r (opening_held q)
  pub write_ask : (h : Held) (size out : ℕ) → Untold r (asking_held lines h size out)
  pub take : (h : Held) (line : List ℕ) → Untold r (taking_held lines h line)
  pub write_line : (fits : Bool) (need : ℕ) (f : List ℕ) (out : ℕ) → Untold r (bare_line fits need f out)
  pub read_ask_lem : (l : List ℕ) → Untold r (read_as_ask l)
  pub read_answer_lem : (l : List ℕ) → Untold r (read_as_answer l)
  pub read_claim : (l : List ℕ) → Untold r (read_as_claim l)
  -- [10.6] the program, of a claim and of an ask; what is neither it refuses under 9 or 10
  pub enter_line : (t : Table) (c : ClaimLine) → Untold r (claim_entering t c)
  pub answer_ask : (b : Books) (a : Ask) → Untold r (reply b a)

-- ---- one test after another

-- an ask, by the table that it reaches
answered : (t : Table) (a : Ask) → Untold 4 (answer_to t a)
unfolding answer_to
answered t a = search untold depth 8

-- the same of the program, which has no table before the first claim
replied : (b : Books) (a : Ask) → Untold 4 (reply b a)
unfolding reply reply_to
replied closed a = record { other = λ e. omega arith }
replied (opened t) a = onto_untold 4 (answer_to t a) _ (answered t a) (λ y. gives_untold 4 _ refl)

pub four_is_retired : NoCallTells 4
unfolding reading make_call table_refusal enter_call nearest_call farthest_call page_call office_call line_answered read_ask opening_held opening asking_held asking
    taking_held taking taken read_answer bare_line read_as_ask read_as_answer read_as_claim claim_entering
four_is_retired =
    record {
      make_table = λ s. search untold depth 12;
      table_refusal_lem = λ s. (must_untold 4 (fits s) 1 _ refl (must_untold 4 (sound s) 2 _ refl (gives_untold 4 s refl))).other;
      enter = λ s g p. search untold depth 12;
      nearest = λ s p r. search untold depth 12;
      farthest = λ s p. search untold depth 12;
      page = λ s o p r at n room. search untold depth 12;
      answer = λ s out l. search (untold, answered) depth 12;
      open_list = λ q. search untold depth 12;
      write_ask = λ h n out. search untold depth 12;
      take = λ h l. search untold depth 12;
      write_line = λ b need f out. search untold depth 12;
      read_ask_lem = λ l. search untold depth 12;
      read_answer_lem = λ l. search untold depth 12;
      read_claim = λ l. search untold depth 12;
      enter_line = λ t c. search untold depth 12;
      answer_ask = replied;
    }
