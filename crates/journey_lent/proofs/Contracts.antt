-- What the public calls promise, by their contracts, is what the steps of a world do. Each law takes the promise that its call's contract
-- states, for whatever result and memory the call gave back, and says that going on with these is the world's step. Assumes nothing.
use Prim.Native.Nat.{ℕ}
use mathlib.Core.Path.{◌≡◌, refl, ap, ◌∙◌}
use mathlib.Core.Bool.{Bool, true, false}
use mathlib.Core.List.{List}
use native.Mathlib.Omega.{arith}
use lib.Dec.{eqb}
use lib.IntN.{ℤ}
use lib.ListN.{length, drop}
use lib.Seq.{take_at}
use borrow.Author.Tests.{le-leb}
use Rattle.paper.specs.declared.lists.List as lists
use Rattle.paper.specs.declared.tables.Table.{Table}
use Rattle.paper.specs.Lines.{Writes}
use Rattle.paper.specs.Orders.{Query}
use Rattle.paper.specs.Outcomes.{Outcome, refused, gives, must, onto, leaves, Promise}
use Rattle.paper.specs.Points.{in_range}
use Rattle.paper.specs.Tree.{built, Store, store, Memory, fits, same_front, afresh, sound}
use Rattle.paper.specs.Runs.{empty_table, make_call, enter_call, entered_shown, put_store}
use Rattle.paper.specs.Ends.{Listing, fresh, opening}
use Rattle.paper.specs.Lists.{held, Takes, opened_as, opening_held, asking_held, taking_held, held_after}
use Rattle.paper.specs.Calls.{table_refusal, office_call}
use Rattle.paper.specs.Codec.{lines}
use Rattle.journey_lent.specs.World.{LentWorld, enters, opens, asks, receives, takes, the_held, put_table, put_list, put_in_air, next_lent}
use Rattle.journey_lent.specs.After.{lent_to, after_enter, after_open, after_line, after_take}

-- ---- one call that enters, opens, writes or takes, whatever its outcome

entered_step : (w : LentWorld) (o : Outcome Store) (r : Outcome Table) (after : Memory) → Promise entered_shown put_store o (lent_to w.store) r after
    → after_enter w r after ≡ leaves put_table o w
entered_step w (refused n) r after p = rw (p.result, p.memory)
entered_step w (gives s) r after p = rw (p.result, p.memory)

written_step : (w : LentWorld) (o : Outcome (List ℕ)) (before : List ℕ) (r : Outcome ℕ) (after : List ℕ) → Writes o before r after
    → after_line w r after ≡ leaves put_in_air o w
written_step w (refused n) before r after p = rw p.result
written_step w (gives line) before r after p =
    rw (p.result, p.memory) (ap (λ (x : List ℕ). put_in_air x w) (take_at line (drop (length line) before) (length line) refl))

opened_step : (w : LentWorld) (room : List ℕ) (q : Query) (a b : Bool)
    → after_open w room (onto (must a 1 (must b 5 (gives (fresh q)))) (λ (L : Listing). gives (opened_as q)))
    ≡ leaves (put_list room) (onto (must a 1 (must b 5 (gives (fresh q)))) (λ (L : Listing). gives (opened_as q))) w
opened_step w room q false b = refl
opened_step w room q true false = refl
opened_step w room q true true = refl

-- ---- the calls

module _ (w : LentWorld) where
  -- [9.6] `enter`
  pub entering_steps : (given : List ℕ) (points : List ℤ) (r : Outcome Table) (after : Memory)
      → Promise entered_shown put_store (enter_call w.store given points) (lent_to w.store) r after → after_enter w r after ≡ next_lent w (enters given points)
  unfolding next_lent
  entering_steps given points r after p = entered_step w _ r after p

  -- [9.11] `open_list`
  pub opening_steps : (q : Query) (room : List ℕ) (r : Outcome lists.List) → r ≡ opening_held q → after_open w room r ≡ next_lent w (opens q room)
  unfolding next_lent opening_held opening
  opening_steps q room r p = ap (after_open w room) p ∙ opened_step w room q (in_range q.measure q.d) (eqb (length q.probe) q.d)

  -- [9.12] `write_ask`
  pub asking_steps : (i size : ℕ) (out : List ℕ) (r : Outcome ℕ) (after : List ℕ)
      → Writes (asking_held lines (held (the_held w i).list (the_held w i).room) size (length out)) out r after
      → after_line w r after ≡ next_lent w (asks i size (length out))
  unfolding next_lent
  asking_steps i size out r after p = written_step w _ out r after p

  -- [9.10] `answer`
  pub answering_steps : (line out : List ℕ) (r : Outcome ℕ) (after : List ℕ) → Writes (office_call w.store (length out) line) out r after
      → after_line w r after ≡ next_lent w (receives line (length out))
  unfolding next_lent
  answering_steps line out r after p = written_step w _ out r after p

  -- [9.13] `take`
  pub taking_steps : (i : ℕ) (line : List ℕ) (r : Outcome lists.List) (after : List ℕ)
      → Takes (the_held w i).list (taking_held lines (held (the_held w i).list (the_held w i).room) line) (the_held w i).room r after
      → after_take w i r after ≡ next_lent w (takes i line)
  unfolding next_lent held_after
  taking_steps i line r after p = λ j. after_take w i (p.result j) (p.memory j)

-- ---- [9.4] a table that `make_table` gives is one that a world may begin with

module _ (number measure d capacity : ℕ) (references : List ℕ) (coordinates : List ℤ) (nodes : List ℕ) where
  abbrev made : Store
  made = store (empty_table number measure d capacity) references coordinates nodes

  pub a_made_table_may_begin : (t : Table) → gives t ≡ make_call made → table_refusal (store t references coordinates nodes) ≡ 0
  unfolding make_call
  a_made_table_may_begin t p = go (fits made) refl p
    where
      go : (b : Bool) → fits made ≡ b → gives t ≡ must b 1 (gives made.table) → table_refusal (store t references coordinates nodes) ≡ 0
      go true e q =
          let is : t ≡ made.table = cc in
          rw is (unfold table_refusal sound afresh built same_front in rw (e, le-leb 0 capacity (omega arith)))
      go false e q = absurd (let z : ◌≡◌ {A = ℕ} 0 1 = cc in omega arith)
