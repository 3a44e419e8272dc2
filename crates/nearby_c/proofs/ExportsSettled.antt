-- [9.2] [9.3] What each export that writes lent memory settles: of one outcome and one memory before, its promise allows one result and one memory
-- after, and a refusal keeps the memory. One row for each export, under its name and of the promise that its contract gives. The other exports
-- only read what they are lent, and an equation gives their result, so they need no row. Assumes nothing.
use Prim.Native.Nat.{ℕ}
use mathlib.Core.List.{List}
use Rattle.paper.specs.Outcomes.{number, Promise}
use Rattle.paper.specs.Runs.{entered_shown, put_store}
use Rattle.paper.specs.Calls.{page_shown, put_page}
use Rattle.paper.proofs.Outcomes.{Settled, promise_settled}
use Rattle.c_values.specs.Values.{table_out, filled_out, answered_out, WritesOut}
use Rattle.c_lists.specs.declared.Listing.{Listing}
use Rattle.c_lists.specs.Values.{list_in, TakesOut}
use Rattle.nearby_many.specs.Rows.{instead}
use Rattle.nearby_many.specs.Pages.{PageRooms}
use Rattle.nearby_batch.specs.Batch.{batch_shown, put_batch}

pub nearby_enter : Settled (Promise (λ o. table_out (entered_shown o)) put_store)
nearby_enter = promise_settled _ _

pub nearby_page : Settled (Promise (λ o. filled_out (page_shown o)) put_page)
nearby_page = promise_settled _ _

pub nearby_answer : Settled WritesOut
nearby_answer = promise_settled _ _

pub nearby_write_ask : Settled WritesOut
nearby_write_ask = promise_settled _ _

pub nearby_take : (l : Listing) → Settled (TakesOut (list_in l))
nearby_take l = promise_settled _ _

pub nearby_write_ask_line : Settled WritesOut
nearby_write_ask_line = promise_settled _ _

pub nearby_write_answer_line : Settled WritesOut
nearby_write_answer_line = promise_settled _ _

pub nearby_write_claim_line : Settled WritesOut
nearby_write_claim_line = promise_settled _ _

pub nearby_many_nearest : Settled (Promise {M = List ℕ} number instead)
nearby_many_nearest = promise_settled _ _

pub nearby_many_farthest : Settled (Promise {M = List ℕ} number instead)
nearby_many_farthest = promise_settled _ _

pub nearby_many_pages : Settled (Promise {M = PageRooms} number instead)
nearby_many_pages = promise_settled _ _

pub nearby_many_answers : Settled (Promise (λ o. answered_out (batch_shown o)) put_batch)
nearby_many_answers = promise_settled _ _
