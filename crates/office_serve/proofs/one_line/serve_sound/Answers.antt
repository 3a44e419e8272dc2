-- `office_serve::one_line::serve_sound` meets its contract: a claim, an ask, or 10. Assumes nothing.
use mathlib.Core.Path.{sym}
use Rattle.end_office.proofs.AnswerToAsk.{line_given}
use Rattle.office_serve.proofs.OneLineServed.{claim_range, line_claim, line_ask, line_none}
use Rattle.office_serve.proofs.one_line.serve_sound.Goals as goal

pub take_claim-requires : goal.take_claim-requires
take_claim-requires c = record { serving = c.requires.0; range = claim_range _ _ (sym c.in-Ok.ensures) }

pub returns-in-Ok : goal.returns-in-Ok
returns-in-Ok c = line_claim _ _ _ _ _ _ c.requires.1 _ (sym c.in-Ok.ensures) _ c.take_claim.ensures

pub take_ask-requires : goal.take_ask-requires
take_ask-requires c = rw c.new.ensures (record { serving = c.requires.0; ask = line_given _ _ (sym c.in-Ok-ask_in.ensures) })

pub returns-in-Ok-ask_in : goal.returns-in-Ok-ask_in
returns-in-Ok-ask_in c = line_ask _ _ _ _ _ _ c.requires.1 _ (sym c.in-Err.ensures) c.requires.0.ready _ (sym c.in-Ok-ask_in.ensures) (rw c.new.ensures at c.take_ask.ensures)

pub returns-in-Err-ask_in : goal.returns-in-Err-ask_in
returns-in-Err-ask_in c = line_none _ _ _ _ _ _ c.requires.1 _ (sym c.in-Err.ensures) c.requires.0.ready _ (sym c.in-Err-ask_in.ensures) c.refuse.ensures
