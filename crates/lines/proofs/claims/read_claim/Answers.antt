-- `lines::claims::read_claim` meets its contract: 9, or what a sound line holds. Assumes nothing.
use mathlib.Core.Path.{sym, ◌∙◌}
use Rattle.lines.proofs.WritersReaders.{reads_9}
use Rattle.paper.specs.Lines.{claim_ok, claim_at, read_as_claim}
use Rattle.lines.proofs.claims.read_claim.Goals as goal

pub claim_in-requires : goal.claim_in-requires
claim_in-requires c = sym c.is_sound.ensures ∙ c.if-not-is_sound.false

pub returns-then-not-is_sound : goal.returns-then-not-is_sound
unfolding read_as_claim
returns-then-not-is_sound c = sym (reads_9 claim_ok claim_at _ (sym c.is_sound.ensures ∙ c.if-not-is_sound.true))
