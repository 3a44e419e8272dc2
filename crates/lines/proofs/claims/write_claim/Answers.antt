use native.Mathlib.Omega.{arith}
use mathlib.Core.Path.{sym, ◌∙◌}
use Rattle.lines.proofs.WritersReaders.{wrote_line, refused_12, refused_10}
use Rattle.lines.proofs.ClaimTests.{claim_fits_lem}
use Rattle.lines.proofs.claims.write_claim.Goals as goal

pub returns-then-out-lt-LONGEST_CLAIM : goal.returns-then-out-lt-LONGEST_CLAIM
returns-then-out-lt-LONGEST_CLAIM c = refused_12 _ _ _ _ (sym c.claim_fits.ensures ∙ c.if-not-claim_fits.false) c.if-out-lt-LONGEST_CLAIM.true

pub fill_claim-requires : goal.fill_claim-requires
fill_claim-requires c =
    let a = c.args in
    let p = claim_fits_lem a.measure a.d a.coords.now (sym c.claim_fits.ensures ∙ c.if-not-claim_fits.false) in
    omega arith

pub returns : goal.returns
returns c =
    let e = c.fill_claim.ensures in
    wrote_line _ _ _ _ _ _ (sym c.claim_fits.ensures ∙ c.if-not-claim_fits.false) c.if-out-lt-LONGEST_CLAIM.false e.0 e.1

pub returns-then-not-claim_fits : goal.returns-then-not-claim_fits
returns-then-not-claim_fits c = refused_10 _ _ _ _ (sym c.claim_fits.ensures ∙ c.if-not-claim_fits.true)
