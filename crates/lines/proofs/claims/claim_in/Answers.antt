-- `lines::claims::claim_in` meets its contract: 10 by the layout, or what the frame holds. Assumes nothing.
use native.Mathlib.Omega.{arith}
use mathlib.Core.Path.{refl}
use Rattle.paper.specs.Lines.{claim_at}
use Rattle.line_fields.proofs.PartLaws.{laid_bytes, laid_narrow}
use Rattle.lines.proofs.ClaimTests.{unlaid_claim, claim_read_lem}
use Rattle.lines.proofs.claims.claim_in.Goals as goal

pub returns-then-not-layout_ok : goal.returns-then-not-layout_ok
returns-then-not-layout_ok c = unlaid_claim _ c.requires _ c.layout_ok.ensures c.if-not-layout_ok.true

pub d-d-requires : goal.d-d-requires
d-d-requires c = laid_bytes _ _ _ c.requires _ c.layout_ok.ensures c.if-not-layout_ok.false _ refl _ (omega arith)

pub coords_at-coordinates-requires : goal.coords_at-coordinates-requires
coords_at-coordinates-requires c =
    (laid_bytes _ _ _ c.requires _ c.layout_ok.ensures c.if-not-layout_ok.false _ c.d-d.ensures.value _ (omega arith), laid_narrow _ _ _ c.requires _ c.layout_ok.ensures c.if-not-layout_ok.false _ c.d-d.ensures.value)

pub table-requires : goal.table-requires
table-requires c = laid_bytes _ _ _ c.requires _ c.layout_ok.ensures c.if-not-layout_ok.false _ c.d-d.ensures.value _ (omega arith)

pub measure-requires : goal.measure-requires
measure-requires c = laid_bytes _ _ _ c.requires _ c.layout_ok.ensures c.if-not-layout_ok.false _ c.d-d.ensures.value _ (omega arith)

pub number-requires : goal.number-requires
number-requires c = (laid_bytes _ _ _ c.requires _ c.layout_ok.ensures c.if-not-layout_ok.false _ c.d-d.ensures.value _ (omega arith), omega arith)

pub returns : goal.returns
unfolding claim_at
returns c =
    claim_read_lem _ c.requires _ c.layout_ok.ensures c.if-not-layout_ok.false _
    (rw (c.coords_at-coordinates.ensures, c.table.ensures.value, c.measure.ensures.value, c.d-d.ensures.value, c.number.ensures.value))
