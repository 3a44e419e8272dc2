-- `lines::asks::ask_in` meets its contract: 10 by the layout or by a range, or what the frame holds. Assumes nothing.
use native.Mathlib.Omega.{arith}
use mathlib.Core.Path.{refl, ◌∙◌}
use Rattle.line_fields.proofs.PartLaws.{laid_bytes, laid_narrow}
use Rattle.lines.proofs.QueryTests.{query_value}
use Rattle.lines.proofs.AskTests.{unlaid_ask, ask_out_lem, ask_read_lem}
use Rattle.lines.proofs.asks.ask_in.Goals as goal

pub returns-then-not-layout_ok : goal.returns-then-not-layout_ok
returns-then-not-layout_ok c = unlaid_ask _ c.requires _ (c.layout_ok.ensures ∙ rw (c.ask_kind.ensures, c.ask_order-order.ensures, c.kind.ensures)) c.if-not-layout_ok.true

pub d-d-requires : goal.d-d-requires
d-d-requires c = laid_bytes _ _ _ c.requires _ c.layout_ok.ensures c.if-not-layout_ok.false _ refl _ (omega arith)

pub scope_at-scope-requires : goal.scope_at-scope-requires
scope_at-scope-requires c = laid_bytes _ _ _ c.requires _ c.layout_ok.ensures c.if-not-layout_ok.false _ c.d-d.ensures.value _ (omega arith)

pub number-size-requires : goal.number-size-requires
number-size-requires c = (laid_bytes _ _ _ c.requires _ c.layout_ok.ensures c.if-not-layout_ok.false _ c.d-d.ensures.value _ (omega arith), omega arith)

pub returns-then-not-ask_ranges : goal.returns-then-not-ask_ranges
returns-then-not-ask_ranges c =
    ask_out_lem _ c.requires _ (c.layout_ok.ensures ∙ rw (c.ask_kind.ensures, c.ask_order-order.ensures, c.kind.ensures)) c.if-not-layout_ok.false _ c.d-d.ensures.value _ refl
    _ c.scope_at-scope.ensures _ c.number-size.ensures.value _ c.ask_ranges.ensures c.if-not-ask_ranges.true

pub coords_at-probe-requires : goal.coords_at-probe-requires
coords_at-probe-requires c =
    (laid_bytes _ _ _ c.requires _ c.layout_ok.ensures c.if-not-layout_ok.false _ c.d-d.ensures.value _ (omega arith), laid_narrow _ _ _ c.requires _ c.layout_ok.ensures c.if-not-layout_ok.false _ c.d-d.ensures.value)

pub table-requires : goal.table-requires
table-requires c = laid_bytes _ _ _ c.requires _ c.layout_ok.ensures c.if-not-layout_ok.false _ c.d-d.ensures.value _ (omega arith)

pub measure-requires : goal.measure-requires
measure-requires c = laid_bytes _ _ _ c.requires _ c.layout_ok.ensures c.if-not-layout_ok.false _ c.d-d.ensures.value _ (omega arith)

pub number-requires : goal.number-requires
number-requires c = (laid_bytes _ _ _ c.requires _ c.layout_ok.ensures c.if-not-layout_ok.false _ c.d-d.ensures.value _ (omega arith), omega arith)

pub returns : goal.returns
returns c =
    ask_read_lem _ c.requires _ (c.layout_ok.ensures ∙ rw (c.ask_kind.ensures, c.ask_order-order.ensures, c.kind.ensures)) c.if-not-layout_ok.false _ c.d-d.ensures.value _ refl
    _ c.scope_at-scope.ensures _ c.number-size.ensures.value _ c.ask_ranges.ensures c.if-not-ask_ranges.false _
    (query_value _ _ _ _ _ _ _ _ c.d-d.ensures.value refl c.table.ensures.value c.measure.ensures.value c.coords_at-probe.ensures c.number.ensures.value
    ∙ rw (c.ask_order-order.ensures, c.kind.ensures))
