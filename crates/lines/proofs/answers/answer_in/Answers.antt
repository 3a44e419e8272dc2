-- `lines::answers::answer_in` meets its contract: 10 by the layout, by a range or by an item's number, or what the frame holds. Assumes nothing.
use native.Mathlib.Omega.{arith}
use Prim.Native.Nat.{◌+◌, ◌-◌, ◌*◌}
use mathlib.Core.Path.{◌≡◌, refl, sym, ◌∙◌}
use Rattle.line_fields.proofs.PartLaws.{laid_bytes, laid_narrow}
use Rattle.lines.proofs.QueryTests.{query_value}
use Rattle.lines.proofs.AnswerTests.{few_items, unlaid_answer, answer_bytes_lem, answer_out_lem, items_out, answer_read_lem}
use Rattle.lines.proofs.answers.answer_in.Goals as goal

pub returns-then-not-layout_ok : goal.returns-then-not-layout_ok
returns-then-not-layout_ok c = unlaid_answer _ c.requires _ (c.layout_ok.ensures ∙ rw (c.answer_kind.ensures, c.answer_order-order.ensures, c.kind.ensures)) c.if-not-layout_ok.true

pub d-d-requires : goal.d-d-requires
d-d-requires c = laid_bytes _ _ _ c.requires _ c.layout_ok.ensures c.if-not-layout_ok.false _ refl _ (omega arith)

pub scope_at-scope-requires : goal.scope_at-scope-requires
scope_at-scope-requires c = laid_bytes _ _ _ c.requires _ c.layout_ok.ensures c.if-not-layout_ok.false _ c.d-d.ensures.value _ (omega arith)

pub number-last-requires : goal.number-last-requires
number-last-requires c = (laid_bytes _ _ _ c.requires _ c.layout_ok.ensures c.if-not-layout_ok.false _ c.d-d.ensures.value _ (omega arith), omega arith)

pub number-count-requires : goal.number-count-requires
number-count-requires c = (laid_bytes _ _ _ c.requires _ c.layout_ok.ensures c.if-not-layout_ok.false _ c.d-d.ensures.value _ (omega arith), omega arith)

pub returns-then-not-answer_ranges : goal.returns-then-not-answer_ranges
returns-then-not-answer_ranges c =
    answer_out_lem _ c.requires _ (c.layout_ok.ensures ∙ rw (c.answer_kind.ensures, c.answer_order-order.ensures, c.kind.ensures)) c.if-not-layout_ok.false _ c.d-d.ensures.value _ refl _ c.number-count.ensures.value
    _ c.scope_at-scope.ensures _ c.number-last.ensures.value _ c.answer_ranges.ensures c.if-not-answer_ranges.true

pub numbers_ok-requires : goal.numbers_ok-requires
numbers_ok-requires c =
    answer_bytes_lem _ c.requires _ (c.layout_ok.ensures ∙ rw (c.answer_kind.ensures, c.answer_order-order.ensures, c.kind.ensures)) c.if-not-layout_ok.false _ c.d-d.ensures.value _ refl _ c.number-count.ensures.value _ (omega arith)

pub returns-then-not-numbers_ok : goal.returns-then-not-numbers_ok
returns-then-not-numbers_ok c =
    items_out _ c.requires _ (c.layout_ok.ensures ∙ rw (c.answer_kind.ensures, c.answer_order-order.ensures, c.kind.ensures)) c.if-not-layout_ok.false _ c.d-d.ensures.value _ refl _ c.number-count.ensures.value
    _ c.scope_at-scope.ensures _ c.number-last.ensures.value _ c.answer_ranges.ensures c.if-not-answer_ranges.false _ c.numbers_ok.ensures c.if-not-numbers_ok.true

pub coords_at-probe-requires : goal.coords_at-probe-requires
coords_at-probe-requires c =
    (laid_bytes _ _ _ c.requires _ c.layout_ok.ensures c.if-not-layout_ok.false _ c.d-d.ensures.value _ (omega arith), laid_narrow _ _ _ c.requires _ c.layout_ok.ensures c.if-not-layout_ok.false _ c.d-d.ensures.value)

pub table-requires : goal.table-requires
table-requires c = laid_bytes _ _ _ c.requires _ c.layout_ok.ensures c.if-not-layout_ok.false _ c.d-d.ensures.value _ (omega arith)

pub measure-requires : goal.measure-requires
measure-requires c = laid_bytes _ _ _ c.requires _ c.layout_ok.ensures c.if-not-layout_ok.false _ c.d-d.ensures.value _ (omega arith)

pub number-requires : goal.number-requires
number-requires c = (laid_bytes _ _ _ c.requires _ c.layout_ok.ensures c.if-not-layout_ok.false _ c.d-d.ensures.value _ (omega arith), omega arith)

pub items_at-items-requires : goal.items_at-items-requires
items_at-items-requires c =
    let few = few_items _ _ _ (sym c.answer_ranges.ensures ∙ c.if-not-answer_ranges.false) in
    (answer_bytes_lem _ c.requires _ (c.layout_ok.ensures ∙ rw (c.answer_kind.ensures, c.answer_order-order.ensures, c.kind.ensures)) c.if-not-layout_ok.false _ c.d-d.ensures.value _ refl _ c.number-count.ensures.value _ (omega arith), few.1)

pub returns : goal.returns
returns c =
    let reach : 28 + 4 * c.d-d.result - 21 ≡ 7 + 4 * c.d-d.result = omega arith in
    answer_read_lem _ c.requires _ (c.layout_ok.ensures ∙ rw (c.answer_kind.ensures, c.answer_order-order.ensures, c.kind.ensures)) c.if-not-layout_ok.false _ c.d-d.ensures.value _ refl _ c.number-count.ensures.value
    _ c.scope_at-scope.ensures _ c.number-last.ensures.value _ c.answer_ranges.ensures c.if-not-answer_ranges.false _ c.numbers_ok.ensures c.if-not-numbers_ok.false _
    (query_value _ _ _ _ _ _ _ _ c.d-d.ensures.value reach c.table.ensures.value c.measure.ensures.value c.coords_at-probe.ensures c.number.ensures.value
    ∙ rw (c.answer_order-order.ensures, c.kind.ensures)) _ c.items_at-items.ensures
