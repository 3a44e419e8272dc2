-- `lines::answers::layout_ok` meets its contract: its length says how many items it has. Assumes nothing.
use Prim.Native.Nat.{ℕ, ◌+◌, ◌*◌}
use native.Mathlib.Omega.{arith}
use mathlib.Core.Path.{◌≡◌, sym, ap, ◌∙◌}
use lib.ListN.{drop}
use Rattle.paper.specs.Frames.{num, frame_of}
use Rattle.paper.specs.Lines.{count_in}
use Rattle.paper.proofs.Tests.{refuted}
use Rattle.line_fields.specs.Layout.{laid_out}
use Rattle.line_fields.proofs.PartLaws.{laid_is}
use Rattle.lines.proofs.AnswerTests.{count_at}
use Rattle.lines.proofs.answers.layout_ok.Goals as goal

pub returns-then-n-lt30 : goal.returns-then-n-lt30
returns-then-n-lt30 c =
    let a = c.args in
    let f = frame_of a.line.now in
    sym (refuted (laid_out a.kind (30 + 14 * count_in f) f) (λ e. let p = laid_is a.kind (30 + 14 * count_in f) f e in omega (arith, p.1)))

pub returns-then-n-at : goal.returns-then-n-at
returns-then-n-at c =
    let a = c.args in
    let f = frame_of a.line.now in
    sym (refuted (laid_out a.kind (30 + 14 * count_in f) f) (λ e. let p = laid_is a.kind (30 + 14 * count_in f) f e in omega (arith, p.1)))

pub returns : goal.returns
returns c =
    let a = c.args in
    let f = frame_of a.line.now in
    let place : 28 + 4 * c.d.result ≡ 28 + 4 * num 1 (drop 6 f) = omega (arith, c.d.ensures.value) in
    c.layout_ok.ensures ∙ ap (λ (n : ℕ). laid_out a.kind (30 + 14 * n) f) (c.number-count.ensures.value ∙ sym (count_at f _ place))
