use native.Mathlib.Omega.{arith}
use mathlib.Core.Path.{sym, ◌∙◌}
use Rattle.paper.specs.Orders.{query_in}
use Rattle.lines.proofs.WritersReaders.{wrote_line, refused_12, refused_10}
use Rattle.lines.proofs.AnswerTests.{answer_fits_lem}
use Rattle.lines.proofs.answers.write_answer.Goals as goal

pub returns-then-out-lt-LONGEST_ANSWER : goal.returns-then-out-lt-LONGEST_ANSWER
returns-then-out-lt-LONGEST_ANSWER c = refused_12 _ _ _ _ (sym c.answer_fits.ensures ∙ c.if-not-answer_fits.false) c.if-out-lt-LONGEST_ANSWER.true

pub fill_answer-requires : goal.fill_answer-requires
fill_answer-requires c =
    let a = c.args in
    let w = answer_fits_lem (query_in a.q) a.p a.last a.count a.items.now (sym c.answer_fits.ensures ∙ c.if-not-answer_fits.false) in
    omega (arith, w.query.range.narrow)

pub returns : goal.returns
returns c =
    let e = c.fill_answer.ensures in
    wrote_line _ _ _ _ _ _ (sym c.answer_fits.ensures ∙ c.if-not-answer_fits.false) c.if-out-lt-LONGEST_ANSWER.false e.0 e.1

pub returns-then-not-answer_fits : goal.returns-then-not-answer_fits
returns-then-not-answer_fits c = refused_10 _ _ _ _ (sym c.answer_fits.ensures ∙ c.if-not-answer_fits.true)
