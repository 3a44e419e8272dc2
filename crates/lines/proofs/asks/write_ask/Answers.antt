use native.Mathlib.Omega.{arith}
use mathlib.Core.Path.{sym, ◌∙◌}
use Rattle.paper.specs.Orders.{query_in}
use Rattle.lines.proofs.WritersReaders.{wrote_line, refused_12, refused_10}
use Rattle.lines.proofs.AskTests.{ask_fits_lem}
use Rattle.lines.proofs.asks.write_ask.Goals as goal

pub returns-then-out-lt-LONGEST_ASK : goal.returns-then-out-lt-LONGEST_ASK
returns-then-out-lt-LONGEST_ASK c = refused_12 _ _ _ _ (sym c.ask_fits.ensures ∙ c.if-not-ask_fits.false) c.if-out-lt-LONGEST_ASK.true

pub fill_ask-requires : goal.fill_ask-requires
fill_ask-requires c =
    let a = c.args in
    let w = ask_fits_lem (query_in a.q) a.p a.size (sym c.ask_fits.ensures ∙ c.if-not-ask_fits.false) in
    omega (arith, w.query.range.narrow)

pub returns : goal.returns
returns c =
    let e = c.fill_ask.ensures in
    wrote_line _ _ _ _ _ _ (sym c.ask_fits.ensures ∙ c.if-not-ask_fits.false) c.if-out-lt-LONGEST_ASK.false e.0 e.1

pub returns-then-not-ask_fits : goal.returns-then-not-ask_fits
returns-then-not-ask_fits c = refused_10 _ _ _ _ (sym c.ask_fits.ensures ∙ c.if-not-ask_fits.true)
