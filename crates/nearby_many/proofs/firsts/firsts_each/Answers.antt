-- `nearby_many::firsts::firsts_each` meets its contract: refused before anything is written, or answered question after question. Assumes nothing.
use mathlib.Core.Path.{◌≡◌, sym, ◌∙◌}
use native.Mathlib.Omega.{arith}
use Rattle.paper.proofs.Outcomes.{err_number, ok_number, told_on, numbered}
use Rattle.nearby_many.specs.Rows.{put_found}
use Rattle.nearby_many.proofs.FirstsOfMany.{many_asked, firsts_refused, firsts_12, firsts_answered, each_none, each_next, row_fits}
use Rattle.nearby_many.proofs.firsts.firsts_each.Goals as goal

pub returns-in_err-test_many : goal.returns-in_err-test_many
returns-in_err-test_many g c =
    let a = c.args in
    λ answer only. rw (told_on _ _ c.from_residual.ensures.1)
    (firsts_refused a.table.now a.probes a.n answer a.out.now _ (err_number _ _ c.test_many.ensures _ c.in_err-test_many.was) (numbered _))

pub returns-then-not-has_rows : goal.returns-then-not-has_rows
returns-then-not-has_rows g c =
    let a = c.args in
    let none = ok_number _ _ c.test_many.ensures _ c.in_ok-test_many.was in
    λ answer only. firsts_12 a.table.now a.probes a.n answer a.out.now none (sym c.has_rows.ensures ∙ c.if-not-has_rows.true)

pub loop-i-init : goal.loop-i-init
loop-i-init g c = λ answer only. each_none _ _

pub find-requires : goal.find-requires
find-requires g c =
    let none = ok_number _ _ c.test_many.ensures _ c.in_ok-test_many.was in
    let few = c.loop-i-test.true in
    c.requires _ few (many_asked c.args.table.now c.args.probes c.args.n none _ few)

pub put_found-requires : goal.put_found-requires
put_found-requires g c =
    rw c.loop-i.auto.out (row_fits 4 c.args.n _ _ (sym c.has_rows.ensures ∙ c.if-not-has_rows.false) c.loop-i-test.true)

pub loop-i-preserved : goal.loop-i-preserved
loop-i-preserved g c =
    λ answer only.
    let found = only c.loop-i.i c.find.result c.loop-i-test.true c.find.ensures in
    each_next (put_found answer) _ _ _ _ (c.loop-i.invariant answer only) (rw (← found) c.put_found.ensures)

pub returns : goal.returns
returns g c =
    let a = c.args in
    let none = ok_number _ _ c.test_many.ensures _ c.in_ok-test_many.was in
    let last : a.n ≡ c.loop-i.i = omega (arith, c.loop-i-test.false, c.loop-i.auto.i-end) in
    λ answer only.
    firsts_answered a.table.now a.probes a.n answer a.out.now none (sym c.has_rows.ensures ∙ c.if-not-has_rows.false) _
    (rw last (c.loop-i.invariant answer only))
