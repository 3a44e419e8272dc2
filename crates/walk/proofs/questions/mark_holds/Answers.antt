-- `walk::questions::mark_holds` meets its contract. Assumes nothing.
use Rattle.walk.proofs.Answers.{mark_start, mark_late, mark_off, mark_within}
use Rattle.walk.proofs.questions.mark_holds.Goals as goal

pub returns-in_default : goal.returns-in_default
returns-in_default c = mark_start c.args.table.now.table c.args.table.now.coordinates c.args.probe.now c.args.reach c.args.place c.in_default.is

pub returns-then-snapshot-k : goal.returns-then-snapshot-k
returns-then-snapshot-k c =
    let a = c.args in
    mark_late a.table.now.table a.table.now.coordinates a.probe.now a.reach a.place _ _ c.in-After.is c.requires c.if-snapshot-k.true

pub returns-then-from_probe-x : goal.returns-then-from_probe-x
returns-then-from_probe-x c =
    let a = c.args in
    mark_off a.table.now.table a.table.now.coordinates a.probe.now a.reach a.place _ _ c.in-After.is c.requires _ (rw (← c.table.view_is) c.from_probe.ensures)
    c.if-snapshot-k.false c.if-from_probe-x.true

pub returns : goal.returns
returns c =
    let a = c.args in
    mark_within a.table.now.table a.table.now.coordinates a.probe.now a.reach a.place _ _ c.in-After.is c.requires _ (rw (← c.table.view_is) c.from_probe.ensures)
    c.if-snapshot-k.false c.if-from_probe-x.false
