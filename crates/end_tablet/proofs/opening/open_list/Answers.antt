-- `end_tablet::opening::open_list` meets its contract, a law for each way. Assumes nothing.
use Rattle.end_tablet.proofs.EndLaws.{open_1, open_5, open_list, open_narrow}
use Rattle.end_tablet.proofs.opening.open_list.Goals as goal

pub returns-then-not-in_range : goal.returns-then-not-in_range
returns-then-not-in_range c = open_1 _ _ c.in_range.ensures c.if-not-in_range.true

pub returns-then-probe-d : goal.returns-then-probe-d
returns-then-probe-d c = open_5 _ _ c.in_range.ensures c.if-not-in_range.false c.if-probe-d.true

pub query_of-requires : goal.query_of-requires
query_of-requires c =
    let a = c.args in
    (c.if-probe-d.false, open_narrow (record { order = a.order; table = a.table; measure = a.measure; d = a.d; probe = a.probe.now; reach = a.reach }) _ c.in_range.ensures c.if-not-in_range.false)

pub returns : goal.returns
returns c = open_list _ _ c.in_range.ensures c.if-not-in_range.false c.if-probe-d.false _ c.query_of.ensures
