-- `end_tablet::taking::same_query` meets its contract, a law for each way. Assumes nothing.
use Prim.Native.Nat.{◌<◌}
use native.Mathlib.Omega.{arith}
use lib.ListN.{length}
use borrow.Author.Rules.{rules}
use Rattle.end_tablet.proofs.PresentAsk.{query_table, query_measure, query_d, query_probe, query_reach}
use Rattle.end_tablet.proofs.taking.same_query.Goals as goal

pub same_probe-requires : goal.same_probe-requires
same_probe-requires c =
    let a : 7 < length c.args.p.probe = search rules in
    let b : 7 < length c.args.q.probe = search rules in
    (omega arith, omega arith)

pub returns-then-p-q : goal.returns-then-p-q
returns-then-p-q c = query_table c.args.p c.args.q c.if-p-q.true

pub returns-then-p-q-2 : goal.returns-then-p-q-2
returns-then-p-q-2 c = query_measure c.args.p c.args.q c.if-p-q.false c.if-p-q-2.true

pub returns-then-p-q-3 : goal.returns-then-p-q-3
returns-then-p-q-3 c =
    let args = c.args in
    query_d args.p args.q c.if-p-q.false c.if-p-q-2.false c.if-p-q-3.true

pub returns-then-not-same_probe : goal.returns-then-not-same_probe
returns-then-not-same_probe c =
    let args = c.args in
    query_probe args.p args.q c.if-p-q.false c.if-p-q-2.false c.if-p-q-3.false _ c.same_probe.ensures c.if-not-same_probe.true

pub returns : goal.returns
returns c =
    let args = c.args in
    query_reach args.p args.q c.if-p-q.false c.if-p-q-2.false c.if-p-q-3.false _ c.same_probe.ensures c.if-not-same_probe.false
