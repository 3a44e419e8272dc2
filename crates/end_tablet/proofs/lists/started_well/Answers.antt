-- `end_tablet::lists::started_well` meets its contract: its tests are the definition's. Assumes nothing.
use borrow.Author.Tests.{le-leb, lt-leb, eq-eqb, ne_eqb}
use Rattle.end_tablet.specs.Holding.{started_by}
use Rattle.end_tablet.proofs.lists.started_well.Goals as goal

pub returns-then-count-ge1 : goal.returns-then-count-ge1
unfolding started_by
returns-then-count-ge1 c = rw (c.if-started.true, le-leb 1 c.args.count c.if-count-ge1.true)

pub returns-then-started : goal.returns-then-started
unfolding started_by
returns-then-started c = rw (c.if-started.true, lt-leb 1 c.args.count c.if-count-ge1.false)

pub returns-then-snapshot-eq0 : goal.returns-then-snapshot-eq0
unfolding started_by
returns-then-snapshot-eq0 c = rw (c.if-started.false, eq-eqb c.args.count 0 c.if-count-eq0.true, eq-eqb c.args.snapshot 0 c.if-snapshot-eq0.true)

pub returns-else-snapshot-eq0 : goal.returns-else-snapshot-eq0
unfolding started_by
returns-else-snapshot-eq0 c = rw (c.if-started.false, eq-eqb c.args.count 0 c.if-count-eq0.true, ne_eqb c.args.snapshot 0 c.if-snapshot-eq0.false)

pub returns-else-count-eq0 : goal.returns-else-count-eq0
unfolding started_by
returns-else-count-eq0 c = rw (c.if-started.false, ne_eqb c.args.count 0 c.if-count-eq0.false)
