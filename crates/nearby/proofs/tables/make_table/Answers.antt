-- `nearby::tables::make_table` meets its contract. Assumes nothing.
use Rattle.nearby.proofs.TablesAndRuns.{made_1, made_table}
use Rattle.nearby.proofs.tables.make_table.Goals as goal

pub returns-then-not-is_fit : goal.returns-then-not-is_fit
returns-then-not-is_fit c = made_1 _ _ c.is_fit.ensures c.if-not-is_fit.true

pub returns : goal.returns
returns c = made_table _ _ c.is_fit.ensures c.if-not-is_fit.false
