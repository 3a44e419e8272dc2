-- `nearby::tables::test_table` meets its contract: 1, then 2. Assumes nothing.
use Rattle.walk_tested.proofs.TableLaws.{table_1, table_2, table_0, fit_lent}
use Rattle.nearby.proofs.tables.test_table.Goals as goal

pub returns-then-not-is_fit : goal.returns-then-not-is_fit
returns-then-not-is_fit c = rw (← c.table.view_is) (table_1 _ _ c.is_fit.ensures c.if-not-is_fit.true)

pub is_sound-requires : goal.is_sound-requires
is_sound-requires c = fit_lent _ _ c.is_fit.ensures c.if-not-is_fit.false

pub returns-then-not-is_sound : goal.returns-then-not-is_sound
returns-then-not-is_sound c = rw (← c.table.view_is) (table_2 _ _ c.is_fit.ensures c.if-not-is_fit.false _ (c.is_sound.ensures _) c.if-not-is_sound.true)

pub returns : goal.returns
returns c = rw (← c.table.view_is) (table_0 _ _ c.is_fit.ensures c.if-not-is_fit.false _ (c.is_sound.ensures _) c.if-not-is_sound.false)
