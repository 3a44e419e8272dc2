-- `walk::questions::fill` meets its contract. Assumes nothing.
use Rattle.walk.proofs.Filling.{fill_none, fill_done, root_told}
use Rattle.walk.proofs.questions.fill.Goals as goal

pub returns-then-table-eq0-clause-filled : goal.returns-then-table-eq0-clause-filled
returns-then-table-eq0-clause-filled c =
    let p = c.requires in
    let v = c.table.view_is in
    fill_none p.answerable _ _ _ _ p.pageable (rw (← v) c.if-table-eq0.true)

pub returns-clause-filled : goal.returns-clause-filled
returns-clause-filled c =
    let p = c.requires in
    let v = c.table.view_is in
    rw (← v) (fill_done (rw (← v) at p.answerable) _ _ _ _ (rw (← v) at p.pageable) c.if-table-eq0.false c.new.ensures c.padded.ensures c.page.ensures.filled)

pub returns-clause-bounded : goal.returns-clause-bounded
returns-clause-bounded c =
    let p = c.requires in
    let v = c.table.view_is in
    rw (← v) (root_told (rw (← v) at p.answerable) _ _ _ _ (rw (← v) at p.pageable) c.if-table-eq0.false c.new.ensures c.padded.ensures c.page.ensures.bounded)
