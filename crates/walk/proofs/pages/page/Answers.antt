-- `walk::pages::page` meets its contract. Assumes nothing.
use native.Mathlib.Omega.{arith}
use Rattle.walk.proofs.Paging.{page_gives, page_filled}
use Rattle.walk.proofs.pages.page.Goals as goal

pub give-requires : goal.give-requires
give-requires c = page_gives c.requires _ _ c.node.ensures.walked (omega arith)

pub returns-clause-filled : goal.returns-clause-filled
returns-clause-filled c = page_filled c.requires _ _ c.node.ensures.walked _ _ c.give.ensures
