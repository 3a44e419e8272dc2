-- `walk::questions::find_page` meets its contract. Assumes nothing.
use Rattle.walk.proofs.Answers.{page_found}
use Rattle.walk.proofs.questions.find_page.Goals as goal

pub returns : goal.returns
returns c = page_found _ _ _ _ _ _ _ c.fill-count.ensures.filled _ c.counted.ensures
