-- `walk::questions::page_of` meets its contract: the page that was found, copied to the room. Assumes nothing.
use native.Mathlib.Omega.{arith}
use Rattle.walk.proofs.Answers.{found_few, page_is}
use borrow.Author.Rules.{rules}
use Rattle.walk.proofs.questions.page_of.Goals as goal

pub overflow_mul-paged : goal.overflow_mul-paged
overflow_mul-paged c =
    let few = found_few _ _ _ _ _ _ c.find_page-paged.ensures in
    omega (arith, c.requires.size_le_most_page)

pub join-requires : goal.join-requires
join-requires c =
    let few = found_few _ _ _ _ _ _ c.find_page-paged.ensures in
    search (rules, c.requires.size_le_most_page, c.requires.pageable.long)

pub returns : goal.returns
returns c = page_is _ _ _ _ _ _ c.find_page-paged.ensures _ _ c.join.ensures
