-- `tree_repeats::one::is_known` meets its contract: what it folds is whether one of them is r. Assumes nothing.
use Rattle.std.proofs.Common.{ℕ, Bool, false, ◌||◌, eqb, take, rules, tests, ◌∙◌}
use Rattle.std.proofs.lemmas.Iterator.{YieldsList-from_slice}
use Rattle.std.proofs.lemmas.Iterator.Consumers.{fold_from_yields_List}
use Rattle.tree_repeats.proofs.Among.{among_folded}
use Rattle.tree_repeats.proofs.one.is_known.Goals as goal

pub returns : goal.returns
returns c =
    let a = c.args in
    let some = take a.n a.references.now in
    fold_from_yields_List _ (λ (k : Bool) (x : ℕ). k || eqb x a.r) false _ c.fold.ensures.ran (YieldsList-from_slice some (search rules)) (λ k x b q z. search (rules, tests)) ∙ among_folded some a.r false
