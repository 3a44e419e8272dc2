-- `tree_repeats::runs::window_is_new` meets its contract: what its index tells of the window, of what is known and of what is behind.
-- Assumes nothing.
use Rattle.std.proofs.Common.{ℕ, arith, lit≤, sym, ◌∙◌}
use Rattle.std.proofs.lemmas.List.{length-replicate}
use Rattle.paper.specs.Limits.{most_claims}
use Rattle.tree_repeats.proofs.EachTested.{tells_no}
use Rattle.tree_repeats.proofs.Chains.{index_none}
use Rattle.tree_repeats.proofs.Windows.{new_differ, new_known, new_behind, window_new}
use Rattle.tree_repeats.proofs.runs.window_is_new.Goals as goal
use Rattle.tree_repeats.proofs.runs.window_is_new.Goals.{then-fill, else-fill}

pub fill-requires : goal.fill-requires
fill-requires c =
    (index_none most_claims _ _ (lit≤ tt), (omega (arith, c.requires, length-replicate {A = ℕ} most_claims 0), c.requires))

pub returns-then-lacks_all : goal.returns-then-lacks_all
returns-then-lacks_all c = elim c.if-fill.branch [
  | then-fill w ↦
      record {
        yes = λ t. window_new _ _ _ (c.fill.ensures.differ.yes w.if-fill.true) (w.lacks_all.ensures.yes (sym w.value-is ∙ c.if-lacks_all.true)) (c.lacks_all-then-lacks_all.ensures.yes t);
        no = λ f new. c.lacks_all-then-lacks_all.ensures.no f (new_behind _ _ _ new);
      }
  | else-fill w ↦ cc
]

pub returns-else-lacks_all : goal.returns-else-lacks_all
returns-else-lacks_all c = rw c.if-lacks_all.false (elim c.if-fill.branch [
  | then-fill w ↦ tells_no (λ new. w.lacks_all.ensures.no (sym w.value-is ∙ c.if-lacks_all.false) (new_known _ _ _ new))
  | else-fill w ↦ tells_no (λ new. c.fill.ensures.differ.no w.if-fill.false (new_differ _ _ _ new))
])
