-- `tree::soundness::is_sound` meets its contract. Assumes nothing.
use Rattle.std.proofs.Common.{ℕ, ◌*◌, ◌≤◌, length, replicate, arith, rules, ◌∙◌}
use Rattle.std.proofs.lemmas.List.{length-replicate}
use borrow.Author.Tests.{ne_eqb}
use Rattle.paper.specs.Tree.{store}
use Rattle.paper.specs.Limits.{most_claims, scratch_nodes}
use Rattle.tree.proofs.Front.{front_is}
use Rattle.tree.proofs.TestedTables.{sound_over, sound_other, sound_last}
use Rattle.tree.proofs.soundness.is_sound.Goals as goal

-- the scratch nodes hold what any table in range needs
scratch_room : (n : ℕ) → n ≤ most_claims → n * 6 ≤ length (replicate {A = ℕ} scratch_nodes 0)
scratch_room n h = omega (arith, length-replicate {A = ℕ} scratch_nodes 0)

pub returns-then-t-n : goal.returns-then-t-n
returns-then-t-n c = λ references. sound_over (store _ references _ _) c.if-t-n.true

pub returns-then-used-t : goal.returns-then-used-t
returns-then-used-t c =
    let p = c.requires in
    λ references. front_is _ _ _ (search rules) (search rules) c.eq.ensures
    ∙ sound_last (store _ references _ _) _ _ _ (omega arith) p.most (scratch_room _ (omega (arith, p.most))) c.rebuild-used.ensures.built c.if-used-t.true

pub returns-else-used-t : goal.returns-else-used-t
returns-else-used-t c =
    let p = c.requires in
    rw (ne_eqb _ _ c.if-used-t.false)
    (λ references. sound_other (store _ references _ _) _ _ _ (omega arith) p.most (scratch_room _ (omega (arith, p.most))) c.rebuild-used.ensures.built c.if-used-t.false)
