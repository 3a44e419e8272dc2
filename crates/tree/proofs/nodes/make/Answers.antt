-- `tree::nodes::make` meets its contract: a store, and one for each further field. Assumes nothing.
use Prim.Native.Nat.{ℕ, zero, suc, ◌+◌, ◌-◌, ◌≤◌}
use mathlib.Core.Path.{◌≡◌, ap}
use mathlib.Core.List.{List}
use native.Mathlib.Omega.{arith}
use borrow.Author.Rules.{rules}
use Rattle.paper.specs.Tree.{put_field, cleared, new_node}
use Rattle.tree.proofs.nodes.make.Goals as goal

more : (nodes now next : List ℕ) (w f : ℕ) → 1 ≤ f → now ≡ cleared nodes w (f - 1) → next ≡ put_field now w f 0 → next ≡ cleared nodes w (f + 1 - 1)
unfolding cleared
more nodes now next w zero h e s = absurd (omega arith)
more nodes now next w (suc f) h e s =
    let p : suc f - 1 ≡ f = omega arith in
    let q : suc f + 1 - 1 ≡ suc f = omega arith in
    rw (q, s) (ap (λ (l : List ℕ). put_field l w (suc f) 0) (rw p at e))

pub loop-f-init : goal.loop-f-init
unfolding cleared
loop-f-init c = search rules

pub loop-f-preserved : goal.loop-f-preserved
loop-f-preserved c = more _ _ _ _ _ (omega arith) c.loop-f.invariant c.store-in-loop-f.ensures

pub returns : goal.returns
unfolding new_node
returns c =
    let q : c.loop-f.f ≡ 6 = omega arith in
    rw (← c.store.ensures) (rw q at c.loop-f.invariant)
