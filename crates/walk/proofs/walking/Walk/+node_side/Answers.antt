-- The pair `node` and `side` meets its contracts: the two call each other, and each call leaves fewer nodes above the one that is
-- looked at. The measure is twice as many, and one more for `side`. Assumes nothing.
use mathlib.Core.Path.{◌≡◌, sym, ◌∙◌}
use native.Mathlib.Omega.{arith}
use lib.Dec.{lit<}
use Rattle.paper.specs.Tree.{field_at}
use Rattle.walk.proofs.Sides.{side_down}
use Rattle.walk.proofs.Nodes.{node_one, node_left_first, node_right_first, way_ready, side_asked}
use Rattle.walk.proofs.walking.Walk.+node_side.Goals as goal

pub node-returns-then-field-eq0 : goal.node-returns-then-field-eq0
node-returns-then-field-eq0 t c =
    let v = c.visit-x.ensures in
    record { walked = node_one _ _ _ _ _ _ _ v.walked (sym c.field.ensures ∙ c.if-field-eq0.true); bounded = v.left_is.bounded }

pub node-way_down-way-requires : goal.node-way_down-way-requires
node-way_down-way-requires t c = way_ready c.requires 1 (lit< tt) _ 0 c.visit-x.ensures.right_small (omega arith)

pub node-side-requires : goal.node-side-requires
node-side-requires t c = side_asked c.requires 1 (lit< tt) _ _ _ _ c.way_down-way.ensures t c.decreases

pub node-way_down-way-requires-then-y-x : goal.node-way_down-way-requires-then-y-x
node-way_down-way-requires-then-y-x t c = way_ready c.requires 0 (lit< tt) _ _ c.visit-x.ensures.left_small c.half.ensures.small

pub node-side-requires-then-y-x : goal.node-side-requires-then-y-x
node-side-requires-then-y-x t c = side_asked c.requires 0 (lit< tt) _ _ _ _ c.way_down-way-then-y-x.ensures t c.decreases

pub node-returns-then-y-x : goal.node-returns-then-y-x
node-returns-then-y-x t c =
    let v = c.visit-x.ensures in
    let some : field_at c.args.self.now.nodes.now c.args.m 1 ≡ 0 → ⊥ = λ z. c.if-field-eq0.false (c.field.ensures ∙ z) in
    record {
      walked = node_right_first _ _ _ _ _ _ _ v.walked _ _ _ _ v.left_is (v.right_is some) _ _ c.if-y-x.true
          c.way_down-way.ensures c.side.ensures (rw c.half.ensures.is at c.way_down-way-then-y-x.ensures) c.side-then-y-x.ensures;
      bounded = v.left_is.bounded;
    }

pub node-way_down-way-requires-2 : goal.node-way_down-way-requires-2
node-way_down-way-requires-2 t c = way_ready c.requires 0 (lit< tt) _ 0 c.visit-x.ensures.left_small (omega arith)

pub node-side-requires-2 : goal.node-side-requires-2
node-side-requires-2 t c = side_asked c.requires 0 (lit< tt) _ _ _ _ c.way_down-way-2.ensures t c.decreases

pub node-way_down-way-requires-3 : goal.node-way_down-way-requires-3
node-way_down-way-requires-3 t c = way_ready c.requires 1 (lit< tt) _ _ c.visit-x.ensures.right_small c.half-2.ensures.small

pub node-side-requires-3 : goal.node-side-requires-3
node-side-requires-3 t c = side_asked c.requires 1 (lit< tt) _ _ _ _ c.way_down-way-3.ensures t c.decreases

pub node-returns : goal.node-returns
node-returns t c =
    let v = c.visit-x.ensures in
    let some : field_at c.args.self.now.nodes.now c.args.m 1 ≡ 0 → ⊥ = λ z. c.if-field-eq0.false (c.field.ensures ∙ z) in
    record {
      walked = node_left_first _ _ _ _ _ _ _ v.walked _ _ _ _ v.left_is (v.right_is some) _ _ c.if-y-x.false
          c.way_down-way-2.ensures c.side-2.ensures (rw c.half-2.ensures.is at c.way_down-way-3.ensures) c.side-3.ensures;
      bounded = v.left_is.bounded;
    }

pub side-returns-in-Some : goal.side-returns-in-Some
side-returns-in-Some t c = side_down _ _ _ _ _ _ _ c.in-Some.is _ c.node.ensures.walked
