-- `tree::entering::enter` meets its contract: the loop goes down as `entered_from` does. Assumes nothing.
use Prim.Native.Nat.{ℕ, ◌+◌}
use mathlib.Core.Path.{sym, ap, ◌∙◌}
use mathlib.Core.List.{List}
use native.Mathlib.Omega.{arith}
use lib.Dec.{lit<}
use Rattle.paper.specs.Tree.{Grown, new_node, apart}
use Rattle.tree.proofs.PointsInMemory.{located_at}
use Rattle.tree.proofs.OneEntering.{going_start, entered_first, below_left, below_right, going_claim, going_two, going_stop, going_new, going_less, going_down}
use Rattle.tree.proofs.entering.enter.Goals as goal

pub returns-then-used-eq0 : goal.returns-then-used-eq0
returns-then-used-eq0 c =
    let a = c.args in
    let e = entered_first (apart a.measure a.d a.coordinates.now) a.used a.k a.nodes.now c.if-used-eq0.true in
    record {
      nodes = c.make.ensures ∙ sym (ap (λ (x : Grown). x.nodes) e);
      used = sym (ap (λ (x : Grown). x.used) e);
    }

pub loop-nodes-init : goal.loop-nodes-init
loop-nodes-init c = going_start _ _ _ _ c.if-used-eq0.false c.requires.linked

pub returns-then-field-eq0 : goal.returns-then-field-eq0
returns-then-field-eq0 c =
    let e = going_stop c.loop-nodes.invariant (sym c.field.ensures ∙ c.if-field-eq0.true) in
    record {
      nodes = c.store.ensures ∙ sym (ap (λ (x : Grown). x.nodes) e);
      used = sym (ap (λ (x : Grown). x.used) e);
    }

pub overflow_sub-left : goal.overflow_sub-left
overflow_sub-left c = (going_claim c.loop-nodes.invariant {s = 0} (lit< tt) (λ z. c.if-field-eq0.false (c.field.ensures ∙ z)) c.field-left.ensures).0

pub overflow_mul-left : goal.overflow_mul-left
overflow_mul-left c =
    record { fits = omega (arith, (going_two c.loop-nodes.invariant (λ z. c.if-field-eq0.false (c.field.ensures ∙ z)) c.field-left.ensures c.field-right.ensures c.requires.located).left_at) }

pub overflow_mul-right : goal.overflow_mul-right
overflow_mul-right c =
    record { fits = omega (arith, (going_two c.loop-nodes.invariant (λ z. c.if-field-eq0.false (c.field.ensures ∙ z)) c.field-left.ensures c.field-right.ensures c.requires.located).right_at) }

pub from_both-to-requires : goal.from_both-to-requires
from_both-to-requires c = (c.requires.located.narrow, (going_two c.loop-nodes.invariant (λ z. c.if-field-eq0.false (c.field.ensures ∙ z)) c.field-left.ensures c.field-right.ensures c.requires.located, located_at _ (c.args.k + 1) c.args.k _ c.requires.located (omega arith)))

pub returns-then-below-eq0 : goal.returns-then-below-eq0
unfolding apart
returns-then-below-eq0 c =
    let a = c.args in
    let e = going_new (below_left c.loop-nodes.invariant (λ z. c.if-field-eq0.false (c.field.ensures ∙ z)) c.field-left.ensures c.field-right.ensures c.from_both-to.ensures.left_is.exact c.from_both-to.ensures.right_is.exact c.if-to.true) c.field-below.ensures c.widen.ensures c.if-below-eq0.true in
    record {
      nodes = c.make-then-below-eq0.ensures ∙ ap (λ (x : List ℕ). new_node x a.used a.k) c.store-then-below-eq0.ensures ∙ sym (ap (λ (x : Grown). x.nodes) e);
      used = sym (ap (λ (x : Grown). x.used) e);
    }

pub loop-nodes-smaller-then-to : goal.loop-nodes-smaller-then-to
unfolding apart
loop-nodes-smaller-then-to c = going_less (below_left c.loop-nodes.invariant (λ z. c.if-field-eq0.false (c.field.ensures ∙ z)) c.field-left.ensures c.field-right.ensures c.from_both-to.ensures.left_is.exact c.from_both-to.ensures.right_is.exact c.if-to.true) c.field-below.ensures c.widen.ensures c.if-below-eq0.false

pub loop-nodes-preserved-then-to : goal.loop-nodes-preserved-then-to
unfolding apart
loop-nodes-preserved-then-to c = going_down (below_left c.loop-nodes.invariant (λ z. c.if-field-eq0.false (c.field.ensures ∙ z)) c.field-left.ensures c.field-right.ensures c.from_both-to.ensures.left_is.exact c.from_both-to.ensures.right_is.exact c.if-to.true) c.field-below.ensures c.widen.ensures c.if-below-eq0.false

pub returns-then-below-eq0-2 : goal.returns-then-below-eq0-2
unfolding apart
returns-then-below-eq0-2 c =
    let a = c.args in
    let e = going_new (below_right c.loop-nodes.invariant (λ z. c.if-field-eq0.false (c.field.ensures ∙ z)) c.field-left.ensures c.field-right.ensures c.from_both-to.ensures.left_is.exact c.from_both-to.ensures.right_is.exact c.if-to.false) c.field-below-in-loop-nodes.ensures c.widen-in-loop-nodes.ensures c.if-below-eq0-2.true in
    record {
      nodes = c.make-then-below-eq0-2.ensures ∙ ap (λ (x : List ℕ). new_node x a.used a.k) c.store-then-below-eq0-2.ensures ∙ sym (ap (λ (x : Grown). x.nodes) e);
      used = sym (ap (λ (x : Grown). x.used) e);
    }

pub loop-nodes-smaller : goal.loop-nodes-smaller
unfolding apart
loop-nodes-smaller c = going_less (below_right c.loop-nodes.invariant (λ z. c.if-field-eq0.false (c.field.ensures ∙ z)) c.field-left.ensures c.field-right.ensures c.from_both-to.ensures.left_is.exact c.from_both-to.ensures.right_is.exact c.if-to.false) c.field-below-in-loop-nodes.ensures c.widen-in-loop-nodes.ensures c.if-below-eq0-2.false

pub loop-nodes-preserved : goal.loop-nodes-preserved
unfolding apart
loop-nodes-preserved c = going_down (below_right c.loop-nodes.invariant (λ z. c.if-field-eq0.false (c.field.ensures ∙ z)) c.field-left.ensures c.field-right.ensures c.from_both-to.ensures.left_is.exact c.from_both-to.ensures.right_is.exact c.if-to.false) c.field-below-in-loop-nodes.ensures c.widen-in-loop-nodes.ensures c.if-below-eq0-2.false
