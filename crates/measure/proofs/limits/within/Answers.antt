-- `measure::limits::within` meets its contract: the sum is the distance over the coordinates so far, and not over the limit. Assumes
-- nothing.
use Rattle.std.proofs.Common.{◌≡◌, length, drop, rules, arith}
use Rattle.std.proofs.lemmas.List.{length_push}
use Rattle.paper.specs.Points.{distance}
use Rattle.measure.proofs.Joining.{one_more, bounded_more, room_for_one}
use Rattle.measure.proofs.SideBySide.{side_by_side, side_by_side_all}
use Rattle.measure.proofs.Limiting.{limited_at, limited_beyond}
use Rattle.measure.proofs.limits.within.Goals as goal

pub loop-x-init : goal.loop-x-init
unfolding distance
loop-x-init c = search rules

pub with_one-sum-requires : goal.with_one-sum-requires
with_one-sum-requires c =
    let g = c.args in
    let l = c.loop-x in
    let t = side_by_side g.at g.bt g.d g.a.now g.b.now l.yielded _ l.x-iterator c.next.new.self _ (search rules) (search rules) l.yielded_by _ c.in-Some.is c.next.ensures.steps in
    room_for_one _ (omega (arith, t.0)) l.invariant.bounded

pub returns-then-limit-sum : goal.returns-then-limit-sum
returns-then-limit-sum c =
    let g = c.args in
    let l = c.loop-x in
    let t = side_by_side g.at g.bt g.d g.a.now g.b.now l.yielded _ l.x-iterator c.next.new.self _ (search rules) (search rules) l.yielded_by _ c.in-Some.is c.next.ensures.steps in
    let more = one_more _ (length l.yielded) _ _ t.1 t.2 (search rules) (search rules) l.invariant.exact c.with_one-sum.ensures.0 in
    rw (← c.numbered-m.ensures) (limited_beyond _ (drop g.at g.a.now) (drop g.bt g.b.now) more c.if-limit-sum.true (omega (arith, t.0)))

pub loop-x-preserved : goal.loop-x-preserved
loop-x-preserved c =
    let g = c.args in
    let l = c.loop-x in
    let t = side_by_side g.at g.bt g.d g.a.now g.b.now l.yielded _ l.x-iterator c.next.new.self _ (search rules) (search rules) l.yielded_by _ c.in-Some.is c.next.ensures.steps in
    rw (length_push l.yielded (c.in-Some.x, c.in-Some.y)) record {
      exact = one_more _ (length l.yielded) _ _ t.1 t.2 (search rules) (search rules) l.invariant.exact c.with_one-sum.ensures.0;
      bounded = bounded_more _ (length l.yielded) _ _ t.1 t.2 (search rules) (search rules) l.invariant.exact c.with_one-sum.ensures.0 l.invariant.bounded;
      kept = c.if-limit-sum.false;
    }

pub returns : goal.returns
returns c =
    let g = c.args in
    let m = c.numbered-m in
    let l = c.loop-x in
    let e : length l.yielded ≡ g.d = side_by_side_all g.at g.bt g.d g.a.now g.b.now l.yielded _ l.x-iterator c.next.new.self _ (search rules) (search rules) l.yielded_by (omega arith) (omega arith) c.in-None.is c.next.ensures.steps in
    rw (← m.ensures) (limited_at (rw e at l.invariant.exact) l.invariant.kept)
