-- `measure::measured` meets its contract: the sum is the distance over the coordinates so far. Assumes nothing.
use Rattle.std.proofs.Common.{rules, length, arith}
use Rattle.std.proofs.lemmas.List.{length_push}
use Rattle.paper.specs.Points.{distance}
use Rattle.measure.proofs.Joining.{one_more, bounded_more, room_for_one}
use Rattle.measure.proofs.SideBySide.{side_by_side}
use Rattle.measure.proofs.measured.Goals as goal

pub loop-x-init : goal.loop-x-init
unfolding distance
loop-x-init c = search rules

pub with_one-sum-requires : goal.with_one-sum-requires
with_one-sum-requires c =
    let g = c.args in
    let l = c.loop-x in
    let t = side_by_side g.at g.bt g.d g.a.now g.b.now l.yielded _ l.x-iterator c.next.new.self _ (search rules) (search rules) l.yielded_by _ c.in-Some.is c.next.ensures.steps in
    room_for_one g.m (omega (arith, t.0)) l.invariant.bounded

pub loop-x-preserved : goal.loop-x-preserved
loop-x-preserved c =
    let g = c.args in
    let l = c.loop-x in
    let t = side_by_side g.at g.bt g.d g.a.now g.b.now l.yielded _ l.x-iterator c.next.new.self _ (search rules) (search rules) l.yielded_by _ c.in-Some.is c.next.ensures.steps in
    rw (length_push l.yielded (c.in-Some.x, c.in-Some.y)) record {
      exact = one_more g.m (length l.yielded) _ _ t.1 t.2 (search rules) (search rules) l.invariant.exact c.with_one-sum.ensures.0;
      bounded = bounded_more g.m (length l.yielded) _ _ t.1 t.2 (search rules) (search rules) l.invariant.exact c.with_one-sum.ensures.0 l.invariant.bounded;
    }
