-- `measure::pairs::apart` meets its contract: the sum is the distance over the coordinates so far. Assumes nothing.
use Rattle.std.proofs.Common.{rules, length, drop, arith, refl}
use Rattle.std.proofs.lemmas.List.{length_push}
use Rattle.paper.specs.Points.{distance}
use Rattle.measure.proofs.Joining.{one_more, bounded_more, joined_fits}
use Rattle.measure.proofs.SideBySide.{side_by_side}
use Rattle.measure.proofs.pairs.apart.Goals as goal

pub loop-x-init : goal.loop-x-init
unfolding distance
loop-x-init g c = search rules

pub counted-sum-requires : goal.counted-sum-requires
counted-sum-requires g c =
    let a = c.args in
    let l = c.loop-x in
    let t = side_by_side a.at a.bt g.row.D a.a.now a.b.now l.yielded _ l.x-iterator c.next.new.self _ (search rules) (search rules) l.yielded_by _ c.in-Some.is c.next.ensures.steps in
    joined_fits g.M.Metric.measure c.in-Some.x.now c.in-Some.y.now (omega (arith, t.0)) l.invariant.bounded refl (search rules) (search rules)

pub loop-x-preserved : goal.loop-x-preserved
loop-x-preserved g c =
    let a = c.args in
    let l = c.loop-x in
    let m = g.M.Metric.measure in
    let t = side_by_side a.at a.bt g.row.D a.a.now a.b.now l.yielded _ l.x-iterator c.next.new.self _ (search rules) (search rules) l.yielded_by _ c.in-Some.is c.next.ensures.steps in
    rw (length_push l.yielded (c.in-Some.x, c.in-Some.y)) record {
      exact = one_more m (length l.yielded) (drop a.at a.a.now) (drop a.bt a.b.now) t.1 t.2 (search rules) (search rules) l.invariant.exact c.counted-sum.ensures;
      bounded = bounded_more m (length l.yielded) (drop a.at a.a.now) (drop a.bt a.b.now) t.1 t.2 (search rules) (search rules) l.invariant.exact c.counted-sum.ensures l.invariant.bounded;
    }
