-- `nearby_many::probes::probe_at` meets its contract. Assumes nothing.
use Prim.Native.Nat.{◌+◌, ◌-◌, ◌*◌}
use mathlib.Core.Path.{◌≡◌, ap}
use native.Mathlib.Omega.{arith}
use Rattle.paper.specs.Points.{point}
use Rattle.paper.specs.Tree.{Store}
use Rattle.nearby_many.specs.Many.{probe_at}
use Rattle.nearby_many.proofs.probes.probe_at.Goals as goal

pub returns : goal.returns
unfolding point
returns c =
    let d = c.table.inside.header.d in
    let i = c.args.i in
    let wide : i * d + d - i * d ≡ d = omega arith in
    rw wide (ap (λ (s : Store). probe_at s c.args.probes.now i) c.table.view_is)
