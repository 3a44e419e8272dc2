-- `tree::runs::add_run` meets its contract. Assumes nothing.
use Prim.Native.Nat.{ℕ, ◌+◌, ◌-◌, ◌*◌, ◌<◌, ◌≤◌}
use mathlib.Core.Path.{◌≡◌, refl, ap, ◌∙◌}
use mathlib.Core.List.{List}
use native.Mathlib.Omega.{arith}
use lib.IntN.{ℤ}
use lib.ListN.{length, get_or}
use Rattle.paper.specs.Points.{point}
use Rattle.paper.specs.Tree.{Store}
use Rattle.paper.specs.Runs.{added}
use Rattle.tree.proofs.Adding.{in_run, run_start, run_next, roomy_next, roomy_less, added_kept}
use Rattle.tree.proofs.ClaimsInMemory.{point_length}
use Rattle.tree.proofs.runs.add_run.Goals as goal
use Rattle.tree.proofs.runs.add_run.Invariants.{Running}

-- the next claim's place is in the run
module _ (given : List ℕ) (points : List ℤ) (s x : Store) (i : ℕ) (v : Running given points s x i) (whole : length points ≡ s.table.d * length given) (h : i < length given) where
  next_in : i * x.table.d + x.table.d ≤ length points
  next_in = rw v.d (in_run s.table.d i (length given) points whole h)

  -- one claim more
  again : (y : Store) → y ≡ added x (get_or given i 0) (point x.table.d points i) → Running given points s y (i + 1)
  again y e =
      let p : List ℤ = point x.table.d points i in
      let wx : x.table.d ≤ length p = omega (arith, point_length x.table.d points i next_in) in
      record {
        roomy = rw e (roomy_next x (get_or given i 0) p (length given - (i + 1)) (roomy_less x _ _ v.roomy (omega arith)) wx);
        d = ap (λ (z : Store). z.table.d) e ∙ (added_kept x (get_or given i 0) p).d ∙ v.d;
        same = run_next given points i s x y v.same v.d e;
      }

pub loop-i-init : goal.loop-i-init
loop-i-init c = record { roomy = roomy_less _ _ _ c.requires.0 (omega arith); d = refl; same = run_start _ _ _ }

pub loop-i-preserved : goal.loop-i-preserved
loop-i-preserved c = again _ _ _ _ _ c.loop-i.invariant c.requires.1 c.loop-i-test.true _ c.add-held.ensures
