-- `tree::runs::add` meets its contract. Assumes nothing.
use Prim.Native.Nat.{ℕ, ◌+◌, ◌*◌, ◌≤◌}
use mathlib.Core.Path.{◌≡◌, sym, ap, ◌∙◌}
use mathlib.Core.List.{List, ◌++◌}
use native.Mathlib.Omega.{arith}
use native.Mathlib.Nat.{le_refl}
use lib.IntN.{ℤ}
use lib.ListN.{length, take, drop}
use lib.Seq.{take-take, paste}
use Rattle.paper.specs.Points.{point}
use Rattle.paper.specs.Tree.{Store, store}
use Rattle.tree.specs.Soundness.{Roomy}
use Rattle.tree.proofs.Adding.{good_end, good_ready, add_way}
use Rattle.tree.proofs.runs.add.Goals as goal

-- the next claim's place is inside
inside : (s : Store) → Roomy s 1 → s.table.count * s.table.d + s.table.d ≤ length s.coordinates
inside s p = good_end s p.good (omega (arith, p.free))

-- what is copied is the point
copied : (o l points : List ℤ) (at d i : ℕ) → l ≡ paste o at (drop (i * d) points) d → l ≡ paste o at (point d points i) d
unfolding point
copied o l points at d i e = e ∙ ap (λ (x : List ℤ). take at o ++ x ++ drop (at + d) o) (sym (take-take d d (drop (i * d) points) (le_refl d)))

pub overflow_mul-k : goal.overflow_mul-k
overflow_mul-k c =
    let a = c.args in
    record { fits = omega (arith, inside (store a.t a.references.now a.coordinates.now a.nodes.now) c.requires.0) }

pub copy-requires : goal.copy-requires
copy-requires c = (inside _ c.requires.0, c.requires.1)

pub enter-used-requires : goal.enter-used-requires
enter-used-requires c = let p = c.requires.0 in good_ready _ p.good (omega (arith, p.free)) _ c.copy.auto.coordinates

pub returns : goal.returns
returns c =
    let a = c.args in
    add_way (store a.t a.references.now a.coordinates.now a.nodes.now) _ _ _ _ _ _ c.put_reference.ensures
    (copied a.coordinates.now _ a.points.now (a.t.count * a.t.d) a.t.d a.i c.copy.ensures) c.enter-used.ensures.nodes c.enter-used.ensures.used
