-- The place that a line's fields name. Assumes nothing.
use mathlib.Core.Path.{◌≡◌}
use borrow.Author.Tests.{eq-eqb, ne_eqb}
use Rattle.paper.specs.declared.lines.Scope.{Scope}
use Rattle.paper.specs.declared.orders.Place.TheVariants.{Start, After}
use Rattle.paper.specs.Codec.{place_in}

pub place_start : (p : Scope) → p.from ≡ 0 → place_in p ≡ Start
unfolding place_in
place_start p e = rw (eq-eqb p.from 0 e)

pub place_after_lem : (p : Scope) → (p.from ≡ 0 → ⊥) → place_in p ≡ After p.snapshot (record { distance = p.distance; number = p.number })
unfolding place_in
place_after_lem p e = rw (ne_eqb p.from 0 e)
