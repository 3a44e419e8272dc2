-- `line_fields::queries::query_fits` meets its contract: eight slots are enough for any d in range. Assumes nothing.
use Prim.Native.Nat.{◌<◌}
use native.Mathlib.Omega.{arith}
use mathlib.Core.Path.{◌≡◌, refl, sym}
use mathlib.Core.Bool.{Bool, true, false, ◌&&◌}
use lib.Dec.{eqb}
use lib.ListN.{length, take}
use lib.Seq.{length-take-le}
use borrow.Author.Tests.{eq-eqb}
use Rattle.paper.specs.Points.{in_range}
use Rattle.paper.specs.Lines.{query_fits}
use Rattle.paper.specs.declared.queries.Query.{Query}
use Rattle.paper.proofs.Ranges.{range_is}
use borrow.Author.Rules.{rules}
use Rattle.line_fields.proofs.queries.query_fits.Goals as goal

-- in eight slots there are d whenever d is in range
enough : (q : Query) → 7 < length q.probe → (b : Bool) → b ≡ in_range q.measure q.d → b ≡ b && eqb (length (take q.d q.probe)) q.d
enough q h true e = let n = range_is q.measure q.d (sym e) in rw (eq-eqb _ _ (length-take-le q.d q.probe (omega (arith, n.narrow))))
enough q h false e = refl

pub returns : goal.returns
unfolding query_fits
returns c =
    let long : 7 < length c.args.q.probe = search rules in
    rw (← c.in_range.ensures) (enough c.args.q long c.in_range.result c.in_range.ensures)
