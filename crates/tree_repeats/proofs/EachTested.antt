-- What a test tells. Assumes nothing.
use mathlib.Core.Path.{sym}
use mathlib.Core.Bool.{true, false}
use Rattle.paper.proofs.Tests.{no_way}
use Rattle.tree_repeats.specs.NewReferences.{Decides}

pub tells_no : {P : Type 0} → (P → ⊥) → Decides P false
tells_no h = record { yes = λ t. absurd (no_way (sym t)); no = λ f p. h p }

pub tells_yes : {P : Type 0} → P → Decides P true
tells_yes p = record { yes = λ t. p; no = λ f. absurd (no_way f) }
