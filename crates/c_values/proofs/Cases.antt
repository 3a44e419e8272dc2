-- The cases of an answer as numbers. Assumes nothing.
use Prim.Native.Nat.{ℕ}
use mathlib.Core.Path.{refl}
use native.Mathlib.Omega.{arith}
use Rattle.std.specs.Prelude.{Option, None, Some}
use Rattle.paper.specs.declared.orders.Item.{Item}
use Rattle.paper.specs.Outcomes.{Outcome, refused, gives}
use Rattle.paper.specs.Calls.{NothingJust}
use Rattle.c_values.specs.Values.{item_out, NothingOut}

-- [4.2] what an outcome says of the count of claims, its item says too
pub nothing_out : (count : ℕ) (o : Outcome (Option Item)) → NothingJust count o → NothingOut count (item_out o)
nothing_out count (refused n) h = ((λ e f. absurd (h e)), λ e. refl)
nothing_out count (gives None) h = ((λ e f. h), λ e. refl)
nothing_out count (gives (Some a)) h = ((λ e f. omega arith), λ e. absurd (omega arith))
