-- Where the coordinates of a claim stand in the lent memory, and how many claims are cut out of it. Assumes nothing.
use Prim.Native.Nat.{ℕ, zero, suc, ◌+◌, ◌*◌, ◌<◌, ◌≤◌}
use mathlib.Core.Path.{◌≡◌, refl}
use mathlib.Core.List.{List, [], ◌∷◌}
use native.Mathlib.Omega.{arith}
use native.Mathlib.Nat.{mul-le-mul_right, suc-mul}
use lib.IntN.{ℤ}
use lib.ListN.{length, get_or, length-append}
use Rattle.paper.specs.Points.{point}
use Rattle.paper.specs.Tree.{claims_from}
use Rattle.tree.specs.BuiltNodes.{Located}

-- j's d numbers end before those of claim n begin
pub before_next : (d j n : ℕ) → j < n → j * d + d ≤ n * d
before_next d j n h = let p : suc j * d ≤ n * d = mul-le-mul_right d h in omega (arith, suc-mul j d)

pub located_at : (d n j : ℕ) (coordinates : List ℤ) → Located d n coordinates → j < n → j * d + d ≤ length coordinates
located_at d n j coordinates l h = omega (arith, before_next d j n h, l.inside)

-- a run of n claims, cut out of references and coordinates
pub claims_length : (d n : ℕ) (references : List ℕ) (coordinates : List ℤ) → length (claims_from d n references coordinates) ≡ n
unfolding claims_from
claims_length d zero references coordinates = refl
claims_length d (suc n) references coordinates =
    omega (arith, claims_length d n references coordinates, length-append (claims_from d n references coordinates) (record { reference = get_or references n 0; point = point d coordinates n } ∷ []))
