-- Sections 3 and 8 of the rules: which references are in force, and which a run may bring. Definitions only.
use Rattle.std.specs.Prelude.{ℕ, Bool, true, false, ◌&&◌, ◌||◌, not, List, [], ◌∷◌, eqb}
use Rattle.paper.specs.Points.{Claim}

-- [1.2] the references of claims, one after another
unfoldable pub references_of : List Claim → List ℕ
references_of [] = []
references_of (c ∷ claims) = c.reference ∷ references_of claims

-- [3.17] the references in force in a table with these claims
abbrev pub in_force : List Claim → List ℕ
in_force claims = references_of claims

-- a reference is among some
unfoldable pub is_among : List ℕ → ℕ → Bool
is_among [] r = false
is_among (x ∷ some) r = eqb x r || is_among some r

-- [8.17] each reference of a run is new: it is not among those in force, and does not stand in the run once more
unfoldable pub anew : List ℕ → List ℕ → Bool
anew known [] = true
anew known (r ∷ run) = not (is_among known r) && (not (is_among run r) && anew known run)
