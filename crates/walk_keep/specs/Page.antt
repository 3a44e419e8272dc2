-- The first so many of some claims, as numbers: what a walk has to leave in the room. Definitions only.
use Rattle.std.specs.Prelude.{ℕ, zero, suc, ◌*◌, ◌≡◌, Bool, cond, ◌&&◌, ◌||◌, List, [], ◌∷◌, ◌++◌, ltb, eqb, length, take, drop}
use Rattle.paper.specs.declared.orders.Order.{Order}
use Rattle.paper.specs.Orders.{rank}

-- an order's rank of each claim, where claim k is `dist k` away
abbrev pub ranks : Order → (ℕ → ℕ) → ℕ → ℕ
ranks o dist k = rank o (dist k)

-- [2.3] rank x and number k come before rank y and number j
unfoldable pub ahead : ℕ → ℕ → ℕ → ℕ → Bool
ahead x k y j = ltb x y || (eqb x y && ltb k j)

-- claim j comes before claim k
abbrev pub sooner : (ℕ → ℕ) → ℕ → ℕ → Bool
sooner rank j k = ahead (rank j) j (rank k) k

-- claim k put in its place; where it is already, nothing changes
unfoldable pub insert_by : (ℕ → ℕ) → ℕ → List ℕ → List ℕ
insert_by rank k [] = k ∷ []
insert_by rank k (x ∷ l) = cond (sooner rank x k) (x ∷ insert_by rank k l) (cond (eqb x k) (x ∷ l) (k ∷ x ∷ l))

-- [2.5] the admitted ones of the first n claims, in order
unfoldable pub sorted_of : (ℕ → ℕ) → (ℕ → Bool) → ℕ → List ℕ
sorted_of rank ok zero = []
sorted_of rank ok (suc n) = cond (ok n) (insert_by rank n (sorted_of rank ok n)) (sorted_of rank ok n)

unfoldable pub first_sorted : (ℕ → ℕ) → (ℕ → Bool) → ℕ → ℕ → List ℕ
first_sorted rank ok n size = take size (sorted_of rank ok n)

-- [2.6] three numbers a claim: its number, its reference, its distance
unfoldable pub items : (ℕ → ℕ) → (ℕ → ℕ) → List ℕ → List ℕ
items ref dist [] = []
items ref dist (k ∷ l) = k ∷ ref k ∷ dist k ∷ items ref dist l

-- [4.8] the room `base` with the claims of l at its front
abbrev pub filled : (ℕ → ℕ) → (ℕ → ℕ) → List ℕ → List ℕ → List ℕ
filled ref dist l base = items ref dist l ++ drop (length l * 3) base

-- [4.6] [4.8] the first so many stand at the front of the room, and what is behind them stays
pub record Filled (order : Order) (ref dist : ℕ → ℕ) (ok : ℕ → Bool) (n size : ℕ) (before after : List ℕ) (count : ℕ) : Type 0 where
  pub room : after ≡ filled ref dist (first_sorted (ranks order dist) ok n size) before
  pub counts : count ≡ length (first_sorted (ranks order dist) ok n size)
