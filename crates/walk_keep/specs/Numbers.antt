-- An order as one number of 48 bits, and the numbers that a walk compares in place of a question's reach and mark. Definitions only.
use Rattle.std.specs.Prelude.{ℕ, ◌+◌, ◌-◌, ◌*◌, ◌/◌, ◌^◌, min, max}
use Rattle.paper.specs.declared.orders.Mark.{Mark}
use Rattle.paper.specs.declared.orders.Order.{Order}
use Rattle.paper.specs.declared.orders.Order.TheVariants.{Near, Far}
use Rattle.paper.specs.declared.orders.Place.{Place}
use Rattle.paper.specs.declared.orders.Place.TheVariants.{Start, After}
use Rattle.paper.specs.Limits.{most_claims, most_coordinates, most_number}

-- [1.9] no distance is greater than eight times the greatest gap
abbrev pub most_distance : ℕ
most_distance = most_coordinates * 4294967295

-- the greatest rank that a key has place for; no distance reaches it
abbrev pub top : ℕ
top = 2 ^ 36 - 1

-- [2.1] [2.2] an order's rank of a distance, at 36 bits
unfoldable pub rank_at : Order → ℕ → ℕ
rank_at Near x = x
rank_at Far x = top - x

-- [2.3] rank and number as one number: the smaller rank first, and at equal ranks the smaller number
abbrev pub key_at : ℕ → ℕ → ℕ
key_at r k = r * most_claims + k

-- [4.15] the first rank that a claim within reach can have
unfoldable pub front_at : Order → ℕ → ℕ
front_at Near reach = 0
front_at Far reach = top - min reach top

-- [4.12] the first rank that no claim within reach can have
unfoldable pub behind_at : Order → ℕ → ℕ
behind_at Near reach = min reach top + 1
behind_at Far reach = top + 1

-- the mark's rank; no claim is beyond `top`
abbrev pub mark_at : Order → Mark → ℕ
mark_at order mark = rank_at order (min mark.distance top)

-- [4.15] the first rank wanted
unfoldable pub first_at : Order → ℕ → Place → ℕ
first_at order reach Start = front_at order reach
first_at order reach (After n mark) = max (front_at order reach) (mark_at order mark)

-- [2.7] the first key wanted: behind the mark's, where there is a mark
unfoldable pub low_at : Order → ℕ → Place → ℕ
low_at order reach Start = key_at (front_at order reach) 0
low_at order reach (After n mark) = max (key_at (front_at order reach) 0) (key_at (mark_at order mark) (min mark.number most_number) + 1)

-- [2.5] the end: every key that is admitted comes before it
unfoldable pub end_at : Order → ℕ → ℕ
end_at order reach = key_at (behind_at order reach) 0

-- [4.14] the least rank of a claim below side s whose own claim is farther by `apart` than the other side's: it is on the side's half; near
-- order only
unfoldable pub half_at : Order → ℕ → ℕ → ℕ
half_at Near apart s = (apart + 1 + s) / 2
half_at Far apart s = 0
