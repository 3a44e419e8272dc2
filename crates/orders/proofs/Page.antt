-- Pages: what one says that is the last, and one that is not. Assumes nothing.
use Prim.Native.Nat.{ℕ, ◌<◌, ◌≤◌}
use mathlib.Core.Path.{◌≡◌}
use mathlib.Core.Bool.{true, false}
use mathlib.Core.List.{List}
use native.Mathlib.Omega.{arith}
use lib.ListN.{length, take, length-take}
use borrow.Author.Tests.{leb-true, leb-false}
use Rattle.paper.specs.declared.orders.Item.{Item}
use Rattle.paper.specs.Orders.{last_of}

-- what a last page says
pub last_all : (n : ℕ) (r : List Item) → last_of n r ≡ true → length r ≤ n
unfolding last_of
last_all n r p = leb-true (length r) n p

-- what a page that is not last says
pub last_more : (n : ℕ) (r : List Item) → last_of n r ≡ false → n < length r
unfolding last_of
last_more n r p = leb-false (length r) n p

pub last_some : (n : ℕ) (r : List Item) → 1 ≤ n → last_of n r ≡ false → 1 ≤ length (take n r)
last_some n r h p = omega (arith, length-take n r, last_more n r p)
