-- The kinds of ask and answer: each fits a byte, each tells its order, and no ask is of an answer's kind. Assumes nothing.
use Prim.Native.Nat.{◌<◌}
use mathlib.Core.Path.{◌≡◌, refl}
use native.Mathlib.Omega.{arith}
use lib.Dec.{lit<}
use Rattle.paper.specs.declared.orders.Order.{Order}
use Rattle.paper.specs.declared.orders.Order.TheVariants.{Near, Far}
use Rattle.paper.specs.Lines.{ask_kind, answer_kind, ask_order, answer_order}

pub ask_small : (o : Order) → ask_kind o < 256
ask_small Near = lit< tt
ask_small Far = lit< tt

pub answer_small : (o : Order) → answer_kind o < 256
answer_small Near = lit< tt
answer_small Far = lit< tt

-- an ask's kind tells its order, and so does an answer's
pub ask_order_back : (o : Order) → ask_order (ask_kind o) ≡ o
ask_order_back Near = refl
ask_order_back Far = refl

pub answer_order_back : (o : Order) → answer_order (answer_kind o) ≡ o
answer_order_back Near = refl
answer_order_back Far = refl

-- no ask is of a kind that an answer is
pub asks_apart : (o p : Order) → answer_kind o ≡ ask_kind p → ⊥
asks_apart Near Near e = omega arith
asks_apart Near Far e = omega arith
asks_apart Far Near e = omega arith
asks_apart Far Far e = omega arith
