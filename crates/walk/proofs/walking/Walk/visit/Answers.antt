-- `Walk::visit` meets its contract. Assumes nothing.
use native.Mathlib.Omega.{arith}
use Rattle.walk.proofs.Visiting.{left_some, left_measurable, right_measurable, x_near, y_near, visited}
use Rattle.walk.proofs.walking.Walk.visit.Goals as goal

pub claims-k-requires : goal.claims-k-requires
claims-k-requires c = let p = c.requires.walk in (omega arith, left_some c.requires)

pub overflow_mul-k : goal.overflow_mul-k
overflow_mul-k c = let k = left_measurable c.requires c.claims-k.ensures in record { fits = omega arith }

pub overflow_mul-j : goal.overflow_mul-j
overflow_mul-j c = let j = right_measurable c.requires c.claims-k.ensures in record { fits = omega arith }

pub from_both-x-requires : goal.from_both-x-requires
from_both-x-requires c =
    (c.requires.lent.located.narrow, record { left_at = (left_measurable c.requires c.claims-k.ensures).inside; right_at = (right_measurable c.requires c.claims-k.ensures).inside })

pub rank-left-requires : goal.rank-left-requires
rank-left-requires c = omega (arith, x_near c.requires c.claims-k.ensures _ c.from_both-x.ensures)

pub rank-right-requires : goal.rank-right-requires
rank-right-requires c = omega (arith, y_near c.requires c.claims-k.ensures _ c.from_both-x.ensures)

pub key-requires : goal.key-requires
key-requires c = let k = left_measurable c.requires c.claims-k.ensures in (omega arith, omega arith)

pub key-requires-2 : goal.key-requires-2
key-requires-2 c = let j = right_measurable c.requires c.claims-k.ensures in (omega arith, omega arith)

pub returns : goal.returns
returns c =
    visited c.requires c.claims-k.ensures _ c.from_both-x.ensures
    c.rank-left.ensures.is c.rank-right.ensures.is c.rank-left.ensures.small c.rank-right.ensures.small c.key.ensures c.key-2.ensures c.keep.ensures c.keep-2.ensures
