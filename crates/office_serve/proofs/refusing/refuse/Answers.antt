-- `refused N`, with one digit or two. Assumes nothing.
use Rattle.std.proofs.Common.{arith}
use Rattle.office_serve.proofs.Written.{refuse_one, refuse_two}
use Rattle.office_serve.proofs.refusing.refuse.Goals as goal

pub returns-then-n-lt10 : goal.returns-then-n-lt10
returns-then-n-lt10 c = rw (← c.number-n.ensures) (refuse_one c.args.out.now c.args.at _ c.number-n.result c.requires _ c.if-n-lt10.true (omega arith) c.copy_from_slice.ensures.after)

pub returns : goal.returns
returns c = rw (← c.number-n.ensures) (refuse_two c.args.out.now c.args.at _ c.number-n.result c.requires _ c.if-n-lt10.false (omega arith) c.copy_from_slice-2.ensures.after)
