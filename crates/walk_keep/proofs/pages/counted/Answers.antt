-- `walk_keep::pages::counted` meets its contract: the one item more was found, or it was not. Assumes nothing.
use Rattle.std.proofs.Common.{◌≡◌, ◌+◌, leb, length, take, length-take, arith}
use Rattle.std.proofs.lemmas.Bool.Decides.{nat_tests}
use Rattle.paper.specs.Orders.{last_of}
use Rattle.walk_keep.proofs.pages.counted.Goals as goal

pub returns : goal.returns
unfolding last_of
returns c l looked =
    let size = c.args.size in
    let all = length-take (size + 1) l in
    let count : c.min.result ≡ length (take size l) = omega (arith, looked, length-take size l) in
    let last : leb c.args.found size ≡ leb (length l) size = grind (arith, nat_tests, looked) in
    cc
