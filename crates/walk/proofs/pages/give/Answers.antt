-- `walk::pages::give` meets its contract: after i turns the first i claims stand in the room. Assumes nothing.
use Rattle.walk.proofs.Giving.{giving_start, giving_turn, give_ready, given_end, given_all}
use Rattle.walk.proofs.pages.give.Goals as goal

pub loop-i-init : goal.loop-i-init
loop-i-init c = giving_start _ _ _ _

pub returns-then-y-ask : goal.returns-then-y-ask
returns-then-y-ask c dist l h = given_end c.requires c.loop-i.invariant dist l h c.if-y-ask.true

pub give_one-requires : goal.give_one-requires
give_one-requires c = give_ready c.requires c.loop-i.invariant c.loop-i-test.true c.if-y-ask.false

pub loop-i-preserved : goal.loop-i-preserved
loop-i-preserved c = giving_turn c.requires c.loop-i.invariant c.loop-i-test.true c.if-y-ask.false c.give_one.ensures

pub returns : goal.returns
returns c dist l h = given_all c.requires c.loop-i.invariant dist l h c.loop-i-test.false
