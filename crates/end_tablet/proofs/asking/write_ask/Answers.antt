-- `end_tablet::asking::write_ask` meets its contract, a law for each way. Assumes nothing.
use Rattle.end_tablet.proofs.EndLaws.{ask_16, ask_6, ask_some, ask_12, ask_put}
use Rattle.end_tablet.proofs.TakeLaws.{sound_asks}
use Rattle.end_tablet.proofs.asking.write_ask.Goals as goal

pub returns-then-l : goal.returns-then-l
returns-then-l c = ask_16 _ _ _ _ c.requires c.if-l.true

pub returns-then-not-size_holds : goal.returns-then-not-size_holds
returns-then-not-size_holds c = ask_6 _ _ _ _ c.requires c.if-l.false _ c.size_holds.ensures c.if-not-size_holds.true

pub returns-then-out-lt-LONGEST_ASK : goal.returns-then-out-lt-LONGEST_ASK
returns-then-out-lt-LONGEST_ASK c = ask_12 _ _ _ _ c.requires c.if-l.false _ c.size_holds.ensures c.if-not-size_holds.false c.if-out-lt-LONGEST_ASK.true

pub put_ask-requires : goal.put_ask-requires
put_ask-requires c =
    let a = c.args in
    let s = ask_some a.l a.room.now a.size a.out.now c.requires c.if-l.false _ c.size_holds.ensures c.if-not-size_holds.false in
    (sound_asks _ _ c.requires c.if-l.false, (s.0, (s.1, c.if-out-lt-LONGEST_ASK.false)))

pub returns : goal.returns
returns c =
    ask_put _ _ _ _ c.requires c.if-l.false _ c.size_holds.ensures c.if-not-size_holds.false c.if-out-lt-LONGEST_ASK.false _ _ c.put_ask.ensures
