-- `end_tablet::asking::put_ask` meets its contract: the line that the writer writes is that of the present ask. Assumes nothing.
use Prim.Native.Nat.{◌<◌}
use lib.ListN.{length}
use Rattle.end_tablet.proofs.EndLaws.{ask_written_lem}
use borrow.Author.Rules.{rules}
use Rattle.end_tablet.proofs.asking.put_ask.Goals as goal

pub returns : goal.returns
returns c =
    let g = c.args in
    let long : 7 < length g.l.query.probe = search (rules, c.well_formed.0) in
    let pre = c.requires in
    ask_written_lem g.l g.room.now g.size pre.0 pre.1.0 pre.1.1.0 long _
    c.present.ensures _ pre.1.1.1 _ _ c.write_ask.ensures
