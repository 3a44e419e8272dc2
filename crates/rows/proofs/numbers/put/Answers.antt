-- `rows::numbers::put` meets its contract. Assumes nothing.
use Rattle.std.proofs.Common.{rules, ◌≡◌, ◌+◌, ◌-◌, length, take, drop}
use mathlib.Core.Path.{sym, ◌∙◌}
use native.Mathlib.Omega.{arith}
use Rattle.std.proofs.lemmas.Slice.{put_mid-paste}
use Rattle.std.proofs.lemmas.List.{append_assoc}
use Rattle.std.proofs.lemmas.List.Edits.{paste_all, sets-eq}
use Rattle.rows.proofs.numbers.put.Goals as goal

pub returns : goal.returns
returns g c =
    let a = c.args in
    let long : length a.numbers ≡ g.row.N = search rules in
    let n = length a.numbers in
    put_mid-paste a.a (a.a + g.row.N - a.a) a.room.now _ a.numbers n c.copy_from_slice.ensures.after (omega arith) (omega arith)
    ∙ paste_all a.room.now a.a a.numbers n (omega arith)
    ∙ sym (append_assoc (take a.a a.room.now) a.numbers (drop (a.a + n) a.room.now))
    ∙ sym (sets-eq a.numbers a.room.now a.a (omega (arith, c.requires)))
