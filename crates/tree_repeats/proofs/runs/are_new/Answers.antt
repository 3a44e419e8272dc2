-- `tree_repeats::runs::are_new` meets its contract: the rest of the run decides. Assumes nothing.
use Rattle.std.proofs.Common.{length, rules, sym, ◌≡◌, ◌∙◌}
use Rattle.tree_repeats.proofs.Windows.{rest_further, rest_not, none_left}
use Rattle.tree_repeats.proofs.runs.are_new.Goals as goal

pub returns-then-not-window_is_new : goal.returns-then-not-window_is_new
returns-then-not-window_is_new c =
    let s = c.split_at.ensures in
    sym (c.loop-known.invariant ∙ rest_not _ _ _ _ _ s.front s.back (c.window_is_new.ensures.no c.if-not-window_is_new.true))

pub loop-known-preserved : goal.loop-known-preserved
loop-known-preserved c =
    let s = c.split_at.ensures in
    c.loop-known.invariant ∙ rest_further _ _ _ _ _ s.front s.back (c.window_is_new.ensures.yes c.if-not-window_is_new.false)

pub returns : goal.returns
returns c =
    let end : length c.loop-known.rest.now ≡ 0 = search rules in
    sym (c.loop-known.invariant ∙ none_left _ _ end)
