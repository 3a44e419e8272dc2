-- `nearby::questions::farthest` meets its contract: 1, 2, 5, and then what the walk gives. Assumes nothing.
use native.Mathlib.Omega.{arith}
use mathlib.Core.Path.{refl}
use Rattle.paper.proofs.Outcomes.{err_number, ok_number, told_on, numbered}
use Rattle.paper.specs.declared.orders.Order.TheVariants.{Near}
use Rattle.paper.specs.Orders.{farthest_of}
use Rattle.paper.specs.Tree.{claims_in}
use Rattle.paper.specs.Calls.{table_query, farthest_call}
use Rattle.walk.proofs.Answers.{good_answerable}
use Rattle.walk_tested.proofs.TableLaws.{table_good}
use Rattle.nearby.proofs.QuestionsAndLists.{ask_refused, ask_5, ask_answered}
use Rattle.nearby.proofs.questions.farthest.Goals as goal

pub returns-in_err-test_table : goal.returns-in_err-test_table
unfolding farthest_call
returns-in_err-test_table c =
    let s = c.args.table.now in
    record {
      shown = rw (told_on _ _ c.from_residual.ensures.1) (ask_refused s c.args.probe.now _ (err_number _ _ c.test_table.ensures _ c.in_err-test_table.was) (farthest_of (table_query s.table Near c.args.probe.now 0) (claims_in s)) (numbered _));
      nothing = rw (told_on _ _ c.from_residual.ensures.1) (numbered _);
    }

pub returns-then-probe-table : goal.returns-then-probe-table
unfolding farthest_call
returns-then-probe-table c =
    let args = c.args in
    let s = args.table.now in
    record {
      shown = ask_5 s args.probe.now _ (ok_number _ _ c.test_table.ensures _ c.in_ok-test_table.was) (farthest_of (table_query s.table Near args.probe.now 0) (claims_in s)) refl (rw (← c.table.view_is) c.if-probe-table.true);
      nothing = λ e. omega arith;
    }

pub farthest-requires : goal.farthest-requires
farthest-requires c =
    let args = c.args in
    good_answerable args.table.now (table_good _ _ (ok_number _ _ c.test_table.ensures _ c.in_ok-test_table.was) refl) _ (rw (← c.table.view_is) c.if-probe-table.false)

pub returns : goal.returns
unfolding farthest_call farthest_of
returns c =
    let args = c.args in
    let s = args.table.now in
    record {
      shown = ask_answered s args.probe.now _ (ok_number _ _ c.test_table.ensures _ c.in_ok-test_table.was) (farthest_of (table_query s.table Near args.probe.now 0) (claims_in s)) refl (rw (← c.table.view_is) c.if-probe-table.false) _ c.farthest.ensures.found;
      nothing = c.farthest.ensures.nothing;
    }
