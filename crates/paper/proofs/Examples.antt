-- Examples a to j, proved together, and the further ones: each computes. Assumes nothing.
use mathlib.Core.Path.{refl}
use Rattle.paper.specs.Points.{measure_of, weigh, joined, distance, greatest_of}
use Rattle.paper.specs.Orders.{rank, before, insert, item_of, listed, follows, rest, following, page_of, last_of, first_of, nearest_of, farthest_of, snapshot_holds, mark_holds}
use Rattle.paper.specs.Tree.{cleared, new_node, near_side, raise, entered_from, entered, built, apart, afresh}
use Rattle.paper.specs.Ends.{matches, answer_of, answer_to}
use Rattle.paper.specs.Examples.{coordinates_of, office_page_in, Marked, MarkedBesides}

pub marked : Marked
unfolding measure_of weigh joined distance greatest_of rank before insert item_of listed follows rest following page_of last_of first_of nearest_of farthest_of
    snapshot_holds mark_holds cleared new_node near_side raise entered_from entered built apart afresh matches answer_of answer_to coordinates_of office_page_in
marked =
    record {
      a = refl;
      b = refl;
      c = (refl, refl);
      d = (refl, refl);
      e = (refl, refl, refl);
      f = (refl, refl);
      g = refl;
      h = refl;
      i = refl;
      j = (refl, refl);
    }

pub marked_besides : MarkedBesides
unfolding measure_of weigh joined distance greatest_of rank before insert item_of listed follows rest following page_of last_of snapshot_holds mark_holds
    cleared new_node near_side raise entered_from entered built apart afresh matches answer_of answer_to coordinates_of office_page_in
marked_besides = record { tie = refl; ties = (refl, refl); maximum = refl; hamming = refl; widest = refl }
