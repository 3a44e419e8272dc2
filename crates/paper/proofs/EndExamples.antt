-- The two ends compute what the examples say. Assumes nothing.
use mathlib.Core.Path.{refl}
use Rattle.paper.specs.Points.{measure_of, weigh, joined, distance, in_range}
use Rattle.paper.specs.Orders.{rank, before, insert, item_of, listed, follows, rest, following, page_of, last_of, snapshot_holds, mark_holds, flat}
use Rattle.paper.specs.Frames.{be, num, glyph, digit, hexes, line_of, frame_of, pairs_ended, is_line}
use Rattle.paper.specs.Fields.{head, front, coord_bytes, coords_in, in_slots, scope_bytes, scope_in, scope_ok, item_frame, item_bytes}
use Rattle.paper.specs.Lines.{reading, head_ok, behind, query_at, is_ask, ask_ranges, ask_ok, ask_at, read_as_ask, answer_frame}
use Rattle.paper.specs.Codec.{scope_of, place_in, answer_line, ask_meant, read_ask}
use Rattle.paper.specs.Ends.{matches, answer_of, answer_to, line_answered, office, present_place, every, rising, same_probe, same_query, same_place, to_present, page_holds, joined_to, taken}
use Rattle.paper.specs.EndExamples.{EndsMarked}

pub ends_marked : EndsMarked
unfolding measure_of weigh joined distance rank before insert item_of listed follows rest following page_of last_of snapshot_holds mark_holds flat
    matches answer_of answer_to line_answered office present_place every rising same_probe same_query same_place to_present page_holds joined_to taken
    scope_of place_in answer_line ask_meant read_ask be num glyph digit hexes line_of frame_of pairs_ended is_line head front in_range coord_bytes coords_in in_slots
    scope_bytes scope_in scope_ok item_frame item_bytes reading head_ok behind query_at is_ask ask_ranges ask_ok ask_at read_as_ask answer_frame
ends_marked =
    record {
      first = refl;
      then = refl;
      exactly = refl;
      former = refl;
      after_former = refl;
      still = refl;
      late = refl;
      small = refl;
      over = refl;
      sample = refl;
    }
