-- Far order computes what the examples say. Assumes nothing.
use mathlib.Core.Path.{refl}
use Rattle.paper.specs.Points.{measure_of, weigh, joined, distance, in_range, point}
use Rattle.paper.specs.Orders.{rank, before, insert, item_of, listed, follows, rest, following, page_of, last_of, snapshot_holds, mark_holds, flat, fronted}
use Rattle.paper.specs.Tree.{cleared, new_node, near_side, raise, entered_from, entered, built, apart, claims_from, fits, same_front, afresh, sound}
use Rattle.paper.specs.Frames.{be, num, glyph, digit, hexes, line_of, frame_of, pairs_ended, is_line}
use Rattle.paper.specs.Fields.{head, front, coord_bytes, coords_in, in_slots, query_in_slots, scope_bytes, scope_in, scope_ok, item_frame, item_bytes, item_slots, numbers_ok, references_ok}
use Rattle.paper.specs.Fields as Fields
use Rattle.paper.specs.Lines.{bare_line, reading, head_ok, behind, query_at, query_fits, is_ask, ask_frame, ask_ranges, ask_fits, ask_ok, ask_at, read_as_ask}
use Rattle.paper.specs.Lines.{answer_frame, answer_ranges, answer_fits, count_in, answer_ok, is_answer, answer_at, read_as_answer, claim_ok, read_as_claim}
use Rattle.paper.specs.Codec.{scope_of, place_in, ask_line, answer_line, ask_meant, answer_meant, read_ask, read_answer}
use Rattle.paper.specs.Ends.{matches, answer_of, answer_to, line_answered, opening, present_place, every, rising, started_well, sound_in, asking, same_probe, same_query, same_place, to_present, page_holds, joined_to, taken, taking}
use Rattle.paper.specs.Lists.{items_in, listing, unused_zero, held_well, opened_as, opening_held, asking_held, taking_held, held_after}
use Rattle.paper.specs.Calls.{the_page, page_call, office_call}
use Rattle.paper.specs.Examples.{office_page_in}
use Rattle.paper.specs.FarExamples.{FarOrderMarked, FarCallsMarked}

pub far_order_marked : FarOrderMarked
unfolding measure_of weigh joined distance rank before insert item_of listed follows rest following page_of last_of snapshot_holds mark_holds matches answer_of answer_to
    office_page_in
far_order_marked =
    record {
      order = refl;
      within = refl;
      pages = (refl, refl, refl);
      nearer_claim_between_two_pages = (refl, refl);
      far_claim_between_two_pages = (refl, refl);
      mark8 = refl;
      snapshot7 = refl;
      full = (refl, refl, refl);
    }

pub far_calls_marked : FarCallsMarked
unfolding measure_of weigh joined distance in_range point cleared new_node near_side raise entered_from entered built apart claims_from fits same_front afresh sound
    rank before insert item_of listed follows rest following page_of last_of snapshot_holds mark_holds flat fronted matches answer_of answer_to line_answered the_page page_call office_call
    opening present_place every rising started_well sound_in asking same_probe same_query same_place to_present page_holds joined_to taken taking
    items_in listing unused_zero held_well opened_as opening_held asking_held taking_held held_after
    be num glyph digit hexes line_of frame_of pairs_ended is_line head front coord_bytes coords_in in_slots query_in_slots scope_bytes scope_in scope_ok item_frame item_bytes
    Fields.item_numbers item_slots numbers_ok references_ok bare_line reading head_ok behind query_at query_fits is_ask ask_frame ask_ranges ask_fits ask_ok ask_at read_as_ask
    answer_frame answer_ranges answer_fits count_in answer_ok is_answer answer_at read_as_answer claim_ok read_as_claim
    scope_of place_in ask_line answer_line ask_meant answer_meant read_ask read_answer
far_calls_marked =
    record {
      paged = refl;
      answered = refl;
      answered_next = refl;
      answer10 = refl;
      opened = refl;
      asks = refl;
      asks_next = refl;
      falling2 = refl;
      whole16 = refl;
      first = refl;
      next = refl;
      late13 = refl;
      turned14 = refl;
      near_takes05 = refl;
      near_takes05_later = refl;
      near_takes04 = refl;
      far_takes02 = refl;
      far_takes01 = refl;
      first10 = (refl, refl);
      first9 = refl;
      ask_written = refl;
      answer_written = refl;
      ask_read = refl;
      answer_read = refl;
      ask_kind10 = refl;
      answer_kind10 = refl;
      claim_kind10 = (refl, refl);
    }
