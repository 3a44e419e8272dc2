-- The public calls on lists and lines compute what the examples say. Assumes nothing.
use mathlib.Core.Path.{refl}
use Rattle.paper.specs.Points.{in_range}
use Rattle.paper.specs.Orders.{rank, before, follows, flat, fronted}
use Rattle.paper.specs.Frames.{be, num, glyph, digit, hexes, line_of, frame_of, pairs_ended, is_line}
use Rattle.paper.specs.Fields.{head, front, coord_bytes, coords_in, in_slots, query_in_slots, scope_bytes, scope_in, scope_ok, item_frame, item_bytes, item_slots, numbers_ok, references_ok}
use Rattle.paper.specs.Fields as Fields
use Rattle.paper.specs.Lines.{bare_line, reading, head_ok, behind, query_at, query_fits, is_ask, ask_frame, ask_ranges, ask_fits, ask_ok, ask_at, read_as_ask}
use Rattle.paper.specs.Lines.{answer_frame, answer_ranges, answer_fits, count_in, answer_ok, is_answer, answer_at, read_as_answer, claim_frame, claim_fits, claim_ok, claim_at, read_as_claim}
use Rattle.paper.specs.Codec.{scope_of, place_in, ask_line, answer_meant, read_answer}
use Rattle.paper.specs.Ends.{opening, present_place, every, rising, started_well, sound_in, asking, same_probe, same_query, same_place, to_present, page_holds, joined_to, taken, taking}
use Rattle.paper.specs.Lists.{items_in, listing, unused_zero, held_well, opened_as, opening_held, asking_held, taking_held, held_after}
use Rattle.paper.specs.LineExamples.{ListsMarked, TakingMarked, LinesMarked, CallsMarked}
use Rattle.paper.proofs.CallExamples.{limits_marked, making_marked, entering_marked, asking_marked, office_marked}

-- ---- opening a list, and writing an ask

pub lists_marked : ListsMarked
unfolding opening_held opening opened_as query_in_slots in_slots in_range unused_zero held_well every items_in listing sound_in rising started_well rank before present_place asking asking_held
    be glyph hexes line_of head front coord_bytes scope_bytes ask_frame scope_of ask_line
lists_marked =
    record {
      opened = refl;
      open5 = refl;
      open1 = refl;
      open_first1 = refl;
      fresh = refl;
      later = refl;
      falling2 = refl;
      whole16 = refl;
      size0 = refl;
      size_over = refl;
      room12 = refl;
      first2 = refl;
      first16 = refl;
      first6 = refl;
    }

-- ---- taking

pub taking_marked : TakingMarked
unfolding in_range unused_zero held_well every items_in listing sound_in rising started_well rank before present_place follows same_probe same_query same_place to_present page_holds
    joined_to taken taking taking_held flat fronted held_after be num glyph digit hexes line_of frame_of pairs_ended is_line coords_in in_slots scope_in scope_ok
    Fields.item_numbers item_slots numbers_ok head_ok behind answer_ranges query_at count_in answer_ok is_answer answer_at place_in answer_meant read_answer
taking_marked =
    record {
      first = refl;
      last = refl;
      falling2 = refl;
      line9 = refl;
      kind10 = refl;
      whole16 = refl;
      table13 = refl;
      late13 = refl;
      mark13 = refl;
      rising14 = refl;
      after14 = refl;
      reach14 = refl;
      number14 = refl;
      none14 = refl;
      room15 = refl;
      first2 = refl;
      first9 = refl;
      first10 = refl;
      first16 = refl;
      first13 = refl;
      first14 = refl;
    }

-- ---- bare writers and readers

pub lines_marked : LinesMarked
unfolding in_range be num glyph digit hexes line_of frame_of pairs_ended is_line head front coord_bytes coords_in in_slots scope_bytes scope_in scope_ok item_frame item_bytes
    Fields.item_numbers item_slots numbers_ok references_ok bare_line reading head_ok behind query_at query_fits is_ask ask_frame ask_ranges ask_fits ask_ok ask_at read_as_ask
    answer_frame answer_ranges answer_fits count_in answer_ok is_answer answer_at read_as_answer claim_frame claim_fits claim_ok claim_at read_as_claim
lines_marked =
    record {
      ask_written = refl;
      behind = refl;
      ask12 = refl;
      ask_size10 = refl;
      ask_probe10 = refl;
      ask_snapshot10 = refl;
      answer_written = refl;
      answer12 = refl;
      answer_mark10 = refl;
      answer_items10 = refl;
      claim_written = refl;
      claim12 = refl;
      claim10 = refl;
      ask_read = refl;
      ask_not9 = refl;
      ask_not10 = refl;
      ask_kind10 = refl;
      ask_kind_none10 = refl;
      answer_read = refl;
      answer_not9 = refl;
      answer_not10 = refl;
      answer_kind10 = refl;
      claim_read = refl;
      claim_not9 = refl;
      claim_kind10 = refl;
    }

-- ---- the public calls together

pub calls_marked : CallsMarked
calls_marked =
    record {
      limits = limits_marked;
      making = making_marked;
      entering = entering_marked;
      asking = asking_marked;
      office = office_marked;
      lists = lists_marked;
      taking = taking_marked;
      lines = lines_marked;
    }
