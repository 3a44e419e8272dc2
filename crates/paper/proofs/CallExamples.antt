-- The public calls on tables compute what the examples say. Assumes nothing.
use mathlib.Core.Path.{refl}
use Rattle.paper.specs.Points.{measure_of, weigh, joined, distance, greatest_of, in_range, point}
use Rattle.paper.specs.Orders.{rank, before, insert, item_of, listed, follows, rest, following, page_of, last_of, first_of, nearest_of, farthest_of, snapshot_holds, mark_holds, flat}
use Rattle.paper.specs.Tree.{cleared, new_node, near_side, raise, entered_from, entered, built, apart, claims_from, fits, same_front, afresh, sound}
use Rattle.paper.specs.References.{references_of, is_among, anew}
use Rattle.paper.specs.Runs.{make_call, added, added_run, enter_call}
use Rattle.paper.specs.Frames.{be, num, glyph, digit, hexes, line_of, frame_of, pairs_ended}
use Rattle.paper.specs.Frames as Frames
use Rattle.paper.specs.Fields.{head, front, coord_bytes, coords_in, in_slots, scope_bytes, scope_in, scope_ok, item_frame, item_bytes}
use Rattle.paper.specs.Lines.{head_ok, behind, query_at, is_ask, ask_ranges, ask_ok, ask_at, answer_frame}
use Rattle.paper.specs.Codec.{scope_of, place_in, answer_line, ask_meant, read_ask}
use Rattle.paper.specs.Ends.{matches, answer_of, answer_to, line_answered}
use Rattle.paper.specs.Calls.{nearest_call, farthest_call, the_page, page_call, office_call}
use Rattle.paper.specs.CallExamples.{LimitsMarked, MakingMarked, EnteringMarked, AskingMarked, OfficeMarked}

-- ---- the limits, as numbers

pub limits_marked : LimitsMarked
limits_marked = record { coordinates = refl; claims = refl; page = refl; frame = refl; answer = refl; ask = refl; claim = refl }

-- ---- making an empty table

pub making_marked : MakingMarked
unfolding make_call fits in_range
making_marked =
    record {
      made = refl;
      measure0 = refl;
      measure4 = refl;
      d0 = refl;
      d9 = refl;
      capacity0 = refl;
      capacity4097 = refl;
      references5 = refl;
      coordinates11 = refl;
      rooms35 = refl;
      widest = refl;
    }

-- ---- entering

pub entering_marked : EnteringMarked
unfolding measure_of weigh joined distance in_range point cleared new_node near_side raise entered_from entered built apart claims_from fits same_front afresh sound
    references_of is_among anew added added_run enter_call
entering_marked =
    record {
      tested = refl;
      changed2 = refl;
      changed_last2 = refl;
      over2 = refl;
      more_nodes2 = refl;
      short1 = refl;
      entered = refl;
      nothing_entered = refl;
      full3 = refl;
      uneven5 = refl;
      first5 = refl;
      first2 = refl;
      first1 = refl;
      fills0 = refl;
      known17 = refl;
      twice17 = refl;
      unused0 = refl;
      twins_tested = refl;
      twins_enter0 = refl;
      twins17 = refl;
      first17 = refl;
      known5 = refl;
    }

-- ---- nearest, farthest and a page

pub asking_marked : AskingMarked
unfolding measure_of weigh joined distance greatest_of in_range point cleared new_node near_side raise entered_from entered built apart claims_from fits same_front
    afresh sound rank before insert item_of listed follows rest following page_of last_of first_of nearest_of farthest_of snapshot_holds mark_holds
    nearest_call farthest_call the_page page_call
asking_marked =
    record {
      nearest = refl;
      within0 = refl;
      within1 = refl;
      nearest5 = refl;
      nearest2 = refl;
      nearest1 = refl;
      farthest = refl;
      of_none = refl;
      farthest5 = refl;
      farthest2 = refl;
      farthest1 = refl;
      page = refl;
      next = refl;
      far = refl;
      full_last = refl;
      size0 = refl;
      size_over = refl;
      snapshot7 = refl;
      mark8 = refl;
      beyond8 = refl;
      room12 = refl;
      first1 = refl;
      first2 = refl;
      first5 = refl;
      first6 = refl;
      first7 = refl;
      first8 = refl;
      at_reach = refl;
    }

-- ---- the office

pub office_marked : OfficeMarked
unfolding measure_of weigh joined distance in_range point cleared new_node near_side raise entered_from entered built apart claims_from fits same_front afresh sound
    rank before insert item_of listed follows rest following page_of last_of snapshot_holds mark_holds flat
    be num glyph digit hexes line_of frame_of pairs_ended Frames.is_line head front coord_bytes coords_in in_slots scope_bytes scope_in scope_ok item_frame item_bytes
    head_ok behind query_at is_ask ask_ranges ask_ok ask_at answer_frame scope_of place_in answer_line ask_meant read_ask matches answer_of answer_to line_answered office_call
office_marked =
    record {
      answered = refl;
      room12 = refl;
      line9 = refl;
      kind10 = refl;
      table11 = refl;
      snapshot7 = refl;
      mark8 = refl;
      first12 = refl;
      first1 = refl;
      first2 = refl;
      first9 = refl;
      first10 = refl;
      first11 = refl;
      first7 = refl;
    }
