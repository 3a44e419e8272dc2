-- Examples of the program: five claims and one ask give this whole output, computed, and asks of both kinds theirs; a claim whose reference
-- is in the table is refused. Assumes nothing.
use Prim.Native.Nat.{ℕ}
use mathlib.Core.Path.{◌≡◌, refl}
use mathlib.Core.List.{List, [], ◌∷◌, ◌++◌}
use lib.IntN.{pos}
use lib.ListN.{replicate}
use Rattle.paper.specs.declared.lines.ClaimLine.{ClaimLine}
use Rattle.paper.specs.Outcomes.{refused}
use Rattle.paper.specs.References.{references_of, is_among, anew}
use Rattle.paper.specs.Points.{measure_of, weigh, joined, distance, in_range}
use Rattle.paper.specs.Orders.{rank, before, insert, item_of, listed, follows, rest, snapshot_holds, following, page_of, last_of, mark_holds, flat}
use Rattle.paper.specs.Frames.{be, num, glyph, digit, hexes, line_of, frame_of, is_line}
use Rattle.paper.specs.Frames as Frames
use Rattle.paper.specs.Fields.{head, coord_bytes, coords_in, in_slots, scope_bytes, front, scope_in, scope_ok, item_frame, item_bytes}
use Rattle.paper.specs.Lines.{head_ok, behind, query_at, is_ask, ask_ranges, ask_ok, ask_at, answer_frame, claim_ok, claim_at}
use Rattle.paper.specs.Ends.{Table, matches, answer_of, answer_to}
use Rattle.paper.specs.Codec.{place_in, scope_of, ask_meant, answer_line}
use Rattle.paper.specs.Program.{table_for, ours, claim_in, with_claim, claim_entering, reply_to, reply, claim_turn, ask_turn, frame_turn, line_turn, line_done, byte, fed, input_done, office_start, program, refusal, decimal}
use Rattle.paper.specs.FarExamples.{far_ask, far_answer}

-- a claim line, by the last digits of its table, its reference, which begins with 6, and its point
abbrev claim_line : ℕ → ℕ → ℕ → List ℕ
claim_line table reference point =
    48 ∷ 51 ∷ 48 ∷ 48 ∷ 48 ∷ 48 ∷ 48 ∷ 48 ∷ 48 ∷ table ∷ 48 ∷ 49 ∷ 48 ∷ 49 ∷ 48 ∷ 48 ∷ 48 ∷ 48 ∷ 48 ∷ 48 ∷ 54 ∷ reference ∷ 48 ∷ 48 ∷ 48 ∷ 48 ∷ 48 ∷
    48 ∷ 48 ∷ point ∷ 10 ∷ []

abbrev ask : List ℕ
ask =
    48 ∷ 49 ∷ 48 ∷ 48 ∷ 48 ∷ 48 ∷ 48 ∷ 48 ∷ 48 ∷ 55 ∷ 48 ∷ 49 ∷ 48 ∷ 49 ∷ 48 ∷ 48 ∷ 48 ∷ 48 ∷ 48 ∷ 48 ∷ 48 ∷ 52 ∷ 48 ∷ 48 ∷ 48 ∷ 48 ∷ 48 ∷
    48 ∷ 48 ∷ 48 ∷ 48 ∷ 48 ∷ 48 ∷ 48 ∷ 48 ∷ 48 ∷ 48 ∷ 53 ∷ 48 ∷ 48 ∷ 48 ∷ 48 ∷ 48 ∷ 48 ∷ 48 ∷ 48 ∷ 48 ∷ 48 ∷ 48 ∷ 48 ∷ 48 ∷ 48 ∷ 48 ∷ 48 ∷
    48 ∷ 48 ∷ 48 ∷ 48 ∷ 48 ∷ 48 ∷ 48 ∷ 48 ∷ 48 ∷ 48 ∷ 48 ∷ 50 ∷ 10 ∷ []

abbrev answer : List ℕ
answer =
    48 ∷ 50 ∷ 48 ∷ 48 ∷ 48 ∷ 48 ∷ 48 ∷ 48 ∷ 48 ∷ 55 ∷ 48 ∷ 49 ∷ 48 ∷ 49 ∷ 48 ∷ 48 ∷ 48 ∷ 48 ∷ 48 ∷ 48 ∷ 48 ∷ 52 ∷ 48 ∷ 48 ∷ 48 ∷ 48 ∷ 48 ∷
    48 ∷ 48 ∷ 48 ∷ 48 ∷ 48 ∷ 48 ∷ 48 ∷ 48 ∷ 48 ∷ 48 ∷ 53 ∷ 48 ∷ 48 ∷ 48 ∷ 48 ∷ 48 ∷ 53 ∷ 48 ∷ 48 ∷ 48 ∷ 48 ∷ 48 ∷ 48 ∷ 48 ∷ 48 ∷ 48 ∷ 48 ∷
    48 ∷ 48 ∷ 48 ∷ 48 ∷ 48 ∷ 48 ∷ 48 ∷ 48 ∷ 48 ∷ 48 ∷ 48 ∷ 48 ∷ 48 ∷ 50 ∷ 48 ∷ 48 ∷ 48 ∷ 49 ∷ 48 ∷ 48 ∷ 48 ∷ 48 ∷ 48 ∷ 48 ∷ 54 ∷ 54 ∷ 48 ∷
    48 ∷ 48 ∷ 48 ∷ 48 ∷ 48 ∷ 48 ∷ 48 ∷ 48 ∷ 48 ∷ 48 ∷ 48 ∷ 48 ∷ 48 ∷ 48 ∷ 49 ∷ 48 ∷ 48 ∷ 48 ∷ 52 ∷ 48 ∷ 48 ∷ 48 ∷ 48 ∷ 48 ∷ 48 ∷ 54 ∷ 57 ∷
    48 ∷ 48 ∷ 48 ∷ 48 ∷ 48 ∷ 48 ∷ 48 ∷ 48 ∷ 48 ∷ 48 ∷ 48 ∷ 48 ∷ 48 ∷ 48 ∷ 48 ∷ 49 ∷ 10 ∷ []

-- the five claims of examples a to j, for table 7
abbrev claims : List ℕ
claims = claim_line 55 53 50 ++ (claim_line 55 54 51 ++ (claim_line 55 55 57 ++ (claim_line 55 56 54 ++ claim_line 55 57 53)))

-- [10.5] `refused 1`, and a second digit
abbrev refused1 : ℕ → List ℕ
refused1 digit = 114 ∷ 101 ∷ 102 ∷ 117 ∷ 115 ∷ 101 ∷ 100 ∷ 32 ∷ 49 ∷ digit ∷ 10 ∷ []

-- a full table of two claims, and a claim line for it
abbrev full_table : Table
full_table =
    record {
      number = 7;
      measure = 1;
      d = 1;
      capacity = 2;
      claims = record { reference = 101; point = pos 2 ∷ [] } ∷ record { reference = 102; point = pos 3 ∷ [] } ∷ [];
    }

abbrev line_for : ℕ → ClaimLine
line_for reference = record { table = 7; measure = 1; d = 1; reference = reference; coordinates = pos 4 ∷ replicate 7 (pos 0) }

pub record ProgramMarked : Type 0 where
  pub sample : program (claims ++ ask) ≡ answer
  -- [10.6] an ask in far order is answered in far order, between asks in near order; an answer, of either kind, is no line for the office
  pub both_kinds : program (claims ++ (far_ask ++ (ask ++ (far_answer ++ answer)))) ≡ far_answer ++ (answer ++ (refused1 48 ++ refused1 48))
  -- [8.17] a reference of the table, at another point, is refused with 17, and the table stays as it was; in a line for table 8 it is 11
  pub repeated : program (claims ++ (claim_line 55 54 52 ++ (claim_line 56 54 52 ++ ask))) ≡ refused1 55 ++ (refused1 49 ++ answer)
  -- 17 before 3
  pub full17 : claim_entering full_table (line_for 101) ≡ refused 17
  pub full3 : claim_entering full_table (line_for 103) ≡ refused 3

pub program_marked : ProgramMarked
unfolding program office_start input_done fed byte line_done line_turn frame_turn ask_turn claim_turn reply reply_to claim_entering with_claim claim_in ours
    table_for answer_line ask_meant scope_of place_in answer_to answer_of matches claim_at claim_ok answer_frame ask_at ask_ok ask_ranges behind head_ok query_at
    is_ask item_bytes item_frame scope_ok scope_in front scope_bytes in_slots coords_in coord_bytes in_range head is_line frame_of line_of hexes digit glyph num be
    Frames.pairs_ended flat mark_holds last_of page_of following snapshot_holds rest follows listed item_of insert before rank distance joined weigh
    measure_of refusal decimal references_of is_among anew
program_marked = record { sample = refl; both_kinds = refl; repeated = refl; full17 = refl; full3 = refl }
