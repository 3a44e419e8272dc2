-- [5.13] The lines obey what the two ends need of their lines, in either order. Assumes nothing.
use mathlib.Core.Path.{sym, ◌∙◌}
use Rattle.paper.proofs.LineKinds.{asks_apart}
use Rattle.paper.specs.Frames.{num, frame_of}
use Rattle.paper.specs.Lines.{answer_order}
use Rattle.paper.specs.Codec.{ask_line, lines}
use Rattle.orders.specs.LawfulLines.{Lawful}
use Rattle.journey_lent.proofs.LinesWritten.{ask_back, ask_begins, answer_back}
use Rattle.journey_lent.proofs.LinesRead.{ask_is_ok, answer_is_ok, answer_begins}

pub lawful : Lawful lines
lawful =
    record {
      ask_back = ask_back;
      answer_back = answer_back;
      ask_is_ok = ask_is_ok;
      answer_is_ok = answer_is_ok;
      ask_has_kind = λ a z ok e. asks_apart (answer_order (num 1 (frame_of (ask_line a)))) a.query.order (sym (answer_begins (ask_line a) z e) ∙ ask_begins a ok);
    }
