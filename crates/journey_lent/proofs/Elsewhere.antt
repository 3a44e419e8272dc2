-- [7.14] No line from elsewhere reads as an answer under this table's number. Assumes nothing.
use Prim.Native.Nat.{ℕ}
use mathlib.Core.Path.{◌≡◌, sym, ap, ◌∙◌}
use mathlib.Core.Bool.{not}
use mathlib.Core.List.{List}
use lib.Dec.{leb}
use borrow.Author.Tests.{leb-true, eqb-true, not-true}
use Rattle.paper.specs.Orders.{Query, query_in}
use Rattle.paper.specs.Outcomes.{gives}
use Rattle.paper.specs.Tree.{Store, fits, sound}
use Rattle.paper.specs.Ends.{Ask, Answer, table_of, matches, answer_of, answer_to, line_answered, answer_room, Listing, present_ask, sound_in, size_holds, ask_room, asking}
use Rattle.paper.specs.Lists.{Held, room_for, listing, held_well, asking_held}
use Rattle.paper.specs.Calls.{office_call}
use Rattle.paper.specs.Codec.{lines, answer_line, read_ask, read_answer}
use Rattle.paper.proofs.Tests.{and_first, and_second}
use Rattle.paper.proofs.Outcomes.{must_test, must_rest, through, same_given}
use Rattle.orders.specs.LawfulLines.{Typed, QueryInRange, AskInRange, AnswerInRange}
use Rattle.orders.proofs.Sound.{soundness}
use Rattle.journey_lent.proofs.RealLines.{lawful}
use Rattle.journey.specs.World.{Unshared}
use Rattle.journey.proofs.Answers.{asked_ok, answer_is_ok, replied}
use Rattle.journey_lent.specs.Elsewhere.{References, Foreign, answered, asked, unread}
use Rattle.journey_lent.proofs.Seen.{table_ok}

-- what an office answers reads as an answer under its own table's number
office_number : (s : Store) → References s.references → (out : ℕ) (line given : List ℕ) → office_call s out line ≡ gives given
    → (z : Answer) → read_answer given ≡ gives z → z.query.table ≡ s.table.number
unfolding office_call line_answered
office_number s typed out line given e z r =
    let e1 = must_rest (answer_room out) 12 _ _ e in
    let e2 = must_rest (fits s) 1 _ _ e1 in
    let e3 = must_rest (sound s) 2 _ _ e2 in
    let t = table_ok s (must_test (fits s) 1 _ _ e1) (must_test (sound s) 2 _ _ e2) typed in
    let a1 = through (read_ask line) _ _ e3 in
    let a : Ask = a1.value in
    let a2 = through (answer_to (table_of s) a) _ _ a1.second in
    let y : Answer = a2.value in
    let ok = lawful.ask_is_ok line a a1.first in
    let rep = replied (table_of s) a y a2.first in
    let yok : AnswerInRange y = rw rep.is (answer_is_ok (table_of s) a t ok rep.held) in
    let q : y.query ≡ a.query = unfold answer_of in ap (λ (x : Answer). x.query) rep.is in
    let is : answer_line y ≡ given = same_given _ _ a2.second in
    let read : read_answer (answer_line y) ≡ gives z = rw is r in
    let same : z ≡ y = same_given _ _ (sym read ∙ lawful.answer_back y yok) in
    let ours : a.query.table ≡ s.table.number = unfold matches in eqb-true a.query.table s.table.number (and_first _ _ rep.ours) in
    ap (λ (x : Answer). x.query.table) same ∙ ap (λ (x : Query). x.table) q ∙ ours

-- what a list asks reads as no answer
ask_unread : (h : Held) → Typed (query_in h.list.query) → (size out : ℕ) (given : List ℕ) → asking_held lines h size out ≡ gives given
    → (z : Answer) → read_answer given ≡ gives z → ⊥
unfolding asking_held asking listing
ask_unread h typed size out given e z r =
    let L : Listing = listing h in
    let e0 = must_rest (held_well h.list.query) 2 _ _ e in
    let e1 = must_rest (sound_in (room_for h) L) 2 _ _ e0 in
    let e2 = must_rest (not L.complete) 16 _ _ e1 in
    let e3 = must_rest (size_holds size) 6 _ _ e2 in
    let well = must_test (sound_in (room_for h) L) 2 _ _ e0 in
    let unfinished = not-true _ (must_test (not L.complete) 16 _ _ e1) in
    let ranged = must_test (size_holds size) 6 _ _ e2 in
    let s = soundness (room_for h) L well in
    let ok : QueryInRange L.query = record { range = s.range; long = s.long; typed = typed } in
    let is : lines.ask_line (present_ask L size) ≡ given = same_given _ _ (must_rest (ask_room out) 12 _ _ e3) in
    let ask : AskInRange (present_ask L size) =
    asked_ok (room_for h) size L ok well unfinished (leb-true _ _ (and_first _ _ ranged)) (leb-true _ _ (and_second (leb 1 size) _ ranged)) in
    lawful.ask_has_kind (present_ask L size) z ask (rw is r)

pub unshared : (number : ℕ) → Unshared lines (Foreign number) number
unfolding Unshared
unshared number = go
  where
    go : (s : List ℕ) → Foreign number s → (y : Answer) → read_answer s ≡ gives y → y.query.table ≡ number → ⊥
    go s (answered t typed other out line given e) y r q = other (sym (office_number t typed out line s e y r) ∙ q)
    go s (asked h typed size out given e) y r q = ask_unread h typed size out s e y r
    go s (unread given f) y r q = f y r
