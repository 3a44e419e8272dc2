-- One law for each way through the questions, the office and the calls on a list. Assumes nothing.
use Prim.Native.Nat.{ℕ, ◌<◌, ◌≤◌}
use mathlib.Core.Path.{◌≡◌, refl, sym, ap, ◌∙◌}
use mathlib.Core.Bool.{Bool, true, false, ◌&&◌}
use mathlib.Core.List.{List}
use lib.Dec.{leb}
use lib.IntN.{ℤ}
use lib.ListN.{length}
use borrow.Author.Tests.{le-leb, lt-leb}
use Rattle.std.specs.Prelude.{Option}
use Rattle.paper.specs.declared.orders.Item.{Item}
use Rattle.paper.specs.Outcomes.{Outcome, refused, gives, must}
use Rattle.paper.specs.Tree.{Store}
use Rattle.paper.specs.Ends.{table_of, line_answered, sound_in, asking, taking}
use Rattle.paper.specs.Lists.{Takes, Held, listing, room_for, held_well, sound_held, asking_held, taking_held}
use Rattle.paper.specs.Codec.{lines}
use Rattle.paper.specs.Calls.{table_refusal, aimed, office_call}
use Rattle.paper.specs.Lines.{Writes}
use Rattle.end_office.specs.Desk.{Open}
use Rattle.lines.proofs.WritersReaders.{writes_refused}
use Rattle.paper.proofs.Outcomes.{must_stop, must_go}
use Rattle.end_tablet.proofs.TakeLaws.{takes_refused}
use Rattle.walk_tested.proofs.TableLaws.{table_refused, table_good, table_goes, aim_stops, aim_goes}
use Rattle.paper.specs.Limits.{longest_answer}

-- ---- [9.7] nearest and farthest

module _ (s : Store) (probe : List ℤ) (n : ℕ) (we : n ≡ table_refusal s) (x : Option Item) where
  pub ask_refused : (n ≡ 0 → ⊥) → refused n ≡ aimed s probe (gives x)
  ask_refused h = sym (table_refused s n we _ h)

  module _ (ok : n ≡ 0) where
    pub ask_5 : (length probe ≡ s.table.d → ⊥) → refused 5 ≡ aimed s probe (gives x)
    ask_5 h = sym (aim_stops s probe n we ok (gives x) h)

    pub ask_answered : length probe ≡ s.table.d → (f : Option Item) → f ≡ x → gives f ≡ aimed s probe (gives x)
    ask_answered h f e = ap (λ (y : Option Item). gives y) e ∙ sym (aim_goes s probe n we ok (gives x) h)

-- ---- calls that write a line

-- [9.10] the office: 12, 1, 2
module _ (s : Store) (out line : List ℕ) where
  pub office_12 : length out < longest_answer → Writes (office_call s (length out) line) out (refused 12) out
  unfolding office_call
  office_12 h = writes_refused _ 12 out (must_stop (leb longest_answer (length out)) 12 _ (lt-leb longest_answer (length out) h))

  module _ (long : longest_answer ≤ length out) (n : ℕ) (we : n ≡ table_refusal s) where
    pub office_refused : (n ≡ 0 → ⊥) → Writes (office_call s (length out) line) out (refused n) out
    unfolding office_call
    office_refused h = writes_refused _ n out (must_go (leb longest_answer (length out)) 12 _ (le-leb longest_answer (length out) long) ∙ table_refused s n we _ h)

    pub office_open : n ≡ 0 → Open s (length out)
    office_open ok = record { good = table_good s n we ok; room = long }

    pub office_answers : n ≡ 0 → (r : Outcome ℕ) (after : List ℕ) → Writes (line_answered lines (table_of s) line) out r after → Writes (office_call s (length out) line) out r after
    unfolding office_call
    office_answers ok r after w =
        let e : office_call s (length out) line ≡ line_answered lines (table_of s) line =
        must_go (leb longest_answer (length out)) 12 _ (le-leb longest_answer (length out) long) ∙ table_goes s n we ok _ in
        rw e w

-- ---- [8.2] a list that is not sound

two : {A : Type 0} (a b : Bool) (x : Outcome A) → (a && b) ≡ false → must a 2 (must b 2 x) ≡ refused 2
two true b x h = must_stop b 2 x h
two false b x h = refl

module _ (s : Held) (a : Bool) (ae : a ≡ sound_held s) (h : a ≡ false) where
  unsound : (held_well s.list.query && sound_in (room_for s) (listing s)) ≡ false
  unfolding sound_held
  unsound = sym ae ∙ h

  pub ask_unsound : (size : ℕ) (out : List ℕ) → Writes (asking_held lines s size (length out)) out (refused 2) out
  unfolding asking_held asking
  ask_unsound size out = writes_refused _ 2 out (two (held_well s.list.query) (sound_in (room_for s) (listing s)) _ unsound)

  pub take_unsound : (line : List ℕ) → Takes s.list (taking_held lines s line) s.room (refused 2) s.room
  unfolding taking_held taking
  take_unsound line = takes_refused s.list _ 2 s.room (two (held_well s.list.query) (sound_in (room_for s) (listing s)) _ unsound)
