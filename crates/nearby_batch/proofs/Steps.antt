-- One line answered: when there is one, and that the batch then stands one step further. Assumes nothing.
use Prim.Native.Nat.{ℕ, ◌+◌, ◌*◌, ◌-◌, ◌<◌, ◌≤◌}
use mathlib.Core.Path.{◌≡◌, refl, ap, ◌∙◌}
use mathlib.Core.Bool.{true, ◌&&◌}
use mathlib.Core.List.{List, [], ◌++◌, append-nil}
use native.Mathlib.Omega.{arith}
use lib.Dec.{ltb, leb}
use lib.ListN.{length, take, drop, length-append, length-drop, drop_of_length-le}
use lib.Seq.{take_all}
use borrow.Author.Tests.{ltb-true, leb-true}
use Rattle.std.specs.Prelude.{Result, Ok, Err}
use Rattle.std.specs.Result.{result_unwrap_or}
use Rattle.paper.specs.declared.refusals.Refusal.{Refusal}
use Rattle.paper.specs.Outcomes.{Outcome, refused, gives, number, leaves, told}
use Rattle.paper.specs.Tree.{Store}
use Rattle.paper.specs.Ends.{table_of, line_answered}
use Rattle.paper.specs.Codec.{lines}
use Rattle.paper.proofs.Tests.{and_first, and_second}
use Rattle.paper.specs.Lines.{wrote_shown, put_line, Writes}
use Rattle.end_office.specs.Desk.{Open}
use Rattle.nearby.proofs.QuestionsAndLists.{office_open, office_answers}
use Rattle.nearby_batch.specs.Batch.{cut_at, line_at, Batch, answer_now, length_given, row_put, step_by, step, goes, batch_of, length_told, LineLeft}
use Rattle.nearby_batch.proofs.Cutting.{cut_inside}
use Rattle.paper.specs.Limits.{longest_answer}

-- ---- whether there is a line to answer

pub record Room (asks : List ℕ) (b : Batch) : Type 0 where
  pub unread : b.used < length asks
  pub row : 2 * b.lines + 2 ≤ length b.outcomes
  pub room : b.written + longest_answer ≤ length b.out

pub goes_room_for : (asks : List ℕ) (b : Batch) → goes asks b ≡ true → Room asks b
unfolding goes
goes_room_for asks b e =
    let p = ltb b.used (length asks) in
    let q = leb (2 * b.lines + 2) (length b.outcomes) in
    let r = leb (b.written + longest_answer) (length b.out) in
    record {
      unread = ltb-true b.used (length asks) (and_first p (q && r) e);
      row = leb-true (2 * b.lines + 2) (length b.outcomes) (and_first q r (and_second p (q && r) e));
      room = leb-true (b.written + longest_answer) (length b.out) (and_second q r (and_second p (q && r) e));
    }

-- ---- what was given to a line

given_refusal : (o : Outcome (List ℕ)) → number (wrote_shown o) ≡ number o
given_refusal (refused n) = refl
given_refusal (gives line) = refl

given_length_lem : (o : Outcome (List ℕ)) → length_told (wrote_shown o) ≡ length_given o
unfolding length_given
given_length_lem (refused n) = refl
given_length_lem (gives line) = refl

given_fits : (o : Outcome (List ℕ)) (room part : List ℕ) → part ≡ leaves put_line o room → length part ≡ length room → length_given o ≤ length room
unfolding length_given
given_fits (refused n) room part e k = omega arith
given_fits (gives line) room part e k =
    let m = ap length e ∙ length-append line (drop (length line) room) in
    omega (arith, m, k)

-- the length that a result gives
length_had : (r : Result ℕ Refusal) → result_unwrap_or r 0 ≡ length_told (told r)
length_had (Ok n) = refl
length_had (Err why) = refl

pub same_batch : {l l' u u' w w' : ℕ} {a a' b b' : List ℕ} → l ≡ l' → u ≡ u' → w ≡ w' → a ≡ a' → b ≡ b'
    → ◌≡◌ {A = Batch} (record { lines = l; used = u; written = w; outcomes = a; out = b }) (record { lines = l'; used = u'; written = w'; outcomes = a'; out = b' })
same_batch p q r x y = cc

-- ---- a line is answered

module _ {s : Store} {asks : List ℕ} {b : Batch} (t : LineLeft s asks b) where
  pub has : Room asks b
  has = goes_room_for asks b t.more

  module _ (e : ℕ) (ends : e ≡ b.used + cut_at (drop b.used asks)) where
    pub end_inside : e ≤ length asks
    end_inside = let h = cut_inside asks b.used has.unread in omega arith

    module _ (k : ℕ) (rest : k ≡ length b.out - b.written) where
      lent : take k (drop b.written b.out) ≡ drop b.written b.out
      lent = take_all k (drop b.written b.out) (omega (arith, length-drop b.written b.out))

      long : longest_answer ≤ length (take k (drop b.written b.out))
      long = let m = ap length lent ∙ length-drop b.written b.out in omega (arith, has.room)

      pub line_open : Open s (length (take k (drop b.written b.out)))
      line_open = office_open s (take k (drop b.written b.out)) [] long 0 t.sound refl

      module _ (w : Result ℕ Refusal) (part : List ℕ)
          (writes : Writes (line_answered lines (table_of s) (take (e - b.used) (drop b.used asks))) (take k (drop b.written b.out)) (told w) part) where
        abbrev given_now : Outcome (List ℕ)
        given_now = answer_now s asks b

        line_is : take (e - b.used) (drop b.used asks) ≡ line_at asks b.used
        unfolding line_at
        line_is =
            let q : e - b.used ≡ cut_at (drop b.used asks) = omega arith in
            ap (λ (n : ℕ). take n (drop b.used asks)) q

        as_alone : Writes given_now (drop b.written b.out) (told w) part
        unfolding answer_now
        as_alone =
            let x = office_answers s (take k (drop b.written b.out)) (take (e - b.used) (drop b.used asks)) long 0 t.sound refl (told w) part writes in
            rw (lent, line_is) at x

        length_is : length_told (told w) ≡ length_given given_now
        length_is = ap length_told as_alone.result ∙ given_length_lem given_now

        refusal_is : number (told w) ≡ number given_now
        refusal_is = ap number as_alone.result ∙ given_refusal given_now

        module _ (n : ℕ) (is : n ≡ result_unwrap_or w 0) where
          is_given : n ≡ length_given given_now
          is_given = is ∙ length_had w ∙ length_is

          pub given_inside : length part ≡ length (take k (drop b.written b.out)) → b.written + n ≤ length b.out
          given_inside kept =
              let f = given_fits given_now (drop b.written b.out) part as_alone.memory (kept ∙ ap length lent) in
              omega (arith, is_given, length-drop b.written b.out, has.room)

          pub next_stands : (outcomes' : List ℕ) → outcomes' ≡ row_put b.outcomes b.lines (number (told w)) (length_told (told w))
              → batch_of (record { lines = b.lines + 1; used = e; written = b.written + n })
              outcomes' (take b.written b.out ++ (part ++ drop k (drop b.written b.out))) ≡ step s asks b
          unfolding step step_by
          next_stands outcomes' put =
              let none : drop k (drop b.written b.out) ≡ [] = drop_of_length-le (drop b.written b.out) {i = k} (omega (arith, length-drop b.written b.out)) in
              same_batch refl ends (ap (λ (m : ℕ). b.written + m) is_given) (put ∙ cc (length_is, refusal_is))
              (rw (none, append-nil) (ap (λ (l : List ℕ). take b.written b.out ++ l) as_alone.memory))
