-- How a batch stands after n lines: their answer lines in front of one room, their rows in front of the other, and behind them what was there. Assumes nothing.
use Prim.Native.Nat.{ℕ, zero, suc, ◌+◌, ◌*◌, ◌≤◌}
use mathlib.Core.Path.{◌≡◌, refl, sym, ap, ◌∙◌, subst}
use mathlib.Core.Bool.{Bool, true, false, cond}
use mathlib.Core.List.{List, [], ◌∷◌, ◌++◌, append_assoc}
use native.Mathlib.Omega.{arith}
use native.Mathlib.Numerals.{add-one}
use lib.Dec.{leb}
use lib.ListN.{length, take, drop, set, length-append, length-drop}
use lib.Seq.{take_at, drop_at, drop-drop}
use borrow.Author.Tests.{le-leb}
use Rattle.paper.specs.Outcomes.{Outcome, refused, gives, number, leaves}
use Rattle.paper.specs.Tree.{Store}
use Rattle.paper.specs.Lines.{put_line}
use Rattle.paper.specs.Calls.{office_call}
use Rattle.paper.proofs.Outcomes.{must_go}
use Rattle.nearby_batch.specs.Batch.{line_at, Batch, batch_start, answer_now, length_given, row_put, step_by, step, goes, batch_answered, start_at, nth_line, alone, line_given, answers_of, rows_of, batch_at}
use Rattle.nearby_batch.proofs.Steps.{goes_room_for, same_batch}
use Rattle.paper.specs.Limits.{longest_answer}

-- ---- one step

-- the single call asks for 573 characters, and more change nothing
pub office_any_room : (s : Store) (room : ℕ) (line : List ℕ) → longest_answer ≤ room → office_call s room line ≡ office_call s longest_answer line
unfolding office_call
office_any_room s room line h = must_go (leb longest_answer room) 12 _ (le-leb longest_answer room h)

pub given_size : (o : Outcome (List ℕ)) → length (line_given o) ≡ length_given o
unfolding line_given length_given
given_size (refused n) = refl
given_size (gives line) = refl

room_is : (o : Outcome (List ℕ)) (room : List ℕ) → leaves put_line o room ≡ line_given o ++ drop (length (line_given o)) room
unfolding line_given
room_is (refused n) room = refl
room_is (gives line) room = refl

row_put_lem : (rows behind : List ℕ) (x y : ℕ) → 2 ≤ length behind
    → set (set (rows ++ behind) (length rows) x) (suc (length rows)) y ≡ (rows ++ (x ∷ y ∷ [])) ++ drop 2 behind
row_put_lem [] [] x y h = absurd (omega arith)
row_put_lem [] (a ∷ []) x y h = absurd (omega arith)
row_put_lem [] (a ∷ b ∷ behind) x y h = refl
row_put_lem (r ∷ rows) behind x y h = ap (λ (l : List ℕ). r ∷ l) (row_put_lem rows behind x y h)

module _ (s : Store) (asks : List ℕ) where
  pub rows_long : (n : ℕ) → length (rows_of n s asks) ≡ 2 * n
  unfolding rows_of
  rows_long zero = refl
  rows_long (suc n) =
      let m = length-append (rows_of n s asks) (number (alone s asks n) ∷ length_given (alone s asks n) ∷ []) in
      omega (arith, m, rows_long n)

  module _ (outcomes out : List ℕ) where
    module _ (n : ℕ) (e : goes asks (batch_at n s asks outcomes out) ≡ true) where
      abbrev Rows : List ℕ
      Rows = rows_of n s asks

      abbrev Given : List ℕ
      Given = answers_of n s asks

      rows_left : 2 ≤ length (drop (2 * n) outcomes)
      unfolding batch_at
      rows_left =
          let h = (goes_room_for asks (batch_at n s asks outcomes out) e).row in
          omega (arith, h, length-append Rows (drop (2 * n) outcomes), rows_long n)

      behind_given : drop (length Given) (Given ++ drop (length Given) out) ≡ drop (length Given) out
      behind_given = drop_at Given (drop (length Given) out) (length Given) refl

      room_left : longest_answer ≤ length (drop (length Given) (Given ++ drop (length Given) out))
      unfolding batch_at
      room_left =
          let h = (goes_room_for asks (batch_at n s asks outcomes out) e).room in
          omega (arith, h, length-drop (length Given) (Given ++ drop (length Given) out))

      pub answer_as_alone : answer_now s asks (batch_at n s asks outcomes out) ≡ alone s asks n
      unfolding answer_now alone nth_line batch_at
      answer_as_alone = office_any_room s (length (drop (length Given) (Given ++ drop (length Given) out))) (line_at asks (start_at n asks)) room_left

      row_at : (x y : ℕ) → row_put (Rows ++ drop (2 * n) outcomes) n x y ≡ (Rows ++ (x ∷ y ∷ [])) ++ drop (2 * suc n) outcomes
      unfolding row_put
      row_at x y =
          let p : 2 * n + 1 ≡ suc (length Rows) = omega (arith, rows_long n) in
          let q : 2 * n + 2 ≡ 2 * suc n = omega arith in
          ap (λ (i : ℕ). set (set (Rows ++ drop (2 * n) outcomes) (2 * n) x) i y) p
          ∙ ap (λ (i : ℕ). set (set (Rows ++ drop (2 * n) outcomes) i x) (suc (length Rows)) y) (sym (rows_long n))
          ∙ row_put_lem Rows (drop (2 * n) outcomes) x y rows_left
          ∙ ap (λ (l : List ℕ). (Rows ++ (x ∷ y ∷ [])) ++ l) (drop-drop 2 (2 * n) outcomes ∙ ap (λ (i : ℕ). drop i outcomes) q)

      out_at : (o : Outcome (List ℕ))
          → take (length Given) (Given ++ drop (length Given) out) ++ leaves put_line o (drop (length Given) (Given ++ drop (length Given) out))
          ≡ (Given ++ line_given o) ++ drop (length (Given ++ line_given o)) out
      out_at o =
          rw (take_at Given (drop (length Given) out) (length Given) refl, behind_given, room_is o (drop (length Given) out), drop-drop (length (line_given o)) (length Given) out, length-append Given (line_given o))
          (sym (append_assoc Given (line_given o) (drop (length Given + length (line_given o)) out)))

      step_by_lem : (o : Outcome (List ℕ)) → o ≡ alone s asks n → step_by o asks (batch_at n s asks outcomes out) ≡ batch_at (suc n) s asks outcomes out
      unfolding step_by batch_at start_at answers_of rows_of
      step_by_lem o q =
          rw q
          (same_batch (add-one n) refl
          (sym (length-append Given (line_given (alone s asks n)) ∙ ap (λ (i : ℕ). length Given + i) (given_size (alone s asks n))))
          (row_at (number (alone s asks n)) (length_given (alone s asks n))) (out_at (alone s asks n)))

      pub step_is : step s asks (batch_at n s asks outcomes out) ≡ batch_at (suc n) s asks outcomes out
      unfolding step
      step_is = step_by_lem (answer_now s asks (batch_at n s asks outcomes out)) answer_as_alone

    -- ---- all steps

    answered_is : (f n : ℕ)
        → batch_answered f s asks (batch_at n s asks outcomes out) ≡ batch_at (batch_answered f s asks (batch_at n s asks outcomes out)).lines s asks outcomes out
    unfolding batch_answered batch_at
    answered_is zero n = refl
    answered_is (suc f) n = go (goes asks (batch_at n s asks outcomes out)) refl (answered_is f (suc n))
      where
        go : (b : Bool) → goes asks (batch_at n s asks outcomes out) ≡ b
            → batch_answered f s asks (batch_at (suc n) s asks outcomes out) ≡ batch_at (batch_answered f s asks (batch_at (suc n) s asks outcomes out)).lines s asks outcomes out
            → cond b (batch_answered f s asks (step s asks (batch_at n s asks outcomes out))) (batch_at n s asks outcomes out)
            ≡ batch_at (cond b (batch_answered f s asks (step s asks (batch_at n s asks outcomes out))) (batch_at n s asks outcomes out)).lines s asks outcomes out
        go true e deep = subst (λ (b : Batch). batch_answered f s asks b ≡ batch_at (batch_answered f s asks b).lines s asks outcomes out) (sym (step_is n e)) deep
        go false e deep = refl

-- ---- the whole result

module _ (s : Store) (asks outcomes out : List ℕ) (f : ℕ) where
  abbrev Result : Batch
  Result = batch_answered f s asks (batch_start outcomes out)

  abbrev Count : ℕ
  Count = Result.lines

  -- the whole result: the answer lines in front of one room, the rows in front of the other, and behind them what was there
  pub batch_is : Result ≡ batch_at Count s asks outcomes out
  unfolding batch_at answers_of rows_of start_at
  batch_is = answered_is s asks outcomes out f 0

  pub written_is : Result.written ≡ length (answers_of Count s asks)
  unfolding batch_at
  written_is = ap (λ (b : Batch). b.written) batch_is

  pub out_is : Result.out ≡ answers_of Count s asks ++ drop (length (answers_of Count s asks)) out
  unfolding batch_at
  out_is = ap (λ (b : Batch). b.out) batch_is

  pub outcomes_is : Result.outcomes ≡ rows_of Count s asks ++ drop (2 * Count) outcomes
  unfolding batch_at
  outcomes_is = ap (λ (b : Batch). b.outcomes) batch_is

  pub answers_in_front : take Result.written Result.out ≡ answers_of Count s asks
  answers_in_front =
      ap (λ (l : List ℕ). take Result.written l) out_is
      ∙ take_at (answers_of Count s asks) (drop (length (answers_of Count s asks)) out) Result.written (sym written_is)

  pub out_behind : drop Result.written Result.out ≡ drop Result.written out
  out_behind =
      ap (λ (l : List ℕ). drop Result.written l) out_is
      ∙ drop_at (answers_of Count s asks) (drop (length (answers_of Count s asks)) out) Result.written (sym written_is)
      ∙ ap (λ (i : ℕ). drop i out) (sym written_is)

  pub outcomes_behind : drop (2 * Count) Result.outcomes ≡ drop (2 * Count) outcomes
  outcomes_behind =
      ap (λ (l : List ℕ). drop (2 * Count) l) outcomes_is ∙ drop_at (rows_of Count s asks) (drop (2 * Count) outcomes) (2 * Count) (rows_long s asks Count)
