-- What answering line after line comes to: every line as the single call answers it, and why it stops. Assumes nothing.
use Prim.Native.Nat.{ℕ, zero, suc, ◌+◌, ◌*◌, ◌<◌, ◌≤◌}
use mathlib.Core.Path.{◌≡◌, refl, ap, ◌∙◌}
use mathlib.Core.Bool.{Bool, true, false, cond}
use mathlib.Core.List.{List, [], ◌∷◌, ◌++◌, append-nil, append_assoc}
use native.Mathlib.Omega.{arith}
use native.Mathlib.Decide.{ℕ_discrete}
use lib.ListN.{length, get_or, take, drop, get_or-append}
use lib.Seq.{take_at, drop_at, get_or-append-add}
use borrow.Author.Tests.{le-ltb}
use Rattle.paper.specs.Outcomes.{number}
use Rattle.paper.specs.Tree.{Store}
use Rattle.nearby_batch.specs.Batch.{Batch, batch_start, length_given, step_by, step, goes, batch_answered, alone, line_given, answers_of, rows_of, LineAsAlone}
use Rattle.nearby_batch.proofs.Cutting.{cut_on}
use Rattle.nearby_batch.proofs.Steps.{goes_room_for}
use Rattle.nearby_batch.proofs.BatchSoFar.{given_size, rows_long, out_is, outcomes_is}

-- ---- each line

line_of : (a l rest behind all : List ℕ) (m : ℕ) → all ≡ (a ++ (l ++ rest)) ++ behind → length l ≡ m → take m (drop (length a) all) ≡ l
line_of a l rest behind all m e q =
    rw (e, append_assoc a (l ++ rest) behind, drop_at a ((l ++ rest) ++ behind) (length a) refl, append_assoc l rest behind)
    (take_at l (rest ++ behind) m q)

module _ (s : Store) (asks : List ℕ) where
  row_of : (n k i : ℕ) → k < n → i < 2 → get_or (rows_of n s asks) (2 * k + i) 0 ≡ get_or (number (alone s asks k) ∷ length_given (alone s asks k) ∷ []) i 0
  unfolding rows_of
  row_of zero k i h j = absurd (omega arith)
  row_of (suc n) k i h j = go (ℕ_discrete k n) (row_of n k i)
    where
      go : Dec (k ≡ n) → (k < n → i < 2 → get_or (rows_of n s asks) (2 * k + i) 0 ≡ get_or (number (alone s asks k) ∷ length_given (alone s asks k) ∷ []) i 0)
          → get_or (rows_of n s asks ++ (number (alone s asks n) ∷ length_given (alone s asks n) ∷ [])) (2 * k + i) 0 ≡ get_or (number (alone s asks k) ∷ length_given (alone s asks k) ∷ []) i 0
      go (yes e) deep =
          let q : 2 * k + i ≡ length (rows_of n s asks) + i = omega (arith, rows_long s asks n) in
          rw (q, e) (get_or-append-add (rows_of n s asks) (number (alone s asks n) ∷ length_given (alone s asks n) ∷ []) i 0)
      go (no ne) deep =
          get_or-append (rows_of n s asks) (number (alone s asks n) ∷ length_given (alone s asks n) ∷ []) 0 (2 * k + i) (omega (arith, rows_long s asks n)) ∙ deep (omega arith) j

  -- the answer lines go on behind line k's
  record Parts (n k : ℕ) : Type 0 where
    pub rest : List ℕ
    pub is : answers_of n s asks ≡ answers_of k s asks ++ (line_given (alone s asks k) ++ rest)

  parts : (n k : ℕ) → k < n → Parts n k
  unfolding answers_of
  parts zero k h = absurd (omega arith)
  parts (suc n) k h = go (ℕ_discrete k n) (parts n k)
    where
      go : Dec (k ≡ n) → (k < n → Parts n k) → Parts (suc n) k
      go (yes e) deep = record { rest = []; is = rw (e, append-nil) }
      go (no ne) deep =
          let p = deep (omega arith) in
          record {
            rest = p.rest ++ line_given (alone s asks n);
            is = ap (λ (l : List ℕ). l ++ line_given (alone s asks n)) p.is ∙ simp append_assoc;
          }

  module _ (outcomes out : List ℕ) (f k : ℕ) (h : k < (batch_answered f s asks (batch_start outcomes out)).lines) where
    abbrev Done : Batch
    Done = batch_answered f s asks (batch_start outcomes out)

    row_in : (i : ℕ) → i < 2 → get_or Done.outcomes (2 * k + i) 0 ≡ get_or (number (alone s asks k) ∷ length_given (alone s asks k) ∷ []) i 0
    row_in i j =
        ap (λ (l : List ℕ). get_or l (2 * k + i) 0) (outcomes_is s asks outcomes out f)
        ∙ get_or-append (rows_of Done.lines s asks) (drop (2 * Done.lines) outcomes) 0 (2 * k + i) (omega (arith, rows_long s asks Done.lines))
        ∙ row_of Done.lines k i h j

    line_in_lem : take (length_given (alone s asks k)) (drop (length (answers_of k s asks)) Done.out) ≡ line_given (alone s asks k)
    line_in_lem =
        let p = parts Done.lines k h in
        line_of (answers_of k s asks) (line_given (alone s asks k)) p.rest (drop (length (answers_of Done.lines s asks)) out) Done.out (length_given (alone s asks k))
        (out_is s asks outcomes out f ∙ ap (λ (l : List ℕ). l ++ drop (length (answers_of Done.lines s asks)) out) p.is) (given_size (alone s asks k))

    pub each_line_as_alone : LineAsAlone s asks Done k
    each_line_as_alone =
        let q : 2 * k ≡ 2 * k + 0 = omega arith in
        record {
          refusal = ap (λ (i : ℕ). get_or Done.outcomes i 0) q ∙ row_in 0 (omega arith);
          size = row_in 1 (omega arith);
          line = line_in_lem;
        }

-- ---- why it stops

goes_end : (asks : List ℕ) (b : Batch) → length asks ≤ b.used → goes asks b ≡ false
unfolding goes
goes_end asks b h = rw (le-ltb b.used (length asks) h)

module _ (s : Store) (asks : List ℕ) where
  stopped : (f : ℕ) (b : Batch) → length asks ≤ b.used + f → goes asks (batch_answered f s asks b) ≡ false
  unfolding batch_answered step step_by
  stopped zero b h = goes_end asks b (omega arith)
  stopped (suc f) b h = go (goes asks b) refl (stopped f (step s asks b))
    where
      go : (c : Bool) → goes asks b ≡ c → (length asks ≤ (step s asks b).used + f → goes asks (batch_answered f s asks (step s asks b)) ≡ false)
          → goes asks (cond c (batch_answered f s asks (step s asks b)) b) ≡ false
      go true e deep = deep (let m = cut_on asks b.used (goes_room_for asks b e).unread in omega (arith, m))
      go false e deep = e

  -- the asks are used up, or one of the rooms is
  pub stops_for_want : (outcomes out : List ℕ) → goes asks (batch_answered (length asks) s asks (batch_start outcomes out)) ≡ false
  stops_for_want outcomes out = stopped (length asks) (batch_start outcomes out) (omega arith)
