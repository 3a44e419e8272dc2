-- An ask line served: its answer, or the number that it is refused with, is put behind what was written. Assumes nothing.
use Prim.Native.Nat.{ℕ, ◌+◌, ◌-◌, ◌≤◌}
use mathlib.Core.Path.{◌≡◌, refl, sym, ap, ◌∙◌, subst}
use mathlib.Core.List.{List, ◌++◌}
use native.Mathlib.Omega.{arith}
use lib.ListN.{length, take, drop, length-append}
use Rattle.paper.specs.Limits.{longest_answer}
use Rattle.paper.specs.Tree.{Store}
use Rattle.paper.specs.Outcomes.{Outcome, refused, gives}
use Rattle.paper.specs.Ends.{Ask, table_of}
use Rattle.paper.specs.Program.{Books, opened, reply_to, reply, refusal, ask_turn}
use Rattle.paper.specs.Lines.{wrote_shown, Writes}
use Rattle.office_serve.specs.Serving.{Put, books_of}
use Rattle.office_serve.proofs.Written.{lent_length, lent_put, lent_same}
use Rattle.office_serve.proofs.ClaimServed.{books_none, books_some}

-- ---- what an answer tells

record Told (o : Outcome (List ℕ)) (n : ℕ) : Type 0 where
  pub line : List ℕ
  pub is : o ≡ gives line
  pub long : length line ≡ n

told : (o : Outcome (List ℕ)) (n : ℕ) → wrote_shown o ≡ gives n → Told o n
told (refused m) n e = absurd (let z : ◌≡◌ {A = ℕ} 0 1 = cc in omega arith)
told (gives line) n e = record { line = line; is = refl; long = cc }

told_refused : (o : Outcome (List ℕ)) (n : ℕ) → wrote_shown o ≡ refused n → o ≡ refused n
told_refused (refused m) n e = let q : m ≡ n = cc in ap refused q
told_refused (gives line) n e = absurd (let z : ◌≡◌ {A = ℕ} 0 1 = cc in omega arith)

-- ---- an ask

module _ (s : Store) (a : Ask) (out : List ℕ) (at : ℕ) where
  abbrev Reply : List ℕ
  Reply = (ask_turn (books_of s) (reply (books_of s) a)).printed

  printed_none : s.table.count ≡ 0 → Reply ≡ refusal 11
  unfolding reply ask_turn
  printed_none z = ap (λ (b : Books). (ask_turn b (reply b a)).printed) (books_none s z)

  printed_some : (s.table.count ≡ 0 → ⊥) → (o : Outcome (List ℕ)) → reply_to (table_of s) a ≡ o → Reply ≡ (ask_turn (opened (table_of s)) o).printed
  unfolding reply
  printed_some z o e =
      ap (λ (b : Books). (ask_turn b (reply b a)).printed) (books_some s z)
      ∙ ap (λ (x : Outcome (List ℕ)). (ask_turn (opened (table_of s)) x).printed) e

  pub ask_none : (l : List ℕ) (e : ℕ) → s.table.count ≡ 0 → Put (refusal 11) out at l e → Put Reply out at l e
  ask_none l e z p = rw (printed_none z) p

  -- the office wrote its answer into the room from `at` on, which is then `part`
  module _ (some : s.table.count ≡ 0 → ⊥) (k : ℕ) (rest : k ≡ length out - at) (room : at + longest_answer ≤ length out) (part : List ℕ) (n : ℕ) where
    module _ (says : Writes (reply_to (table_of s) a) (take k (drop at out)) (refused n) part) where
      refuses : reply_to (table_of s) a ≡ refused n
      refuses = told_refused (reply_to (table_of s) a) n (sym says.result)

      same : take at out ++ (part ++ drop k (drop at out)) ≡ out
      same = lent_same out at k rest part (omega arith) (rw refuses at says.memory)

      pub refuse_ready : at + 11 ≤ length (take at out ++ (part ++ drop k (drop at out)))
      refuse_ready = rw same (omega arith)

      pub ask_refused : (l : List ℕ) (e : ℕ) → Put (refusal n) (take at out ++ (part ++ drop k (drop at out))) at l e → Put Reply out at l e
      unfolding ask_turn
      ask_refused l e p =
          let q : Reply ≡ refusal n = printed_some some (refused n) refuses in
          subst (λ (x : List ℕ). Put x out at l e) (sym q) (rw same at p)

    module _ (says : Writes (reply_to (table_of s) a) (take k (drop at out)) (gives n) part) (kept : length part ≡ length (take k (drop at out))) where
      line_told : Told (reply_to (table_of s) a) n
      line_told = told (reply_to (table_of s) a) n (sym says.result)

      part_is : part ≡ line_told.line ++ drop (length line_told.line) (take k (drop at out))
      part_is = rw line_told.is at says.memory

      pub line_inside : at + n ≤ length out
      line_inside =
          let l = line_told.line in
          let m = ap length part_is ∙ length-append l (drop (length l) (take k (drop at out))) in
          omega (arith, m, kept, lent_length out at k rest, line_told.long)

      pub ask_line_lem : Put Reply out at (take at out ++ (part ++ drop k (drop at out))) (at + n)
      unfolding ask_turn
      ask_line_lem =
          let t = line_told in
          let h : at + length t.line ≤ length out = omega (arith, line_inside, t.long) in
          let q : Reply ≡ t.line = printed_some some (gives t.line) t.is in
          subst (λ (x : List ℕ). Put x out at (take at out ++ (part ++ drop k (drop at out))) (at + n)) (sym q)
          (record { out = lent_put out at k rest t.line part h part_is; end = omega (arith, t.long); short = line_inside })
