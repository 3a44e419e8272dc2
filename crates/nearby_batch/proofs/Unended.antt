-- The lines of a buffer: an example, and that one without 0A is a line too, which the reader refuses under 9. Assumes nothing.
use Prim.Native.Nat.{ℕ, suc}
use mathlib.Core.Path.{◌≡◌, refl, ap, ◌∙◌}
use mathlib.Core.Bool.{Bool, true, false, ◌&&◌}
use mathlib.Core.List.{List, [], ◌∷◌}
use lib.Dec.{ltb, leb}
use lib.ListN.{length, get_or}
use borrow.Author.Tests.{ne_eqb}
use Rattle.paper.specs.Outcomes.{Outcome, refused, gives, onto}
use Rattle.paper.specs.Tree.{Store}
use Rattle.paper.specs.Frames.{digit, pairs_ended, is_line}
use Rattle.paper.specs.Ends.{Ask, table_of, answer_to, line_answered}
use Rattle.paper.specs.Codec.{lines, read_ask, answer_line}
use Rattle.paper.specs.Calls.{table_refusal, office_call}
use Rattle.paper.proofs.Outcomes.{must_stop}
use Rattle.walk_tested.proofs.TableLaws.{table_goes}
use Rattle.nearby_batch.specs.Batch.{cut_at, line_at, start_at, nth_line, alone}
use Rattle.paper.specs.Limits.{longest_answer}

-- 7A 0A 0A 30 31: a line of two characters, an empty one, and one that has no end
abbrev three : List ℕ
three = 122 ∷ 10 ∷ 10 ∷ 48 ∷ 49 ∷ []

pub three_lines : (nth_line 0 three ≡ 122 ∷ 10 ∷ []) × (nth_line 1 three ≡ 10 ∷ []) × (nth_line 2 three ≡ 48 ∷ 49 ∷ []) × (start_at 3 three ≡ 5)
unfolding nth_line line_at start_at cut_at
three_lines = (refl, refl, refl, refl)

unended : (l : List ℕ) → ((i : ℕ) → get_or l i 0 ≡ 10 → ⊥) → pairs_ended l ≡ false
unfolding pairs_ended
unended [] h = refl
unended (a ∷ []) h = ne_eqb a 10 (h 0)
unended (a ∷ b ∷ l) h = go (ltb (digit a) 16) (ltb (digit b) 16) (unended l (λ i. h (suc (suc i))))
  where
    go : (x y : Bool) → pairs_ended l ≡ false → (x && (y && pairs_ended l)) ≡ false
    go true true e = e
    go true false e = refl
    go false y e = refl

unsound : (l : List ℕ) → pairs_ended l ≡ false → is_line l ≡ false
unfolding is_line
unsound l e = go (ltb 1 (length l)) (leb (length l) longest_answer)
  where
    go : (x y : Bool) → (x && (y && pairs_ended l)) ≡ false
    go true true = e
    go true false = refl
    go false y = refl

pub unended_refused : (s : Store) (asks : List ℕ) (k : ℕ) → 0 ≡ table_refusal s → ((i : ℕ) → get_or (nth_line k asks) i 0 ≡ 10 → ⊥) → alone s asks k ≡ refused 9
unfolding alone office_call line_answered read_ask
unended_refused s asks k ok h =
    table_goes s 0 ok refl (line_answered lines (table_of s) (nth_line k asks))
    ∙ ap (λ (o : Outcome Ask). onto o (λ a. onto (answer_to (table_of s) a) (λ y. gives (answer_line y))))
    (must_stop (is_line (nth_line k asks)) 9 _ (unsound (nth_line k asks) (unended (nth_line k asks) h)))
