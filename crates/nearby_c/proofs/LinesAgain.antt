-- [5.13] [9.14] [9.15] What a reader took for C is the very line that its writer writes for C, from the fields that the reader gave. Assumes nothing.
use Prim.Native.Nat.{ℕ, ◌*◌, ◌≤◌}
use mathlib.Core.Path.{◌≡◌, refl, ap, ◌∙◌}
use mathlib.Core.Bool.{Bool, true}
use mathlib.Core.List.{List}
use lib.ListN.{length, take, drop}
use lib.Seq.{take_at}
use Rattle.paper.specs.Outcomes.{Outcome, gives, leaves}
use Rattle.paper.specs.Frames.{line_of}
use Rattle.paper.specs.Lines.{wrote_shown, put_line, bare_line, ask_fits, ask_frame, read_as_ask, answer_fits, answer_frame, read_as_answer, claim_fits, claim_frame, read_as_claim}
use Rattle.paper.specs.Limits.{longest_ask, longest_answer, longest_claim}
use Rattle.lines.proofs.WritersReaders.{bare_fits}
use Rattle.lines.proofs.AskRound.{ask_writes_back}
use Rattle.lines.proofs.AnswerRound.{answer_writes_back}
use Rattle.lines.proofs.ClaimRound.{claim_writes_back}
use Rattle.c_values.specs.declared.Written.{Written}
use Rattle.c_values.specs.Values.{written_out, WritesOut}
use Rattle.c_lists.specs.declared.AskShown.{AskShown}
use Rattle.c_lists.specs.declared.AnswerShown.{AnswerShown}
use Rattle.c_lists.specs.declared.ClaimShown.{ClaimShown}
use Rattle.c_lists.specs.Values.{query_from, scope_from, ask_out, answer_out, claim_out}
use Rattle.nearby_c.proofs.Given.{ask_given, answer_given, claim_given}

-- a room at whose front a writer put the line
pub record Again (l : List ℕ) (w : Written) (after : List ℕ) : Type 0 where
  pub refusal : w.refusal ≡ 0
  pub line : take w.length after ≡ l

again : (b : Bool) (need : ℕ) (f l out : List ℕ) (w : Written) (after : List ℕ) → b ≡ true → line_of f ≡ l → need ≤ length out
    → WritesOut (bare_line b need f (length out)) out w after → Again l w after
again b need f l out w after fit is room p =
    let e = bare_fits b need f (length out) fit room in
    let x : w ≡ written_out (gives (length (line_of f))) = p.result ∙ ap (λ (u : Outcome (List ℕ)). written_out (wrote_shown u)) e in
    let y : after ≡ put_line (line_of f) out = p.memory ∙ ap (λ (u : Outcome (List ℕ)). leaves put_line u out) e in
    record {
      refusal = ap (λ (u : Written). u.refusal) x;
      line = (λ i. take (x i).length (y i)) ∙ take_at (line_of f) (drop (length (line_of f)) out) (length (line_of f)) refl ∙ is;
    }

module _ (l out : List ℕ) (w : Written) (after : List ℕ) where
  module _ (r : AskShown) (is : r ≡ ask_out (read_as_ask l)) (none : r.refusal ≡ 0) (room : longest_ask ≤ length out) where
    pub ask_again : (let a = r.ask in let q = query_from a.order a.table a.measure a.d (take a.d a.probe) a.scope.reach in
        WritesOut (bare_line (ask_fits q (scope_from a.scope) a.size) longest_ask (ask_frame q (scope_from a.scope) a.size) (length out)) out w after)
        → Again l w after
    ask_again p = let b = ask_writes_back l _ (ask_given l r is none) in again _ longest_ask _ l out w after b.fits b.line room p

  module _ (r : AnswerShown) (is : r ≡ answer_out (read_as_answer l)) (none : r.refusal ≡ 0) (room : longest_answer ≤ length out) where
    pub answer_again : (let y = r.answer in let q = query_from y.order y.table y.measure y.d (take y.d y.probe) y.scope.reach in let items = take (3 * y.count) y.items in
        WritesOut (bare_line (answer_fits q (scope_from y.scope) y.last y.count items) longest_answer (answer_frame q (scope_from y.scope) y.last y.count items) (length out)) out w after)
        → Again l w after
    answer_again p = let b = answer_writes_back l _ (answer_given l r is none) in again _ longest_answer _ l out w after b.fits b.line room p

  module _ (r : ClaimShown) (is : r ≡ claim_out (read_as_claim l)) (none : r.refusal ≡ 0) (room : longest_claim ≤ length out) where
    pub claim_again : (let c = r.claim in let cs = take c.d c.coordinates in
        WritesOut (bare_line (claim_fits c.measure c.d cs) longest_claim (claim_frame c.table c.measure c.d c.reference cs) (length out)) out w after)
        → Again l w after
    claim_again p = let b = claim_writes_back l _ (claim_given l r is none) in again _ longest_claim _ l out w after b.fits b.line room p
