-- A line is read as one kind only: what a reader of one kind accepts, the readers of every other kind refuse with 10. Assumes nothing.
use Prim.Native.Nat.{ℕ}
use mathlib.Core.Path.{◌≡◌, sym, ◌∙◌}
use mathlib.Core.Bool.{Bool, true}
use mathlib.Core.List.{List}
use Rattle.paper.specs.Outcomes.{refused, gives}
use Rattle.paper.specs.Frames.{num, frame_of, is_line}
use Rattle.paper.specs.Lines.{ask_kind, answer_kind, ask_order, answer_order, reading, is_ask, ask_at, read_as_ask, is_answer, answer_at, read_as_answer, claim_ok, claim_at, read_as_claim}
use Rattle.paper.specs.declared.orders.Order.{Order}
use Rattle.paper.specs.declared.lines.Ask.{Ask}
use Rattle.paper.specs.declared.lines.Answer.{Answer}
use Rattle.paper.specs.declared.lines.ClaimLine.{ClaimLine}
use Rattle.paper.proofs.Tests.{refuted}
use Rattle.lines.proofs.WritersReaders.{reads_10, accepted}
use Rattle.lines.proofs.AskTests.{any_ask}
use Rattle.lines.proofs.AnswerTests.{any_answer}
use Rattle.lines.proofs.ClaimTests.{is_claim}

-- a sound line whose frame has kind k
pub record OfKind (k : ℕ) (l : List ℕ) : Type 0 where
  pub sure : is_line l ≡ true
  pub kind : num 1 (frame_of l) ≡ k

-- whatever the test, as long as it refuses that kind
apart : {A : Type 0} (ok : List ℕ → Bool) (value : List ℕ → A) (k : ℕ) (l : List ℕ)
    → ((f : List ℕ) → ok f ≡ true → num 1 f ≡ k → ⊥) → OfKind k l → reading ok value l ≡ refused 10
apart ok value k l h p = reads_10 ok value l p.sure (refuted (ok (frame_of l)) (λ e. h (frame_of l) e p.kind))

pub ask_has_kind : (l : List ℕ) (x : Ask) → read_as_ask l ≡ gives x → OfKind (ask_kind (ask_order (num 1 (frame_of l)))) l
unfolding read_as_ask
ask_has_kind l x e =
    let p = accepted is_ask ask_at l x e in
    record { sure = p.0; kind = (any_ask (frame_of l) p.1).headed.kind }

pub answer_has_kind : (l : List ℕ) (x : Answer) → read_as_answer l ≡ gives x → OfKind (answer_kind (answer_order (num 1 (frame_of l)))) l
unfolding read_as_answer
answer_has_kind l x e =
    let p = accepted is_answer answer_at l x e in
    record { sure = p.0; kind = (any_answer (frame_of l) p.1).headed.kind }

pub claim_has_kind : (l : List ℕ) (x : ClaimLine) → read_as_claim l ≡ gives x → OfKind 3 l
unfolding read_as_claim
claim_has_kind l x e =
    let p = accepted claim_ok claim_at l x e in
    record { sure = p.0; kind = (is_claim (frame_of l) p.1).headed.kind }

pub not_ask : (k : ℕ) (l : List ℕ) → OfKind k l → ((o : Order) → k ≡ ask_kind o → ⊥) → read_as_ask l ≡ refused 10
unfolding read_as_ask
not_ask k l p q = apart is_ask ask_at k l (λ f e n. q (ask_order (num 1 f)) (sym n ∙ (any_ask f e).headed.kind)) p

pub not_answer : (k : ℕ) (l : List ℕ) → OfKind k l → ((o : Order) → k ≡ answer_kind o → ⊥) → read_as_answer l ≡ refused 10
unfolding read_as_answer
not_answer k l p q = apart is_answer answer_at k l (λ f e n. q (answer_order (num 1 f)) (sym n ∙ (any_answer f e).headed.kind)) p

pub not_claim : (k : ℕ) (l : List ℕ) → OfKind k l → (k ≡ 3 → ⊥) → read_as_claim l ≡ refused 10
unfolding read_as_claim
not_claim k l p q = apart claim_ok claim_at k l (λ f e n. q (sym n ∙ (is_claim f e).headed.kind)) p
