-- [9.19] What a C caller knows by the number that it got: of 0, that the call gave a value, and which one; of another, that a reader refused by it.
-- So the laws of what is given hold of what C has in hand. Assumes nothing.
use Prim.Native.Nat.{ℕ}
use mathlib.Core.Path.{◌≡◌, refl, sym, ap, ◌∙◌}
use mathlib.Core.Bool.{Bool}
use mathlib.Core.List.{List}
use lib.Dec.{leb}
use lib.ListN.{length}
use Rattle.paper.specs.declared.orders.Order.{Order}
use Rattle.paper.specs.declared.orders.Order.TheVariants.{Near, Far}
use Rattle.paper.specs.declared.queries.Query.{Query}
use Rattle.paper.specs.declared.lines.Ask.{Ask}
use Rattle.paper.specs.declared.lines.Answer.{Answer}
use Rattle.paper.specs.declared.lines.ClaimLine.{ClaimLine}
use Rattle.paper.specs.Outcomes.{Outcome, refused, gives, number, Promise}
use Rattle.paper.specs.Tree.{Store, fits, sound}
use Rattle.paper.specs.Frames.{frame_of, is_line}
use Rattle.paper.specs.Lines.{reading, is_ask, ask_at, read_as_ask, is_answer, answer_at, read_as_answer, claim_ok, claim_at, read_as_claim}
use Rattle.paper.specs.Limits.{longest_answer}
use Rattle.paper.proofs.Outcomes.{must_go, number_0, number_is}
use Rattle.lines.proofs.WritersReaders.{reads}
use Rattle.nearby_batch.specs.Batch.{Batch, BatchRooms, batch_start, batch_answered, batch_call, two_rooms, batch_shown, put_batch, AnswersAll}
use Rattle.c_values.specs.declared.LinesAnswered.{LinesAnswered}
use Rattle.c_values.specs.Values.{answered_out}
use Rattle.c_lists.specs.declared.AskShown.{AskShown}
use Rattle.c_lists.specs.declared.AnswerShown.{AnswerShown}
use Rattle.c_lists.specs.declared.ClaimShown.{ClaimShown}
use Rattle.c_lists.specs.Values.{order_in, order_out, query_back, ask_fields, ask_in, ask_out, answer_fields, answer_in, answer_out, claim_out}

-- ---- what is shown of an outcome has its number, and all of its value

pub ask_number : (o : Outcome Ask) → (ask_out o).refusal ≡ number o
ask_number (refused n) = refl
ask_number (gives a) = refl

pub answer_number : (o : Outcome Answer) → (answer_out o).refusal ≡ number o
answer_number (refused n) = refl
answer_number (gives y) = refl

pub claim_number : (o : Outcome ClaimLine) → (claim_out o).refusal ≡ number o
claim_number (refused n) = refl
claim_number (gives c) = refl

order_known : (o : Order) → order_in (order_out o) ≡ o
order_known Near = refl
order_known Far = refl

query_known : (q : Query) → query_back (order_out q.order) q.table q.measure q.d q.probe q.reach ≡ q
query_known q = ap (λ (o : Order). record { order = o; table = q.table; measure = q.measure; d = q.d; probe = q.probe; reach = q.reach }) (order_known q.order)

ask_known : (a : Ask) → ask_in (ask_fields a) ≡ a
ask_known a = ap (λ (q : Query). record { query = q; scope = a.scope; size = a.size }) (query_known a.query)

answer_known : (y : Answer) → answer_in (answer_fields y) ≡ y
answer_known y = ap (λ (q : Query). record { query = q; scope = y.scope; last = y.last; count = y.count; items = y.items }) (query_known y.query)

-- ---- [9.15] readers

-- whatever the kind: beside 0 a reader gave what its struct says, and it refused by any other number
module _ {A S : Type 0} (out : Outcome A → S) (refusal : S → ℕ) (tells : (o : Outcome A) → refusal (out o) ≡ number o)
    (ok : List ℕ → Bool) (value : List ℕ → A) (l : List ℕ) (r : S) (is : r ≡ out (reading ok value l)) where
  same_number : refusal r ≡ number (reading ok value l)
  same_number = ap refusal is ∙ tells (reading ok value l)

  read_refused : (refusal r ≡ 0 → ⊥) → reading ok value l ≡ refused (refusal r)
  read_refused some = number_is (reading ok value l) (refusal r) same_number some

  module _ (none : refusal r ≡ 0) where
    frame_given : reading ok value l ≡ gives (value (frame_of l))
    unfolding reading
    frame_given =
        let p = number_0 (is_line l) 8 _ (sym same_number ∙ none) in
        let q = number_0 (ok (frame_of l)) 9 (gives (value (frame_of l))) p.1 in
        reads ok value l p.0 q.0

    read_given : (said : S → A) → ((a : A) → said (out (gives a)) ≡ a) → reading ok value l ≡ gives (said r)
    read_given said known =
        let e : said r ≡ value (frame_of l) = ap said (is ∙ ap out frame_given) ∙ known (value (frame_of l)) in
        frame_given ∙ ap (λ (a : A). gives a) (sym e)

module _ (l : List ℕ) (r : AskShown) (is : r ≡ ask_out (read_as_ask l)) where
  pub ask_given : r.refusal ≡ 0 → read_as_ask l ≡ gives (ask_in r.ask)
  unfolding read_as_ask
  ask_given none = read_given ask_out (λ x. x.refusal) ask_number is_ask ask_at l r is none (λ x. ask_in x.ask) ask_known

  pub ask_refused : (r.refusal ≡ 0 → ⊥) → read_as_ask l ≡ refused r.refusal
  unfolding read_as_ask
  ask_refused some = read_refused ask_out (λ x. x.refusal) ask_number is_ask ask_at l r is some

module _ (l : List ℕ) (r : AnswerShown) (is : r ≡ answer_out (read_as_answer l)) where
  pub answer_given : r.refusal ≡ 0 → read_as_answer l ≡ gives (answer_in r.answer)
  unfolding read_as_answer
  answer_given none = read_given answer_out (λ x. x.refusal) answer_number is_answer answer_at l r is none (λ x. answer_in x.answer) answer_known

  pub answer_refused : (r.refusal ≡ 0 → ⊥) → read_as_answer l ≡ refused r.refusal
  unfolding read_as_answer
  answer_refused some = read_refused answer_out (λ x. x.refusal) answer_number is_answer answer_at l r is some

module _ (l : List ℕ) (r : ClaimShown) (is : r ≡ claim_out (read_as_claim l)) where
  pub claim_given : r.refusal ≡ 0 → read_as_claim l ≡ gives r.claim
  unfolding read_as_claim
  claim_given none = read_given claim_out (λ x. x.refusal) claim_number claim_ok claim_at l r is none (λ x. x.claim) (λ c. refl)

  pub claim_refused : (r.refusal ≡ 0 → ⊥) → read_as_claim l ≡ refused r.refusal
  unfolding read_as_claim
  claim_refused some = read_refused claim_out (λ x. x.refusal) claim_number claim_ok claim_at l r is some

-- ---- [9.18] many lines

pub batch_number : (o : Outcome Batch) → (answered_out (batch_shown o)).refusal ≡ number o
batch_number (refused n) = refl
batch_number (gives b) = refl

-- beside 0 the promise is the one that the laws of nearby_batch take (Given), of what the struct says
module _ (s : Store) (asks outcomes out : List ℕ) (r : LinesAnswered) (after : BatchRooms)
    (p : Promise (λ u. answered_out (batch_shown u)) put_batch (batch_call s asks outcomes out) (two_rooms outcomes out) r after) (none : r.refusal ≡ 0) where
  given_batch : batch_call s asks outcomes out ≡ gives (batch_answered (length asks) s asks (batch_start outcomes out))
  unfolding batch_call
  given_batch =
      let b = gives (batch_answered (length asks) s asks (batch_start outcomes out)) in
      let n : number (batch_call s asks outcomes out) ≡ 0 = sym (batch_number (batch_call s asks outcomes out)) ∙ sym (ap (λ (x : LinesAnswered). x.refusal) p.result) ∙ none in
      let p₁₂ = number_0 (leb longest_answer (length out)) 11 _ n in
      let p₁ = number_0 (fits s) 0 _ p₁₂.1 in
      let p₂ = number_0 (sound s) 1 b p₁.1 in
      must_go (leb longest_answer (length out)) 12 _ p₁₂.0 ∙ must_go (fits s) 1 _ p₁.0 ∙ must_go (sound s) 2 b p₂.0

  pub answers_given : AnswersAll (batch_call s asks outcomes out) (two_rooms outcomes out) (gives (record { lines = r.lines; used = r.used; written = r.written })) after
  answers_given =
      let x = p.result ∙ ap (λ (u : Outcome Batch). answered_out (batch_shown u)) given_batch in
      record {
        result = (λ i. gives (record { lines = (x i).lines; used = (x i).used; written = (x i).written })) ∙ sym (ap batch_shown given_batch);
        memory = p.memory;
      }
