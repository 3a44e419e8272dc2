-- Laws of calls that refuse or give: one test after another, one step after another. Assumes nothing.
use Prim.Native.Nat.{ℕ, suc}
use mathlib.Core.Path.{◌≡◌, refl, sym, ap, ◌∙◌}
use mathlib.Core.Bool.{Bool, true, false}
use native.Mathlib.Omega.{arith}
use lib.Dec.{eqb}
use borrow.Author.Tests.{eqb-false}
use Rattle.std.specs.Prelude.{Result, Ok, Err, IsErrAnd}
use Rattle.paper.specs.declared.refusals.Refusal.{Refusal}
use Rattle.paper.specs.Outcomes.{Outcome, refused, gives, must, onto, number, number_of, told, showing, leaves, Promise}

-- A call's refusals are one chain of tests, `must a 1 (must b 2 (gives x))`: behind a test that passes it goes on, at one that fails it
-- stops. Ways through a call are these two, joined by `∙`, so that a new number costs one line of the chain and one of its proof.
module _ {A : Type 0} (b : Bool) (n : ℕ) (x : Outcome A) where
  pub must_go : b ≡ true → must b n x ≡ x
  must_go p = rw p

  pub must_stop : b ≡ false → must b n x ≡ refused n
  must_stop p = rw p

-- a test that was passed, and what comes after it
pub must_test : {A : Type 0} (b : Bool) (n : ℕ) (x : Outcome A) (a : A) → must b n x ≡ gives a → b ≡ true
must_test true n x a p = refl
must_test false n x a p = absurd (let y : ◌≡◌ {A = ℕ} 0 1 = cc in omega arith)

pub must_rest : {A : Type 0} (b : Bool) (n : ℕ) (x : Outcome A) (a : A) → must b n x ≡ gives a → x ≡ gives a
must_rest true n x a p = p
must_rest false n x a p = absurd (let y : ◌≡◌ {A = ℕ} 0 1 = cc in omega arith)

-- a call that tells 0 passed the test
pub number_0 : {A : Type 0} (b : Bool) (n : ℕ) (x : Outcome A) → number (must b (suc n) x) ≡ 0 → (b ≡ true) × (number x ≡ 0)
number_0 true n x h = (refl, h)
number_0 false n x h = absurd (omega arith)

-- a number that a call does not tell
pub record Untold {A : Type 0} (r : ℕ) (x : Outcome A) : Type 0 where
  pub other : number x ≡ r → ⊥

-- it is one that no test of its chain stands under, whatever the tests say
pub must_untold : {A : Type 0} (r : ℕ) (b : Bool) (n : ℕ) (x : Outcome A) → eqb n r ≡ false → Untold r x → Untold r (must b n x)
must_untold r true n x apart rest = rest
must_untold r false n x apart rest = record { other = eqb-false n r apart }

pub onto_untold : {A B : Type 0} (r : ℕ) (x : Outcome A) (f : A → Outcome B) → Untold r x → ((a : A) → Untold r (f a)) → Untold r (onto x f)
onto_untold r (refused n) f first second = record { other = first.other }
onto_untold r (gives a) f first second = second a

pub gives_untold : {A : Type 0} (r : ℕ) (a : A) → eqb 0 r ≡ false → Untold r (gives a)
gives_untold r a apart = record { other = eqb-false 0 r apart }

-- for `search`
pub ruleset untold = (must_untold, onto_untold, gives_untold)

-- a call is refused by its number
pub number_is : {A : Type 0} (x : Outcome A) (n : ℕ) → n ≡ number x → (n ≡ 0 → ⊥) → x ≡ refused n
number_is (refused m) n e h = ap refused (sym e)
number_is (gives a) n e h = absurd (h e)

-- ---- results

-- no refusal has the number 0
pub numbered : (r : Refusal) → number_of r ≡ 0 → ⊥
numbered Refusal.OutOfRange h = omega arith
numbered Refusal.Unsound h = omega arith
numbered Refusal.TableFull h = omega arith
numbered Refusal.Coordinates h = omega arith
numbered Refusal.PageSize h = omega arith
numbered Refusal.Snapshot h = omega arith
numbered Refusal.Mark h = omega arith
numbered Refusal.NoLine h = omega arith
numbered Refusal.Fields h = omega arith
numbered Refusal.OtherTable h = omega arith
numbered Refusal.RoomTooShort h = omega arith
numbered Refusal.NotPresentAsk h = omega arith
numbered Refusal.Page h = omega arith
numbered Refusal.ListFull h = omega arith
numbered Refusal.Complete h = omega arith
numbered Refusal.KnownReference h = omega arith

-- what the number says that a result tells
module _ {A : Type 0} (r : Result A Refusal) (n : ℕ) (e : number (told r) ≡ n) where
  pub err_number : (why : Refusal) → r ≡ Err why → number_of why ≡ n
  err_number why p = ap (λ (x : Result A Refusal). number (told x)) (sym p) ∙ e

  pub ok_number : (a : A) → r ≡ Ok a → 0 ≡ n
  ok_number a p = ap (λ (x : Result A Refusal). number (told x)) (sym p) ∙ e

-- what is told by the refusal that `?` hands on
pub told_on : {A : Type 0} (r : Result A Refusal) (why : Refusal) → IsErrAnd r (λ e. e ≡ why) → told r ≡ refused (number_of why)
told_on (Err e) why p = ap (λ (x : Refusal). refused (number_of x)) p
told_on (Ok a) why p = absurd p

-- the same of all that a result tells
module _ {A : Type 0} (r : Result A Refusal) (o : Outcome A) (e : told r ≡ o) where
  pub err_told : (why : Refusal) → r ≡ Err why → o ≡ refused (number_of why)
  err_told why p = sym e ∙ ap (λ (x : Result A Refusal). told x) p

  pub ok_told : (a : A) → r ≡ Ok a → o ≡ gives a
  ok_told a p = sym e ∙ ap (λ (x : Result A Refusal). told x) p

-- Two calls that begin with the same tests: y ends behind them, and x goes on with z. One `must_behind` for each test gives the premise of
-- `stops`: x is refused where y is.
pub must_behind : {A B : Type 0} (b : Bool) (n : ℕ) (x z : Outcome A) (y : Outcome B) → x ≡ onto y (λ u. z) → must b n x ≡ onto (must b n y) (λ u. z)
must_behind true n x z y p = p
must_behind false n x z y p = refl

pub stops : {A B : Type 0} (x z : Outcome A) (y : Outcome B) → x ≡ onto y (λ u. z) → (n : ℕ) → n ≡ number y → (n ≡ 0 → ⊥) → x ≡ refused n
stops x z y p n e h = p ∙ ap (λ v. onto v (λ u. z)) (number_is y n e h)

-- what went through the first of two steps
pub record Through (A B : Type 0) (x : Outcome A) (f : A → Outcome B) (b : B) : Type 0 where
  pub value : A
  pub first : x ≡ gives value
  pub second : f value ≡ gives b

pub through : {A B : Type 0} (x : Outcome A) (f : A → Outcome B) (b : B) → onto x f ≡ gives b → Through A B x f b
through (refused n) f b p = absurd (let y : ◌≡◌ {A = ℕ} 0 1 = cc in omega arith)
through (gives a) f b p = record { value = a; first = refl; second = p }

-- what is given is not refused
pub given_refused : {A : Type 0} (a : A) (n : ℕ) → gives a ≡ refused n → ⊥
given_refused a n p = let y : ◌≡◌ {A = ℕ} 0 1 = cc in omega arith

-- what is shown of a value changes no refusal
pub number_showing : {A B : Type 0} (f : A → B) (o : Outcome A) → number o ≡ number (showing f o)
number_showing f (refused n) = refl
number_showing f (gives a) = refl

pub same_given : {A : Type 0} (a b : A) → gives a ≡ gives b → a ≡ b
same_given a b p = cc

-- ---- promises

module _ {A R M : Type 0} (shown : Outcome A → R) (put : A → M → M) (o : Outcome A) (before : M) where
  -- two results that a promise allows are equal, and so is what they leave
  pub settled : (r r' : R) (after after' : M) → Promise shown put o before r after → Promise shown put o before r' after' → (r ≡ r') × (after ≡ after')
  settled r r' after after' p q = (p.result ∙ sym q.result, p.memory ∙ sym q.memory)

  -- a refusal changes nothing that was lent
  pub kept : (n : ℕ) (r : R) (after : M) → o ≡ refused n → Promise shown put o before r after → after ≡ before
  kept n r after e p = p.memory ∙ ap (λ (u : Outcome A). leaves put u before) e

  -- how a call comes to its promise: by its refusal, or by what it gives
  pub promise_refused : (n : ℕ) (r : R) → o ≡ refused n → r ≡ shown (refused n) → Promise shown put o before r before
  promise_refused n r e q = record { result = q ∙ ap shown (sym e); memory = sym (ap (λ (u : Outcome A). leaves put u before) e) }

  pub promise_given : (a : A) (r : R) (after : M) → o ≡ gives a → r ≡ shown (gives a) → after ≡ put a before → Promise shown put o before r after
  promise_given a r after e q m = record { result = q ∙ ap shown (sym e); memory = m ∙ sym (ap (λ (u : Outcome A). leaves put u before) e) }

-- [9.2] [9.3] what a promise P settles: of one outcome and one memory before, it allows one result and one memory after; and where the outcome
-- is a refusal, the memory after is the memory before
pub record Settled {A R M : Type 0} (P : Outcome A → M → R → M → Type 0) : Type 0 where
  pub one : (o : Outcome A) (before : M) (r r' : R) (after after' : M) → P o before r after → P o before r' after' → (r ≡ r') × (after ≡ after')
  pub kept : (o : Outcome A) (before : M) (n : ℕ) (r : R) (after : M) → o ≡ refused n → P o before r after → after ≡ before

-- every promise is so
pub promise_settled : {A R M : Type 0} (shown : Outcome A → R) (put : A → M → M) → Settled (Promise shown put)
promise_settled shown put = record { one = settled shown put; kept = kept shown put }
