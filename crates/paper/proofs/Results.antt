-- [9.2] [9.3] What a result tells is all of it, since each refusal has a number of its own. So a call whose promise speaks of what its result
-- tells allows one result too. Assumes nothing.
use Prim.Native.Nat.{ℕ}
use mathlib.Core.Path.{◌≡◌, refl, sym, ap, ◌∙◌}
use mathlib.Core.Bool.{cond}
use lib.Dec.{eqb}
use Rattle.std.specs.Prelude.{Result, Ok, Err}
use Rattle.paper.specs.declared.refusals.Refusal.{Refusal}
use Rattle.paper.specs.Outcomes.{Outcome, number, number_of, told, Promise}
use Rattle.paper.proofs.Outcomes.{numbered, given_refused, same_given, settled, kept, Settled}

-- ---- a number names one refusal

-- the refusal of a number, looked for from the first on; a number of none gets the last
named : ℕ → Refusal
named n =
    cond (eqb n 1) Refusal.OutOfRange
    (cond (eqb n 2) Refusal.Unsound
    (cond (eqb n 3) Refusal.TableFull
    (cond (eqb n 5) Refusal.Coordinates
    (cond (eqb n 6) Refusal.PageSize
    (cond (eqb n 7) Refusal.Snapshot
    (cond (eqb n 8) Refusal.Mark
    (cond (eqb n 9) Refusal.NoLine
    (cond (eqb n 10) Refusal.Fields
    (cond (eqb n 11) Refusal.OtherTable
    (cond (eqb n 12) Refusal.RoomTooShort
    (cond (eqb n 13) Refusal.NotPresentAsk
    (cond (eqb n 14) Refusal.Page
    (cond (eqb n 15) Refusal.ListFull
    (cond (eqb n 16) Refusal.Complete
    Refusal.KnownReference))))))))))))))

named_back : (r : Refusal) → named (number_of r) ≡ r
unfolding named
named_back Refusal.OutOfRange = refl
named_back Refusal.Unsound = refl
named_back Refusal.TableFull = refl
named_back Refusal.Coordinates = refl
named_back Refusal.PageSize = refl
named_back Refusal.Snapshot = refl
named_back Refusal.Mark = refl
named_back Refusal.NoLine = refl
named_back Refusal.Fields = refl
named_back Refusal.OtherTable = refl
named_back Refusal.RoomTooShort = refl
named_back Refusal.NotPresentAsk = refl
named_back Refusal.Page = refl
named_back Refusal.ListFull = refl
named_back Refusal.Complete = refl
named_back Refusal.KnownReference = refl

pub number_names : (r r' : Refusal) → number_of r ≡ number_of r' → r ≡ r'
number_names r r' e = sym (named_back r) ∙ ap named e ∙ named_back r'

-- ---- what is told is one result

pub told_settles : {A : Type 0} (r r' : Result A Refusal) → told r ≡ told r' → r ≡ r'
told_settles (Ok a) (Ok a') e = ap (λ x. Ok x) (same_given a a' e)
told_settles (Ok a) (Err why) e = absurd (given_refused a (number_of why) e)
told_settles (Err why) (Ok a) e = absurd (given_refused a (number_of why) (sym e))
told_settles {A = A} (Err why) (Err why') e = ap (λ x. Err x) (number_names why why' (ap (λ (o : Outcome A). number o) e))

-- a call that gives no value tells all by its number
pub number_settles : (r r' : Result (Unit {0}) Refusal) → number (told r) ≡ number (told r') → r ≡ r'
number_settles (Ok u) (Ok v) e = refl
number_settles (Ok u) (Err why) e = absurd (numbered why (sym e))
number_settles (Err why) (Ok v) e = absurd (numbered why e)
number_settles (Err why) (Err why') e = ap (λ x. Err x) (number_names why why' e)

-- ---- so a promise of what is told settles the result

module _ {A M : Type 0} (put : A → M → M) where
  pub results_settled : {B : Type 0} (shown : Outcome A → Outcome B) → Settled (λ o before (r : Result B Refusal) after. Promise shown put o before (told r) after)
  results_settled shown =
      record {
        one = λ o before r r' after after' p q. let s = settled shown put o before (told r) (told r') after after' p q in (told_settles r r' s.0, s.1);
        kept = λ o before n r after e p. kept shown put o before n (told r) after e p;
      }

  pub numbers_settled : (shown : Outcome A → ℕ)
      → Settled (λ o before (r : Result (Unit {0}) Refusal) after. Promise shown put o before (number (told r)) after)
  numbers_settled shown =
      record {
        one = λ o before r r' after after' p q. let s = settled shown put o before (number (told r)) (number (told r')) after after' p q in (number_settles r r' s.0, s.1);
        kept = λ o before n r after e p. kept shown put o before n (number (told r)) after e p;
      }
