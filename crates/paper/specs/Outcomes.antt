-- Section 9 of the rules, for any call: outcomes, refusals and promises. Definitions only.
use Rattle.std.specs.Prelude.{ℕ, ◌≡◌, Bool, true, false, Result, Ok, Err}
use Rattle.paper.specs.declared.refusals.Refusal.{Refusal}

-- [9.2] what a call gives: a refusal's number, or a value
pub data Outcome (A : Type 0) : Type 0 where
  refused : ℕ → Outcome A
  gives : A → Outcome A

-- [9.1] the refusal n where the test fails, and otherwise what comes next
abbrev pub must : {A : Type 0} → Bool → ℕ → Outcome A → Outcome A
must true n x = x
must false n x = refused n

-- one step of a call after another
abbrev pub onto : {A B : Type 0} → Outcome A → (A → Outcome B) → Outcome B
onto (refused n) f = refused n
onto (gives a) f = f a

-- the number given back, 0 where the call refuses nothing
abbrev pub number : {A : Type 0} → Outcome A → ℕ
number (refused n) = n
number (gives a) = 0

-- [8.1] to [8.17] the number of a refusal that code names
abbrev pub number_of : Refusal → ℕ
number_of Refusal.OutOfRange = 1
number_of Refusal.Unsound = 2
number_of Refusal.TableFull = 3
number_of Refusal.Coordinates = 5
number_of Refusal.PageSize = 6
number_of Refusal.Snapshot = 7
number_of Refusal.Mark = 8
number_of Refusal.NoLine = 9
number_of Refusal.Fields = 10
number_of Refusal.OtherTable = 11
number_of Refusal.RoomTooShort = 12
number_of Refusal.NotPresentAsk = 13
number_of Refusal.Page = 14
number_of Refusal.ListFull = 15
number_of Refusal.Complete = 16
number_of Refusal.KnownReference = 17

-- [9.2] what a result tells: the value, or its refusal's number
abbrev pub told : {A : Type 0} → Result A Refusal → Outcome A
told (Err r) = refused (number_of r)
told (Ok a) = gives a

-- an outcome by what is shown of its value
abbrev pub showing : {A B : Type 0} → (A → B) → Outcome A → Outcome B
showing f (refused n) = refused n
showing f (gives a) = gives (f a)

-- [9.2] what a call leaves of lent memory: all of it where it refuses, and otherwise what the given value makes of it
abbrev pub leaves : {A M : Type 0} → (A → M → M) → Outcome A → M → M
leaves put (refused n) memory = memory
leaves put (gives a) memory = put a memory

-- [9.3] What every call promises. Its outcome o is a function of its input; the result r is how the outcome is shown, and lent memory,
-- which was `before`, is what the outcome leaves. Both are settled for every input, refusals too.
pub record Promise {A R M : Type 0} (shown : Outcome A → R) (put : A → M → M) (o : Outcome A) (before : M) (r : R) (after : M) : Type 0 where
  pub result : r ≡ shown o
  pub memory : after ≡ leaves put o before
