-- Writing into the output room, and the line of a refusal. Assumes nothing.
use Prim.Native.Nat.{ℕ, suc, ◌+◌, ◌-◌, ◌/◌, ◌%◌, ◌≤◌, ◌<◌}
use mathlib.Core.Path.{◌≡◌, refl, sym, ap, ◌∙◌}
use mathlib.Core.List.{List, [], ◌∷◌, ◌++◌, append-nil, append_assoc}
use native.Mathlib.Omega.{arith}
use lib.ListN.{length, take, drop, set, length-drop, drop_of_length-le}
use lib.Seq.{sets, sets-eq, take_all, take_at, drop-drop}
use borrow.Author.Tests.{lt-ltb, le-ltb}
use Rattle.paper.specs.declared.refusals.Refusal.{Refusal}
use Rattle.paper.specs.Outcomes.{number_of}
use Rattle.paper.specs.Program.{decimal, refusal}
use Rattle.office_serve.specs.Serving.{out_with, Put}

pub wrote_none : (out : List ℕ) (i : ℕ) → out_with out i [] ≡ out
unfolding out_with
wrote_none out i = refl

sets_more : (a b out : List ℕ) (i : ℕ) → sets (sets out i a) (i + length a) b ≡ sets out i (a ++ b)
sets_more [] b out i = let q : i + 0 ≡ i = omega arith in rw q
sets_more (x ∷ a) b out i =
    let q : i + length (x ∷ a) ≡ suc i + length a = omega arith in
    rw q (sets_more a b (set out i x) (suc i))

pub wrote_more : (out : List ℕ) (i : ℕ) (a b : List ℕ) → out_with (out_with out i a) (i + length a) b ≡ out_with out i (a ++ b)
unfolding out_with
wrote_more out i a b = sets_more a b out i

-- what is handed to `write_all`: the front of the room
pub wrote_front : (out bs : List ℕ) → length bs ≤ length out → take (length bs) (out_with out 0 bs) ≡ bs
unfolding out_with
wrote_front out bs h = rw (sets-eq bs out 0 (omega arith)) (take_at bs _ (length bs) refl)

-- ---- a call that was lent the room from `at` on

module _ (out : List ℕ) (at k : ℕ) (rest : k ≡ length out - at) where
  lent : take k (drop at out) ≡ drop at out
  lent = take_all k (drop at out) (omega (arith, length-drop at out))

  none : drop k (drop at out) ≡ []
  none = drop_of_length-le (drop at out) {i = k} (omega (arith, length-drop at out))

  pub lent_length : length (take k (drop at out)) ≡ length out - at
  lent_length = ap length lent ∙ length-drop at out

  pub lent_put : (bs part : List ℕ) → at + length bs ≤ length out → part ≡ bs ++ drop (length bs) (take k (drop at out))
      → take at out ++ (part ++ drop k (drop at out)) ≡ out_with out at bs
  unfolding out_with
  lent_put bs part h e =
      rw (e, lent, none, append-nil, drop-drop, sets-eq bs out at h)
      (sym (append_assoc (take at out) bs (drop (at + length bs) out)))

  pub lent_same : (part : List ℕ) → at ≤ length out → part ≡ take k (drop at out) → take at out ++ (part ++ drop k (drop at out)) ≡ out
  unfolding out_with
  lent_same part h e = lent_put [] part (omega arith) e

-- ---- a part of the room that was written over

part_put : (out : List ℕ) (at k : ℕ) (bs : List ℕ) → k ≡ length bs → at + length bs ≤ length out → take at out ++ (bs ++ drop k (drop at out)) ≡ out_with out at bs
unfolding out_with
part_put out at k bs q h = rw (q, drop-drop, sets-eq bs out at h) (sym (append_assoc (take at out) bs (drop (at + length bs) out)))

-- ---- a refusal

-- no refusal's number has more than two digits
pub two_digits : (r : Refusal) → number_of r < 100
two_digits Refusal.OutOfRange = omega arith
two_digits Refusal.Unsound = omega arith
two_digits Refusal.TableFull = omega arith
two_digits Refusal.Coordinates = omega arith
two_digits Refusal.PageSize = omega arith
two_digits Refusal.Snapshot = omega arith
two_digits Refusal.Mark = omega arith
two_digits Refusal.NoLine = omega arith
two_digits Refusal.Fields = omega arith
two_digits Refusal.OtherTable = omega arith
two_digits Refusal.RoomTooShort = omega arith
two_digits Refusal.NotPresentAsk = omega arith
two_digits Refusal.Page = omega arith
two_digits Refusal.ListFull = omega arith
two_digits Refusal.Complete = omega arith
two_digits Refusal.KnownReference = omega arith

refusal_one : (n : ℕ) → n < 10 → refusal n ≡ 114 ∷ 101 ∷ 102 ∷ 117 ∷ 115 ∷ 101 ∷ 100 ∷ 32 ∷ (48 + n) ∷ 10 ∷ []
unfolding refusal decimal
refusal_one n h = rw (lt-ltb n 10 h)

refusal_two : (n : ℕ) → 10 ≤ n → refusal n ≡ 114 ∷ 101 ∷ 102 ∷ 117 ∷ 115 ∷ 101 ∷ 100 ∷ 32 ∷ (48 + n / 10) ∷ (48 + n % 10) ∷ 10 ∷ []
unfolding refusal decimal
refusal_two n h = rw (le-ltb n 10 h)

module _ (out : List ℕ) (at k n : ℕ) (room : at + 11 ≤ length out) (part : List ℕ) where
  pub refuse_one : n < 10 → k ≡ 10 → part ≡ 114 ∷ 101 ∷ 102 ∷ 117 ∷ 115 ∷ 101 ∷ 100 ∷ 32 ∷ (48 + n) ∷ 10 ∷ []
      → Put (refusal n) out at (take at out ++ (part ++ drop k (drop at out))) (at + 10)
  refuse_one h q e = let s = refusal_one n h in record { out = rw (s, e) (part_put out at k _ q (omega arith)); end = rw s refl; short = omega arith }

  pub refuse_two : 10 ≤ n → k ≡ 11 → part ≡ 114 ∷ 101 ∷ 102 ∷ 117 ∷ 115 ∷ 101 ∷ 100 ∷ 32 ∷ (48 + n / 10) ∷ (48 + n % 10) ∷ 10 ∷ []
      → Put (refusal n) out at (take at out ++ (part ++ drop k (drop at out))) (at + 11)
  refuse_two h q e = let s = refusal_two n h in record { out = rw (s, e) (part_put out at k _ q (omega arith)); end = rw s refl; short = omega arith }
