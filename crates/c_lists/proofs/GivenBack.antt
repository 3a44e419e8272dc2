-- [9.13] [9.19] Beside a refusal of `take` C gets back its list as it came; a flag that was over 1 is 1 then. Assumes nothing.
use Prim.Native.Nat.{ℕ, zero, suc, ◌<◌, ◌≤◌}
use mathlib.Core.Path.{◌≡◌, refl, ap, ◌∙◌}
use mathlib.Core.Bool.{Bool, true, false}
use mathlib.Core.List.{List}
use native.Mathlib.Omega.{arith}
use borrow.Author.Tests.{ne_eqb}
use Rattle.paper.specs.Orders.{is_far, order_by}
use Rattle.paper.specs.Outcomes.{refused}
use Rattle.paper.specs.Fields.{flag_of}
use Rattle.c_lists.specs.declared.Listing.{Listing}
use Rattle.c_lists.specs.declared.Listed.{Listed}
use Rattle.c_lists.specs.Values.{flag_in, order_in, order_out, list_in, list_out, TakesOut}

-- what stands beside a refusal: its number, the memory as it was, and the list that came, out again
pub record Back (l : Listing) (n : ℕ) (before : List ℕ) (r : Listed) (after : List ℕ) : Type 0 where
  pub refusal : r.refusal ≡ n
  pub memory : after ≡ before
  pub list : r.list ≡ list_out (list_in l)

pub refused_back : (l : Listing) (n : ℕ) (before after : List ℕ) (r : Listed) → TakesOut (list_in l) (refused n) before r after → Back l n before r after
refused_back l n before after r p =
    record { refusal = ap (λ (x : Listed). x.refusal) p.result; memory = p.memory; list = ap (λ (x : Listed). x.list) p.result }

-- ---- in and out again

-- a flag of 0 or 1 comes back as it came, another one as 1
pub flag_back : (n : ℕ) → n ≤ 1 → flag_of (flag_in n) ≡ n
flag_back zero h = refl
flag_back (suc zero) h = refl
flag_back (suc (suc n)) h = absurd (omega arith)

pub flag_over : (n : ℕ) → 1 < n → flag_of (flag_in n) ≡ 1
flag_over n h = rw (ne_eqb n 0 (λ e. omega arith))

-- an order is such a flag
far_back : (b : Bool) → is_far (order_by b) ≡ b
far_back true = refl
far_back false = refl

pub order_back : (n : ℕ) → n ≤ 1 → order_out (order_in n) ≡ n
order_back n h = ap flag_of (far_back (flag_in n)) ∙ flag_back n h

pub order_over : (n : ℕ) → 1 < n → order_out (order_in n) ≡ 1
order_over n h = ap flag_of (far_back (flag_in n)) ∙ flag_over n h

-- whatever the flags are, all other fields come back as they came
pub record OtherFields (l back : Listing) : Type 0 where
  pub table : back.table ≡ l.table
  pub measure : back.measure ≡ l.measure
  pub d : back.d ≡ l.d
  pub probe : back.probe ≡ l.probe
  pub reach : back.reach ≡ l.reach
  pub snapshot : back.snapshot ≡ l.snapshot
  pub count : back.count ≡ l.count

pub others_back : (l : Listing) → OtherFields l (list_out (list_in l))
others_back l = record { table = refl; measure = refl; d = refl; probe = refl; reach = refl; snapshot = refl; count = refl }

-- a list with flags of 0 or 1 comes back as it came
pub list_back : (l : Listing) → l.order ≤ 1 → l.started ≤ 1 → l.complete ≤ 1 → list_out (list_in l) ≡ l
list_back l o s c =
    let r = order_back l.order o in
    let p = flag_back l.started s in
    let q = flag_back l.complete c in
    λ i. record {
      table = l.table;
      order = r i;
      measure = l.measure;
      started = p i;
      complete = q i;
      d = l.d;
      probe = l.probe;
      reach = l.reach;
      snapshot = l.snapshot;
      count = l.count;
    }
