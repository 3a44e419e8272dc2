-- Taking: where a list stands, and what an answer that it takes says. Assumes nothing.
use Prim.Native.Nat.{ℕ, zero, suc, ◌+◌, ◌<◌, ◌≤◌}
use mathlib.Core.Path.{◌≡◌, refl, sym, ap, ◌∙◌}
use mathlib.Core.Logic.{⊎_elim}
use mathlib.Core.Bool.{true, false, not}
use mathlib.Core.List.{List}
use native.Mathlib.Omega.{arith}
use native.Mathlib.Nat.{eq-or-lt_of_le, le_of_suc-le-suc}
use lib.ListN.{length, get_or}
use lib.Seq.{ext_get_or}
use lib.Dec.{leb, eqb}
use lib.IntN.{ℤ, pos, negsuc}
use borrow.Author.Tests.{leb-true, eqb-true, eq-eqb, not-true}
use Rattle.paper.specs.declared.orders.Mark.{Mark}
use Rattle.paper.specs.declared.orders.Order.{Order}
use Rattle.paper.specs.declared.orders.Order.TheVariants.{Near, Far}
use Rattle.paper.specs.declared.orders.Place.{Place}
use Rattle.paper.specs.declared.orders.Place.TheVariants.{Start, After}
use Rattle.paper.specs.Orders.{Query, same_order, snapshot_of}
use Rattle.paper.specs.Outcomes.{gives}
use Rattle.paper.specs.Ends.{Answer, Codec, Listing, last_item, mark_of, present_place, sound_in, same_z, same_probe, same_query, same_place, to_present, page_holds, joined_to, taken, own_kind, taking}
use Rattle.orders.specs.LawfulLines.{AnswerInRange}
use Rattle.paper.proofs.Tests.{no_way, and_first, and_second, and_both}
use Rattle.paper.proofs.Outcomes.{must_test, must_rest, through, same_given}

-- ---- where a list stands

pub present_start : (L : Listing) → L.started ≡ false → present_place L ≡ Start
unfolding present_place
present_start L p = rw p

pub present_after : (L : Listing) → L.started ≡ true → present_place L ≡ After L.snapshot (mark_of (last_item L.items))
unfolding present_place
present_after L p = rw p

-- ---- the order that 10 compares

same_order_lem : (o p : Order) → same_order o p ≡ true → o ≡ p
same_order_lem Near Near e = refl
same_order_lem Near Far e = absurd (no_way (sym e))
same_order_lem Far Near e = absurd (no_way (sym e))
same_order_lem Far Far e = refl

pub order_same : (o : Order) → same_order o o ≡ true
order_same Near = refl
order_same Far = refl

-- ---- the fields that 13 compares

same_z_lem : (x y : ℤ) → same_z x y ≡ true → x ≡ y
same_z_lem (pos a) (pos b) p = ap pos (eqb-true a b p)
same_z_lem (pos a) (negsuc b) p = absurd (no_way (sym p))
same_z_lem (negsuc a) (pos b) p = absurd (no_way (sym p))
same_z_lem (negsuc a) (negsuc b) p = ap negsuc (eqb-true a b p)

z_same : (x : ℤ) → same_z x x ≡ true
z_same (pos a) = eq-eqb a a refl
z_same (negsuc a) = eq-eqb a a refl

same_slots : (d : ℕ) (p q : List ℤ) → same_probe d p q ≡ true → (i : ℕ) → i < d → get_or p i (pos 0) ≡ get_or q i (pos 0)
unfolding same_probe
same_slots zero p q e i h = absurd (omega arith)
same_slots (suc d) p q e i h =
    ⊎_elim
    (λ s. rw s (same_z_lem _ _ (and_second (same_probe d p q) _ e)))
    (λ s. same_slots d p q (and_first (same_probe d p q) _ e) i s)
    (eq-or-lt_of_le (le_of_suc-le-suc h))

probe_same : (d : ℕ) (p : List ℤ) → same_probe d p p ≡ true
unfolding same_probe
probe_same zero p = refl
probe_same (suc d) p = and_both _ _ (probe_same d p) (z_same (get_or p d (pos 0)))

query_of_lem : (o o' : Order) (a a' b b' c c' e e' : ℕ) (p p' : List ℤ) → o ≡ o' → a ≡ a' → b ≡ b' → c ≡ c' → p ≡ p' → e ≡ e'
    → ◌≡◌ {A = Query} (record { order = o; table = a; measure = b; d = c; probe = p; reach = e }) (record { order = o'; table = a'; measure = b'; d = c'; probe = p'; reach = e' })
query_of_lem o o' a a' b b' c c' e e' p p' q0 q1 q2 q3 q4 q5 =
    λ i. record { order = q0 i; table = q1 i; measure = q2 i; d = q3 i; probe = q4 i; reach = q5 i }

same_query_lem : (q r : Query) → q.order ≡ r.order → length q.probe ≡ q.d → length r.probe ≡ r.d → same_query q r ≡ true → q ≡ r
unfolding same_query
same_query_lem q r o lq lr e =
    let e1 = and_second (eqb q.table r.table) _ e in
    let e2 = and_second (eqb q.measure r.measure) _ e1 in
    let e3 = and_second (eqb q.d r.d) _ e2 in
    let d : q.d ≡ r.d = eqb-true _ _ (and_first _ _ e2) in
    let p : q.probe ≡ r.probe =
    ext_get_or (pos 0) q.probe r.probe (omega arith) (λ i h. same_slots q.d q.probe r.probe (and_first _ _ e3) i (omega arith)) in
    query_of_lem _ _ _ _ _ _ _ _ _ _ _ _ o (eqb-true _ _ (and_first _ _ e)) (eqb-true _ _ (and_first _ _ e1)) d p
    (eqb-true _ _ (and_second (same_probe q.d q.probe r.probe) _ e3))

pub query_same : (q : Query) → same_query q q ≡ true
unfolding same_query
query_same q =
    and_both _ _ (eq-eqb q.table q.table refl)
    (and_both _ _ (eq-eqb q.measure q.measure refl)
    (and_both _ _ (eq-eqb q.d q.d refl)
    (and_both _ _ (probe_same q.d q.probe) (eq-eqb q.reach q.reach refl))))

same_mark : (n k : ℕ) (l m : Mark) → n ≡ k → l.distance ≡ m.distance → l.number ≡ m.number → After n l ≡ After k m
same_mark n k l m a b c = λ i. After (a i) (record { distance = b i; number = c i })

same_place_lem : (p q : Place) → same_place p q ≡ true → p ≡ q
unfolding same_place
same_place_lem Start Start e = refl
same_place_lem Start (After k m) e = absurd (no_way (sym e))
same_place_lem (After n l) Start e = absurd (no_way (sym e))
same_place_lem (After n l) (After k m) e =
    let e1 = and_second (eqb n k) _ e in
    same_mark n k l m (eqb-true n k (and_first _ _ e)) (eqb-true _ _ (and_first _ _ e1)) (eqb-true _ _ (and_second (eqb l.distance m.distance) _ e1))

pub place_same : (p : Place) → same_place p p ≡ true
unfolding same_place
place_same Start = refl
place_same (After n m) = and_both _ _ (eq-eqb n n refl) (and_both _ _ (eq-eqb m.distance m.distance refl) (eq-eqb m.number m.number refl))

-- ---- an answer that a list takes

-- an answer that 10 and 13 let pass
pub record FitsList (L : Listing) (y : Answer) : Type 0 where
  pub query : L.query ≡ y.query
  pub place : present_place L ≡ y.place
  pub snapshot : L.started ≡ true → y.snapshot ≡ L.snapshot

used_snapshot : (p : Place) (s n : ℕ) (m : Mark) → snapshot_of p s ≡ s → p ≡ After n m → s ≡ n
used_snapshot p s n m e q = sym e ∙ ap (λ (r : Place). snapshot_of r s) q

pub fits_present : (L : Listing) (y : Answer) → length L.query.probe ≡ L.query.d → AnswerInRange y → own_kind L y ≡ true → to_present L y ≡ true → FitsList L y
unfolding to_present
fits_present L y long ok own e =
    let p : present_place L ≡ y.place = same_place_lem _ _ (and_second (same_query L.query y.query) _ e) in
    record {
      query = same_query_lem L.query y.query (same_order_lem _ _ own) long ok.query.long (and_first _ _ e);
      place = p;
      snapshot = λ q. used_snapshot y.place y.snapshot _ _ ok.used (sym p ∙ present_after L q);
    }

-- a line that was taken
pub record Took (room : ℕ) (L : Listing) (y : Answer) (K : Listing) : Type 0 where
  pub unfinished : L.complete ≡ false
  pub present : to_present L y ≡ true
  pub page : page_holds y ≡ true
  pub roomy : length L.items + length y.items ≤ room
  pub is : K ≡ joined_to L y

pub took : (room : ℕ) (L : Listing) (y : Answer) (K : Listing) → taken room L y ≡ gives K → Took room L y K
unfolding taken
took room L y K e =
    let e1 = must_rest (not L.complete) 16 _ _ e in
    let e2 = must_rest (to_present L y) 13 _ _ e1 in
    let e3 = must_rest (page_holds y) 14 _ _ e2 in
    record {
      unfinished = not-true _ (must_test (not L.complete) 16 _ _ e);
      present = must_test (to_present L y) 13 _ _ e1;
      page = must_test (page_holds y) 14 _ _ e2;
      roomy = leb-true _ _ (must_test (leb (length L.items + length y.items) room) 15 _ _ e3);
      is = sym (same_given _ _ (must_rest (leb (length L.items + length y.items) room) 15 _ _ e3));
    }

pub took_query : (room : ℕ) (L : Listing) (y : Answer) (K : Listing) → Took room L y K → K.query ≡ L.query
unfolding joined_to
took_query room L y K k = ap (λ (X : Listing). X.query) k.is

-- and from the line on
pub record TookLine (c : Codec) (room : ℕ) (L : Listing) (s : List ℕ) (K : Listing) : Type 0 where
  pub sound : sound_in room L ≡ true
  pub answer : Answer
  pub read : c.read_answer s ≡ gives answer
  pub own : own_kind L answer ≡ true
  pub joins : Took room L answer K

pub took_line : (c : Codec) (room : ℕ) (L : Listing) (s : List ℕ) (K : Listing) → taking c room L s ≡ gives K → TookLine c room L s K
unfolding taking
took_line c room L s K e =
    let a = through (c.read_answer s) _ _ (must_rest (sound_in room L) 2 _ _ e) in
    record {
      sound = must_test (sound_in room L) 2 _ _ e;
      answer = a.value;
      read = a.first;
      own = must_test (own_kind L a.value) 10 _ _ a.second;
      joins = took room L a.value K (must_rest (own_kind L a.value) 10 _ _ a.second);
    }

pub took_line_query : (c : Codec) (room : ℕ) (L : Listing) (s : List ℕ) (K : Listing) → taking c room L s ≡ gives K → K.query ≡ L.query
took_line_query c room L s K e = let t = took_line c room L s K e in took_query room L t.answer K t.joins
