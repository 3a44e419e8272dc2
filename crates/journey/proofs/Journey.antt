-- What holds of every reachable world: the table only grows, every line of the air is honest, every list is kept. Assumes nothing.
use Prim.Native.Nat.{ℕ, ◌+◌, ◌<◌, ◌≤◌, ◌^◌}
use mathlib.Core.Path.{◌≡◌, refl, sym, ap, ◌∙◌}
use mathlib.Core.Logic.{◌⊎◌, inl, inr, ⊎_elim}
use mathlib.Core.Bool.{false, not}
use mathlib.Core.List.Memᴰ
use mathlib.Core.List.{List, [], ◌∷◌, ◌++◌, Memᴰ}
use native.Mathlib.Omega.{arith}
use lib.ListN.{length, length-append, length-set}
use lib.Dec.{leb, eqb}
use borrow.Author.Tests.{leb-true, eqb-true, not-true}
use Rattle.paper.specs.Points.{Claim}
use Rattle.paper.specs.References.{references_of, in_force, anew}
use Rattle.paper.specs.Orders.{Query}
use Rattle.paper.specs.Points.{in_range}
use Rattle.paper.specs.Outcomes.{Outcome, refused, gives}
use Rattle.paper.specs.Ends.{Ask, Answer, Codec, Table, count, answer_to, line_answered, answer_room, office, Listing, fresh, opening, present_ask, every, sound_in, size_holds, ask_room, asking, joined_to, taking}
use Rattle.paper.proofs.Tests.{and_first, and_second}
use Rattle.paper.proofs.Outcomes.{must_test, must_rest, through, same_given}
use Rattle.orders.proofs.Lists.{All, all_map, all_append, all_set, all_get_d, all_mem}
use Rattle.orders.proofs.Taking.{took_line, took_line_query, FitsList, fits_present}
use Rattle.orders.specs.LawfulLines.{Typed, QueryInRange, AskInRange, AnswerInRange, Lawful}
use Rattle.journey.specs.World.{World, Event, enters, opens, asks, receives, takes, strays, no_listing, the_list, run_entering, table_changed, sent, list_added, list_changed, next, Allowed, TableOk, Reachable, begins, goes, Later, still, onwards, Unshared}
use Rattle.journey.proofs.Kept.{ListTrue, ListExact, Vouched, VouchedExactly, exact_fresh, TableGrown, grown_same, grown_trans, exact_grown, exactly_grown, kept_joined, exact_joined}
use Rattle.journey.proofs.Answers.{asked_ok, answer_is_ok, replied, answer_vouched}

-- ---- a run is entered

-- what entering gave
record Entered (t : Table) (run : List Claim) (u : Table) : Type 0 where
  roomy : count t + length run ≤ t.capacity
  is : u ≡ record { number = t.number; measure = t.measure; d = t.d; capacity = t.capacity; claims = t.claims ++ run }

was_entered : (t : Table) (run : List Claim) (u : Table) → run_entering t run ≡ gives u → Entered t run u
unfolding run_entering
was_entered t run u e =
    let e1 = must_rest (every (λ k. eqb (length k.point) t.d) run) 5 _ _ e in
    let e2 = must_rest (anew (in_force t.claims) (references_of run)) 17 _ _ e1 in
    record {
      roomy = leb-true _ _ (must_test (leb (count t + length run) t.capacity) 3 _ _ e2);
      is = sym (same_given _ _ (must_rest (leb (count t + length run) t.capacity) 3 _ _ e2));
    }

-- a table that enters a run only grows
entered_grown : (t : Table) (run : List Claim) (u : Table) → Entered t run u → TableGrown t u
entered_grown t run u e = rw e.is (record { more = run; claims = refl; number = refl; measure = refl; d = refl })

entered_ok : (t : Table) (run : List Claim) (u : Table) → Entered t run u → TableOk t → ((k : Claim) → Memᴰ k run → k.reference < 2 ^ 32)
    → TableOk u
entered_ok t run u e ok typed =
    rw e.is (record {
      fits = omega (arith, e.roomy, length-append t.claims run);
      small = ok.small;
      references = λ k m. ⊎_elim (λ a. ok.references k a) (λ a. typed k a) (Memᴰ.append_cases t.claims m);
    })

-- ---- one event, and every reachable world

-- what one event, or none, makes of a world
record Onward (w v : World) : Type 0 where
  table : TableGrown w.table v.table
  lists : length w.lists ≤ length v.lists

module _ (c : Codec) (law : Lawful c) (Elsewhere : List ℕ → Type 0) where
  -- a line, read as an answer, is one that is vouched for, or comes from elsewhere
  abbrev pub ReadsAs : (Answer → Type 0) → List ℕ → Type 0
  ReadsAs By s = (y : Answer) → c.read_answer s ≡ gives y → By y ⊎ Elsewhere s

  -- as every line of the air is
  abbrev pub Honest : Table → List ℕ → Type 0
  Honest t = ReadsAs (VouchedExactly t)

  pub record Good (t : Table) (L : Listing) : Type 0 where
    pub query : QueryInRange L.query
    pub kept : Unshared c Elsewhere L.query.table → ListExact t L

  pub record Inv (w : World) : Type 0 where
    pub table : TableOk w.table
    pub air : All (Honest w.table) w.air
    pub lists : All (Good w.table) w.lists

  enters_inv : (w : World) (run : List Claim) → Inv w → ((k : Claim) → Memᴰ k run → k.reference < 2 ^ 32) → (r : Outcome Table)
      → run_entering w.table run ≡ r → Inv (table_changed w r)
  enters_inv w run i typed (refused n) e = i
  enters_inv w run i typed (gives u) e =
      let ent = was_entered w.table run u e in
      let g = entered_grown w.table run u ent in
      record {
        table = entered_ok w.table run u ent i.table typed;
        air = all_map _ _ (λ s h y e. ⊎_elim (λ v. inl (exactly_grown _ _ g y v)) (λ f. inr f) (h y e)) w.air i.air;
        lists = all_map _ _ (λ L h. record { query = h.query; kept = λ a. exact_grown _ _ g L (h.kept a) }) w.lists i.lists;
      }

  opens_inv : (w : World) (q : Query) → Inv w → Typed q → (r : Outcome Listing) → opening q ≡ r → Inv (list_added w r)
  unfolding opening
  opens_inv w q i typed (refused n) e = i
  opens_inv w q i typed (gives L) e =
      let e1 = must_rest (in_range q.measure q.d) 1 _ _ e in
      let ok : QueryInRange q =
      record {
        range = must_test (in_range q.measure q.d) 1 _ _ e;
        long = eqb-true _ _ (must_test (eqb (length q.probe) q.d) 5 _ _ e1);
        typed = typed;
      } in
      let is : fresh q ≡ L = same_given _ _ (must_rest (eqb (length q.probe) q.d) 5 _ _ e1) in
      record {
        table = i.table;
        air = i.air;
        lists = all_append _ w.lists (L ∷ []) i.lists
            (rw (← is) (record { query = ok; kept = λ a. exact_fresh w.table q ok }), tt);
      }

  -- a line that joins the air
  sent_inv : (w : World) (s : List ℕ) → Inv w → Honest w.table s → Inv (sent w (gives s))
  sent_inv w s i h = record { table = i.table; air = (h, i.air); lists = i.lists }

  asks_inv : (w : World) (L : Listing) (room size out : ℕ) → Inv w → QueryInRange L.query → (r : Outcome (List ℕ)) → asking c room size out L ≡ r
      → Inv (sent w r)
  unfolding asking
  asks_inv w L room size out i ok (refused k) e = i
  asks_inv w L room size out i ok (gives s) e =
      let e1 = must_rest (sound_in room L) 2 _ _ e in
      let e2 = must_rest (not L.complete) 16 _ _ e1 in
      let e3 = must_rest (size_holds size) 6 _ _ e2 in
      let sound = must_test (sound_in room L) 2 _ _ e in
      let unfinished = not-true _ (must_test (not L.complete) 16 _ _ e1) in
      let ranged = must_test (size_holds size) 6 _ _ e2 in
      let is : c.ask_line (present_ask L size) ≡ s = same_given _ _ (must_rest (ask_room out) 12 _ _ e3) in
      let ask : AskInRange (present_ask L size) =
      asked_ok room size L ok sound unfinished (leb-true _ _ (and_first _ _ ranged)) (leb-true _ _ (and_second (leb 1 size) _ ranged)) in
      sent_inv w s i (λ y r. absurd (law.ask_has_kind (present_ask L size) y ask (rw is r)))

  -- a line that the office wrote reads as what it wrote
  reads_back : (t : Table) (y : Answer) → AnswerInRange y → VouchedExactly t y → Honest t (c.answer_line y)
  reads_back t y ok v x r = let q : x ≡ y = same_given _ _ (sym r ∙ law.answer_back y ok) in inl (rw q v)

  receives_inv : (w : World) (s : List ℕ) (out : ℕ) → Inv w → (r : Outcome (List ℕ)) → office c w.table out s ≡ r → Inv (sent w r)
  unfolding office line_answered
  receives_inv w s out i (refused k) e = i
  receives_inv w s out i (gives z) e =
      let a1 = through (c.read_ask s) _ _ (must_rest (answer_room out) 12 _ _ e) in
      let a : Ask = a1.value in
      let a2 = through (answer_to w.table a) _ _ a1.second in
      let y : Answer = a2.value in
      let ok = law.ask_is_ok s a a1.first in
      let rep = replied w.table a y a2.first in
      let yok : AnswerInRange y = rw rep.is (answer_is_ok w.table a i.table ok rep.held) in
      let v : VouchedExactly w.table y = rw rep.is (answer_vouched w.table a rep.ours rep.held ok.one) in
      let is : c.answer_line y ≡ z = same_given _ _ a2.second in
      sent_inv w z i (rw (← is) (reads_back w.table y yok v))

  -- what a line brings that a list takes: an answer to its present ask, which is vouched for
  record Brought (By : Answer → Type 0) (L K : Listing) : Type 0 where
    answer : Answer
    vouched : By answer
    unfinished : L.complete ≡ false
    fits : FitsList L answer
    is : K ≡ joined_to L answer

  brought : (By : Answer → Type 0) (room : ℕ) (L K : Listing) (s : List ℕ) → ReadsAs By s → Unshared c Elsewhere L.query.table → QueryInRange L.query
      → taking c room L s ≡ gives K → Brought By L K
  unfolding Unshared
  brought By room L K s honest alone ok e =
      let tl = took_line c room L s K e in
      let y : Answer = tl.answer in
      let tk = tl.joins in
      let fits = fits_present L y ok.long (law.answer_is_ok s y tl.read) tl.own tk.present in
      record {
        answer = y;
        vouched = ⊎_elim (λ v. v) (λ f. absurd (alone s f y tl.read (ap (λ (q : Query). q.table) (sym fits.query)))) (honest y tl.read);
        unfinished = tk.unfinished;
        fits = fits;
        is = tk.is;
      }

  -- whatever line comes, from the air or a file: a list that takes it stays what it promised
  module _ (t : Table) (room : ℕ) (L K : Listing) (s : List ℕ) (alone : Unshared c Elsewhere L.query.table) (e : taking c room L s ≡ gives K) where
    pub line_keeps : ReadsAs (Vouched t) s → ListTrue t L → ListTrue t K
    line_keeps honest k =
        let b = brought (Vouched t) room L K s honest alone k.query e in
        rw b.is (kept_joined t L b.answer k b.vouched b.unfinished b.fits)

    line_exact : Honest t s → ListExact t L → ListExact t K
    line_exact honest x =
        let b = brought (VouchedExactly t) room L K s honest alone x.kept.query e in
        rw b.is (exact_joined t L b.answer x b.vouched b.unfinished b.fits)

  takes_inv : (w : World) (j at room : ℕ) (s : List ℕ) → Inv w → j < length w.lists → Memᴰ s w.air → (r : Outcome Listing)
      → taking c room (the_list w j) s ≡ r → Inv (list_changed w at r)
  takes_inv w j at room s i hj m (refused k) e = i
  takes_inv w j at room s i hj m (gives K) e =
      let L : Listing = the_list w j in
      let q : K.query ≡ L.query = took_line_query c room L s K e in
      let good : Good w.table L = all_get_d _ w.lists j no_listing i.lists hj in
      let keeps : Unshared c Elsewhere K.query.table → ListExact w.table K =
      λ u. let v : Unshared c Elsewhere L.query.table = rw q at u in
      line_exact w.table room L K s v e (all_mem _ s w.air i.air m) (good.kept v) in
      record {
        table = i.table;
        air = i.air;
        lists = all_set _ w.lists at K i.lists (record { query = rw q good.query; kept = keeps });
      }

  -- This holds whatever room the two ends are given, whichever line the office reads and wherever a list is put that took one: what shuts out
  -- ends that refuse, repeat or drop everything stands in `Growth`.
  step_inv : (w : World) (e : Event) → Inv w → Allowed c Elsewhere w e → Inv (next c w e)
  unfolding next Allowed
  step_inv w (enters run) i a = enters_inv w run i a _ refl
  step_inv w (opens q) i a = opens_inv w q i a _ refl
  step_inv w (asks j size room out) i a = asks_inv w (the_list w j) room size out i (all_get_d _ w.lists j no_listing i.lists a).query _ refl
  step_inv w (receives s out) i a = receives_inv w _ _ i _ refl
  step_inv w (takes j room s) i a = takes_inv w j _ _ s i a.0 a.1 _ refl
  step_inv w (strays s) i a = sent_inv w s i (λ y r. inr a)

  pub always : {w : World} → Reachable c Elsewhere w → Inv w
  always (begins t ok) = record { table = ok; air = tt; lists = tt }
  always (goes {w} r e a) = step_inv w e (always r) a

  -- each event leaves the table as it was or enters a run, and loses no list
  entered_onward : (w : World) (run : List Claim) (x : Outcome Table) → run_entering w.table run ≡ x → Onward w (table_changed w x)
  entered_onward w run (refused n) e = record { table = grown_same _; lists = omega arith }
  entered_onward w run (gives u) e = record { table = entered_grown w.table run u (was_entered w.table run u e); lists = omega arith }

  added_onward : (w : World) (x : Outcome Listing) → Onward w (list_added w x)
  added_onward w (refused n) = record { table = grown_same _; lists = omega arith }
  added_onward w (gives L) = record { table = grown_same _; lists = omega (arith, length-append w.lists (L ∷ [])) }

  sent_onward : (w : World) (x : Outcome (List ℕ)) → Onward w (sent w x)
  sent_onward w (refused n) = record { table = grown_same _; lists = omega arith }
  sent_onward w (gives s) = record { table = grown_same _; lists = omega arith }

  moved_onward : (w : World) (i : ℕ) (x : Outcome Listing) → Onward w (list_changed w i x)
  moved_onward w i (refused n) = record { table = grown_same _; lists = omega arith }
  moved_onward w i (gives L) = record { table = grown_same _; lists = omega (arith, length-set w.lists i L) }

  next_onward : (w : World) (e : Event) → Onward w (next c w e)
  unfolding next
  next_onward w (enters run) = entered_onward w run _ refl
  next_onward w (opens q) = added_onward w (opening q)
  next_onward w (asks i size room out) = sent_onward w (asking c room size out (the_list w i))
  next_onward w (receives s out) = sent_onward w (office c w.table _ _)
  next_onward w (takes i room s) = moved_onward w _ (taking c _ (the_list w i) s)
  next_onward w (strays s) = sent_onward w (gives s)

  pub later_grown : (w : World) {v : World} → Later c Elsewhere w v → TableGrown w.table v.table
  later_grown w still = grown_same _
  later_grown w (onwards {v} l e a) = grown_trans _ _ _ (later_grown w l) (next_onward v e).table

  pub later_lists : (w : World) {v : World} → Later c Elsewhere w v → length w.lists ≤ length v.lists
  later_lists w still = omega arith
  later_lists w (onwards {v} l e a) = omega (arith, later_lists w l, (next_onward v e).lists)

  pub later_reachable : (w : World) {v : World} → Reachable c Elsewhere w → Later c Elsewhere w v → Reachable c Elsewhere v
  later_reachable w r still = r
  later_reachable w r (onwards l e a) = goes (later_reachable w r l) e a
