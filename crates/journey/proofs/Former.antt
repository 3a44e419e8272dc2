-- [7.15] Answers by the former rule: a list that takes them stays true, and where it lacks nothing its next answer completes it. Assumes nothing.
use Prim.Native.Nat.{ℕ, ◌≤◌}
use mathlib.Core.Path.{◌≡◌, refl, sym, ap, ◌∙◌}
use mathlib.Core.Logic.{inl}
use mathlib.Core.Bool.{Bool, true, cond}
use mathlib.Core.List.{List, [], append-nil}
use native.Mathlib.Omega.{arith}
use lib.ListN.{length, take, drop, length-take}
use lib.Seq.{take-nil, drop-length}
use borrow.Author.Tests.{ltb-true, ltb-false, le-leb}
use Rattle.paper.specs.declared.orders.Item.{Item}
use Rattle.paper.specs.Orders.{snapshot_of, following, page_of, last_of, listed}
use Rattle.paper.specs.Outcomes.{gives}
use Rattle.paper.specs.Ends.{Ask, Codec, Table, count, answer_of, Listing, present_place, present_ask, joined_to, taking}
use Rattle.paper.proofs.Outcomes.{same_given}
use Rattle.orders.specs.LawfulLines.{Lawful}
use Rattle.journey.specs.World.{Unshared}
use Rattle.journey.specs.Promise.{all_of, former_answer_of}
use Rattle.journey.proofs.Kept.{ListTrue, after, Vouched, TableGrown, grown_same, vouched_grown}
use Rattle.journey.proofs.Answers.{Replied, present_snapshot}
use Rattle.journey.proofs.Growth.{MayAnswer, lacking}
use Rattle.journey.proofs.Journey.{line_keeps}

-- what an office gave by the former rule to an ask that it answered
former_vouched : (t : Table) (a : Ask) → Replied t a (answer_of t a) → 1 ≤ a.size → Vouched t (former_answer_of t a)
unfolding former_answer_of page_of following
former_vouched t a r one =
    let f : List Item = after t a.query a.place (snapshot_of a.place (count t)) in
    record {
      ours = r.ours;
      held = r.held;
      size = a.size;
      one = one;
      page = refl;
      all = λ p. omega (arith, ltb-true (length (take a.size f)) a.size p, length-take a.size f);
      full = λ p. omega (arith, ltb-false (length (take a.size f)) a.size p, length-take a.size f);
    }

module _ (c : Codec) (law : Lawful c) where
  -- table u is t or has grown from it
  pub a_former_answer_keeps_a_list_true : (t u : Table) → TableGrown t u → (a : Ask) → Replied t a (answer_of t a) → 1 ≤ a.size
      → (s : List ℕ) → c.read_answer s ≡ gives (former_answer_of t a) → (room : ℕ) (L K : Listing) → taking c room L s ≡ gives K → ListTrue u L → ListTrue u K
  unfolding Unshared
  a_former_answer_keeps_a_list_true t u g a r one s reads room L K e k =
      line_keeps c law (λ x. ⊥) u room L K s (λ x f. absurd f) e
      (λ y q. let is : former_answer_of t a ≡ y = same_given _ _ (sym reads ∙ q) in inl (rw (← is) (vouched_grown t u g _ (former_vouched t a r one)))) k

  -- of a true list that has started and lacks nothing: the answer to its next ask is empty, and completes it
  module _ (t : Table) (L : Listing) (size : ℕ) (r : MayAnswer t L size) (started : L.started ≡ true) (none : L.items ≡ all_of t L) where
    nothing_left : following L.query t.claims (present_place L) ≡ []
    nothing_left =
        let at : snapshot_of (present_place L) (count t) ≡ L.snapshot =
        present_snapshot t L r.kept r.unfinished ∙ ap (λ (b : Bool). cond b L.snapshot (count t)) started in
        lacking c law t L size r t (grown_same t)
        ∙ ap (λ (s : ℕ). drop (length L.items) (listed L.query t.claims s)) at
        ∙ ap (λ (l : List Item). drop (length l) (all_of t L)) none ∙ drop-length (all_of t L)

    pub the_next_answer_completes_it : ((joined_to L (answer_of t (present_ask L size))).complete ≡ true) × ((joined_to L (answer_of t (present_ask L size))).items ≡ L.items)
    unfolding joined_to answer_of page_of last_of
    the_next_answer_completes_it =
        (rw nothing_left (le-leb 0 size (omega arith)), rw (nothing_left, take-nil {A = Item} size) (append-nil L.items))
