-- Of a list that is kept: its present ask is written and answered, the answer is taken, and how far it takes the list. Assumes nothing.
use Prim.Native.Nat.{ℕ, ◌+◌, ◌≤◌, ◌<◌}
use mathlib.Core.Path.{◌≡◌, refl, ap, ◌∙◌}
use mathlib.Core.Bool.{Bool, true, false, cond}
use mathlib.Core.List.{List, ◌∷◌, ◌++◌}
use native.Mathlib.Omega.{arith}
use lib.ListN.{length, take, drop, length-append}
use lib.Seq.{get_or-set_same}
use borrow.Author.Tests.{le-leb}
use Rattle.paper.specs.declared.orders.Item.{Item}
use Rattle.paper.specs.Orders.{listed, snapshot_of, following, page_of, last_of}
use Rattle.paper.specs.Outcomes.{Outcome, gives, must, onto}
use Rattle.paper.specs.Ends.{Ask, Answer, Codec, Table, count, matches, answer_of, answer_to, line_answered, office, Listing, present_place, present_ask, asking, joined_to, taken, own_kind, taking}
use Rattle.paper.proofs.Tests.{and_both, false_not}
use Rattle.paper.proofs.Outcomes.{must_go}
use Rattle.orders.proofs.Taking.{order_same}
use Rattle.orders.specs.LawfulLines.{AskInRange, AnswerInRange, Lawful}
use Rattle.journey.specs.World.{World, no_listing, the_list, sent, list_changed, TableOk, next}
use Rattle.journey.specs.Promise.{ask_line_of, reply_line_of, Answered, Grows}
use Rattle.journey.proofs.Kept.{ListTrue, TableGrown, grown_listed, kept_sound, Continues, continues, longer}
use Rattle.journey.proofs.Answers.{asked_ok, answer_is_ok, present_snapshot, present_held, present_answered, reply_taken}
use Rattle.paper.specs.Limits.{longest_answer, longest_ask, most_claims, most_page}

-- ---- a list asks, is answered and grows

-- a list that may ask this table for a page
pub record MayAnswer (t : Table) (L : Listing) (size : ℕ) : Type 0 where
  pub table : TableOk t
  pub kept : ListTrue t L
  pub ours : matches t L.query ≡ true
  pub unfinished : L.complete ≡ false
  pub one : 1 ≤ size
  pub most : size ≤ most_page

module _ (c : Codec) (law : Lawful c) (t : Table) (L : Listing) (size : ℕ) (r : MayAnswer t L size) where
  few : count t ≤ most_claims
  few = omega (arith, r.table.fits, r.table.small)

  ask_is_ok : AskInRange (present_ask L size)
  ask_is_ok =
      asked_ok (length L.items) size L r.kept.query (kept_sound t L (length L.items) r.kept few (omega arith)) r.unfinished r.one r.most

  held : snapshot_of (present_place L) (count t) ≤ count t
  held = present_held t L r.kept r.unfinished

  abbrev pub reply : Answer
  reply = answer_of t (present_ask L size)

  reply_ok : AnswerInRange reply
  reply_ok = answer_is_ok t (present_ask L size) r.table ask_is_ok held

  pub asks_line : (room out : ℕ) → length L.items ≤ room → longest_ask ≤ out → asking c room size out L ≡ gives (ask_line_of c L size)
  unfolding asking
  asks_line room out h g =
      must_go _ _ _ (kept_sound t L room r.kept few h) ∙ must_go _ _ _ (false_not _ r.unfinished)
      ∙ must_go _ _ _ (and_both _ _ (le-leb 1 size r.one) (le-leb size most_page r.most)) ∙ must_go _ _ _ (le-leb longest_ask out g)

  pub office_line : (out : ℕ) → longest_answer ≤ out → office c t out (ask_line_of c L size) ≡ gives (reply_line_of c t L size)
  unfolding office line_answered
  office_line out h =
      must_go _ _ _ (le-leb longest_answer out h)
      ∙ ap (λ (x : Outcome Ask). onto x (λ a. onto (answer_to t a) (λ y. gives (c.answer_line y)))) (law.ask_back (present_ask L size) ask_is_ok)
      ∙ ap (λ (x : Outcome Answer). onto x (λ y. gives (c.answer_line y))) (present_answered t L r.kept r.unfinished size r.ours)

  pub takes_line_lem : (room : ℕ) → length (joined_to L reply).items ≤ room → taking c room L (reply_line_of c t L size) ≡ gives (joined_to L reply)
  unfolding taking joined_to answer_of
  takes_line_lem room h =
      must_go _ _ _ (kept_sound t L room r.kept few (omega (arith, length-append L.items reply.items)))
      ∙ ap (λ (x : Outcome Answer). onto x (λ y. must (own_kind L y) 10 (taken room L y))) (law.answer_back reply reply_ok)
      ∙ must_go _ _ _ (order_same L.query.order)
      ∙ reply_taken t L size room r.unfinished r.one h

  -- the snapshot that the answer carries, and what the list then lacks
  abbrev at : ℕ
  at = snapshot_of (present_place L) (count t)

  module _ (u : Table) (g : TableGrown t u) where
    same : listed L.query u.claims at ≡ listed L.query t.claims at
    same = grown_listed t u g L.query at held

    on : Continues t L at
    on =
        continues t L at r.kept r.unfinished
        (λ p. present_snapshot t L r.kept r.unfinished ∙ ap (λ (b : Bool). cond b L.snapshot (count t)) p)

    pub lacking : following L.query t.claims (present_place L) ≡ drop (length L.items) (listed L.query u.claims at)
    unfolding following
    lacking = rw same on.lacks

    pub joined_front : L.items ++ page_of L.query t.claims (present_place L) size ≡ take (length L.items + size) (listed L.query u.claims at)
    unfolding page_of following
    joined_front = rw same (longer t L at size on)

-- ---- handed on: the same of worlds

-- what a call gave is before the air of before, or in its list's place
sent_is : (w : World) (x : Outcome (List ℕ)) (s : List ℕ) → x ≡ gives s → (sent w x).air ≡ s ∷ w.air
sent_is w x s e = rw e

moved_is : (w : World) (i : ℕ) (x : Outcome Listing) (L : Listing) → x ≡ gives L → i < length w.lists → the_list (list_changed w i x) i ≡ L
moved_is w i x L e here = rw e (get_or-set_same w.lists i L no_listing here)

module _ (c : Codec) (law : Lawful c) where
  pub is_answered : (w v : World) (i size : ℕ) → MayAnswer w.table (the_list w i) size → MayAnswer v.table (the_list w i) size → Answered c w v i size
  unfolding next
  is_answered w v i size before after =
      record {
        written = λ room out h g. sent_is w _ _ (asks_line c law w.table (the_list w i) size before room out h g);
        answered = λ out h. sent_is v _ _ (office_line c law v.table (the_list w i) size after out h);
      }

  pub has_grown : (w v u : World) (i size : ℕ) → MayAnswer v.table (the_list w i) size → TableGrown v.table u.table → the_list u i ≡ the_list w i
      → i < length u.lists → Grows c w v u i size
  unfolding next joined_to answer_of page_of
  has_grown w v u i size r g stands here =
      let L : Listing = the_list w i in
      let t : Table = v.table in
      record {
        grown = joined_to L (answer_of t (present_ask L size));
        accepted = λ room h.
            moved_is u i _ _ (ap (λ (X : Listing). taking c room X (reply_line_of c t L size)) stands ∙ takes_line_lem c law t L size r room h) here;
        extended =
            record {
              more = ap (λ (l : List Item). L.items ++ take size l) (lacking c law t L size r u.table g);
              front = joined_front c law t L size r u.table g;
              complete = ap (last_of size) (lacking c law t L size r u.table g);
              query = refl;
              snapshot = present_snapshot t L r.kept r.unfinished;
            };
      }
