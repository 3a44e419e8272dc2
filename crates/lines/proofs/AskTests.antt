-- What the tests of an ask say, how long its frame is, and the ways through its reader. No contract cites this file. Assumes nothing.
use Prim.Native.Nat.{ℕ, ◌+◌, ◌*◌, ◌≤◌}
use native.Mathlib.Omega.{arith}
use mathlib.Core.Path.{◌≡◌, refl, sym, ap, ◌∙◌}
use mathlib.Core.Bool.{Bool, true, false, ◌&&◌, ◌||◌}
use mathlib.Core.List.{List}
use lib.ListN.{length, drop, length-append}
use lib.Seq.{drop-drop}
use lib.Dec.{leb, eqb}
use borrow.Author.Tests.{leb-true, eqb-true, eq-eqb, ne_eqb}
use Rattle.paper.specs.Outcomes.{refused, gives}
use Rattle.paper.specs.Frames.{be, num, frame_of, is_line}
use Rattle.paper.specs.Ends.{size_holds}
use Rattle.paper.specs.Fields.{front, scope_in, scope_ok}
use Rattle.paper.specs.Orders.{Query}
use Rattle.paper.specs.Lines.{ask_kind, ask_order, head_ok, behind, query_at, query_fits, ask_frame, ask_ranges, ask_fits, ask_ok, is_ask, ask_at, read_as_ask}
use Rattle.paper.specs.declared.lines.Scope.{Scope}
use Rattle.paper.specs.declared.queries.Query as queries
use Rattle.std.proofs.lemmas.Bool.{and_parts}
use Rattle.std.proofs.Math.Bool.{and-false}
use Rattle.line_digits.proofs.NumbersAndFrames.{Bytes, bytes_append, bytes_be, length_be}
use Rattle.line_fields.specs.Layout.{laid_out}
use Rattle.line_fields.proofs.PartLaws.{HeadOk, is_head, laid_then, length_front, bytes_front}
use Rattle.line_fields.proofs.Round.{behind_eq}
use Rattle.paper.specs.Limits.{most_page}
use Rattle.lines.proofs.QueryTests.{QueryFits, query_fits_lem}
use Rattle.lines.proofs.WritersReaders.{reads, reads_10}

-- ---- the frame

pub length_ask : (q : Query) (p : Scope) (s : ℕ) → length (ask_frame q p s) ≡ 29 + 4 * length q.probe
unfolding ask_frame
length_ask q p s = simp (length-append, length_front, length_be) (omega arith)

pub bytes_ask : (q : Query) (p : Scope) (s : ℕ) → Bytes (ask_frame q p s)
unfolding ask_frame
bytes_ask q p s = bytes_append (front (ask_kind q.order) q p) (be 1 s) (bytes_front (ask_kind q.order) q p) (bytes_be 1 s)

-- ---- what the tests say

pub page_size : (p : Scope) (s : ℕ) → ask_ranges p s ≡ true → s ≤ most_page
unfolding ask_ranges
page_size p s e =
    let a = and_parts (scope_ok p) ((eqb p.from 1 || eqb p.snapshot 0) && (leb 1 s && leb s most_page)) e in
    let b = and_parts (eqb p.from 1 || eqb p.snapshot 0) (leb 1 s && leb s most_page) a.1 in
    leb-true s most_page (and_parts (leb 1 s) (leb s most_page) b.1).1

-- what the writer's test says
pub record AskFits (q : Query) (p : Scope) (s : ℕ) : Type 0 where
  pub query : QueryFits q
  pub rest : ask_ranges p s ≡ true

pub ask_fits_lem : (q : Query) (p : Scope) (s : ℕ) → ask_fits q p s ≡ true → AskFits q p s
unfolding ask_fits
ask_fits_lem q p s e = let a = and_parts (query_fits q) (ask_ranges p s) e in record { query = query_fits_lem q a.0; rest = a.1 }

-- what the reader's test says
pub record AskOk (k : ℕ) (f : List ℕ) : Type 0 where
  pub headed : HeadOk k f
  pub size : length f ≡ 29 + 4 * num 1 (drop 6 f)
  pub rest : ask_ranges (scope_in (behind f)) (num 1 (drop 21 (behind f))) ≡ true

pub is_ask_lem : (k : ℕ) (f : List ℕ) → ask_ok k f ≡ true → AskOk k f
unfolding ask_ok
is_ask_lem k f e =
    let last = ask_ranges (scope_in (behind f)) (num 1 (drop 21 (behind f))) in
    let size = eqb (length f) (29 + 4 * num 1 (drop 6 f)) in
    let p = and_parts (head_ok k f) (size && last) e in
    let q = and_parts size last p.1 in
    record { headed = is_head k f p.0; size = eqb-true (length f) (29 + 4 * num 1 (drop 6 f)) q.0; rest = q.1 }

pub any_ask : (f : List ℕ) → is_ask f ≡ true → AskOk (ask_kind (ask_order (num 1 f))) f
unfolding is_ask
any_ask f e = is_ask_lem (ask_kind (ask_order (num 1 f))) f e

-- ---- what is to be tested

and_true : (t : Bool) → t && true ≡ t
and_true true = refl
and_true false = refl

-- the rules behind a scope that is in range, one after the other
module _ (p : Scope) (s : ℕ) (e : scope_ok p ≡ true) where
  module _ (b : Bool) (be : b ≡ size_holds s) where
    pub page_out : b ≡ false → ask_ranges p s ≡ false
    unfolding ask_ranges
    page_out h = rw (e, sym be ∙ h) (and-false (eqb p.from 1 || eqb p.snapshot 0))

    module _ (h : b ≡ true) where
      pub placed : p.from ≡ 1 → ask_ranges p s ≡ true
      unfolding ask_ranges
      placed q = rw (e, sym be ∙ h, eq-eqb p.from 1 q)

      pub unplaced : (p.from ≡ 1 → ⊥) → ask_ranges p s ≡ eqb p.snapshot 0
      unfolding ask_ranges
      unplaced q = rw (e, sym be ∙ h, ne_eqb p.from 1 q) (and_true (eqb p.snapshot 0))

-- the layout, and then the ranges
pub ask_rule : (k : ℕ) (f : List ℕ) → ask_ok k f ≡ laid_out k 29 f && ask_ranges (scope_in (behind f)) (num 1 (drop 21 (behind f)))
unfolding ask_ok
ask_rule k f = laid_then k 29 f (ask_ranges (scope_in (behind f)) (num 1 (drop 21 (behind f))))

-- ---- reading

-- the ways through the reader of a sound line
module _ (l : List ℕ) (s : is_line l ≡ true) (b : Bool) (be : b ≡ laid_out (ask_kind (ask_order (num 1 (frame_of l)))) 29 (frame_of l)) where
  pub unlaid_ask : b ≡ false → refused 10 ≡ read_as_ask l
  unfolding read_as_ask is_ask
  unlaid_ask h = sym (reads_10 is_ask ask_at l s (ask_rule _ (frame_of l) ∙ rw (sym be ∙ h)))

  module _ (h : b ≡ true) (d : ℕ) (de : d ≡ num 1 (drop 6 (frame_of l))) (at : ℕ) (ate : at ≡ 7 + 4 * d) (p : Scope) (pe : p ≡ scope_in (drop at (frame_of l)))
      (n : ℕ) (ne : n ≡ num 1 (drop (at + 21) (frame_of l))) (t : Bool) (te : t ≡ ask_ranges p n) where
    reach_at : drop at (frame_of l) ≡ behind (frame_of l)
    reach_at = rw (ate, de) (sym (behind_eq (frame_of l)))

    size_at : drop (at + 21) (frame_of l) ≡ drop 21 (behind (frame_of l))
    size_at = sym (drop-drop 21 at (frame_of l)) ∙ ap (drop 21) reach_at

    ranged : is_ask (frame_of l) ≡ t
    unfolding is_ask
    ranged = ask_rule _ (frame_of l) ∙ rw (sym be ∙ h, te, pe, ne, reach_at, size_at)

    pub ask_out_lem : t ≡ false → refused 10 ≡ read_as_ask l
    unfolding read_as_ask
    ask_out_lem q = sym (reads_10 is_ask ask_at l s (ranged ∙ q))

    pub ask_read_lem : t ≡ true → (x : queries.Query) → x ≡ query_at (ask_order (num 1 (frame_of l))) (frame_of l)
        → gives (record { query = x; scope = p; size = n }) ≡ read_as_ask l
    unfolding read_as_ask
    ask_read_lem q x xe = sym (reads is_ask ask_at l s (ranged ∙ q) ∙ (unfold ask_at in rw (xe, pe, ne, reach_at, size_at)))
