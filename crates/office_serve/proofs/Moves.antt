-- The office over chunks: what a cut and a served line mean to it, that turns add up, and the end of the input. Assumes nothing.
use Prim.Native.Nat.{ℕ, zero, suc, ◌-◌, ◌<◌}
use mathlib.Core.Path.{◌≡◌, refl, sym, ap, ◌∙◌}
use mathlib.Core.List.{List, [], ◌∷◌, ◌++◌, append-nil, append_assoc}
use mathlib.Core.Bool.{Bool, true, false, cond}
use mathlib.Core.Logic.{◌⊎◌, ⊎_elim}
use native.Mathlib.Omega.{arith}
use native.Mathlib.Decide.{ℕ_discrete}
use lib.Dec.{eqb}
use lib.ListN.{length, drop, length-append}
use borrow.Author.Tests.{eq-eqb, ne_eqb}
use Rattle.paper.specs.Tree.{Store}
use Rattle.paper.specs.Program.{line_turn, OfficeState, line_done, holding_line, byte, fed, at_end, input_done}
use Rattle.office_cut.specs.Cut.{CutLine, cut_with, cut_of, line_in, rest_in, has_end, LineHeld}
use Rattle.office_cut.specs.declared.Piece.{Piece}
use Rattle.office_cut.proofs.LinesCut.{Meant, cut_means, kept_none, cut_on}
use Rattle.office_serve.specs.declared.feeding.Sitting.{Sitting}
use Rattle.office_serve.specs.Serving.{books_of, Served}
use Rattle.office_serve.specs.Feeding.{Stands, Moved, Ended}
use Rattle.office_serve.proofs.Written.{wrote_none, wrote_more}
use Rattle.paper.specs.Limits.{longest_answer}

-- ---- reading on

fed_line : (xs : List ℕ) (o : OfficeState) → 0 < o.left
    → fed o xs ≡ cond (has_end xs) (fed (line_done o (o.held ++ line_in xs)) (rest_in xs)) (holding_line o (o.held ++ line_in xs))
unfolding fed byte has_end line_in rest_in line_done
fed_line [] o h = rw append-nil
fed_line (x ∷ xs) o h = go (ℕ_discrete x 10) (fed_line xs (holding_line o (o.held ++ (x ∷ []))) h)
  where
    no0 : eqb o.left 0 ≡ false
    no0 = ne_eqb o.left 0 (λ q. omega arith)

    go : Dec (x ≡ 10)
        → fed (holding_line o (o.held ++ (x ∷ []))) xs ≡ cond (has_end xs) (fed (line_done o ((o.held ++ (x ∷ [])) ++ line_in xs)) (rest_in xs)) (holding_line o ((o.held ++ (x ∷ [])) ++ line_in xs))
        → fed o (x ∷ xs) ≡ cond (has_end (x ∷ xs)) (fed (line_done o (o.held ++ line_in (x ∷ xs))) (rest_in (x ∷ xs))) (holding_line o (o.held ++ line_in (x ∷ xs)))
    go (yes e) deep = rw (no0, eq-eqb x 10 e)
    go (no ne) deep = rw (no0, ne_eqb x 10 ne) (rw append_assoc at deep)

rest_none : (xs : List ℕ) → has_end xs ≡ false → rest_in xs ≡ []
unfolding rest_in has_end
rest_none [] h = refl
rest_none (x ∷ xs) h = go (eqb x 10) (rest_none xs) h
  where
    go : (b : Bool) → (has_end xs ≡ false → rest_in xs ≡ []) → cond b true (has_end xs) ≡ false → cond b xs (rest_in xs) ≡ []
    go true deep e = absurd (let z : ◌≡◌ {A = ℕ} 0 1 = cc in omega arith)
    go false deep e = deep e

-- a cut reads on
pub turn_on : (size at : ℕ) (l l' chunk : List ℕ) (p : Piece) → cut_with l' p ≡ cut_of (length l) l size at (drop at chunk) → at < length chunk → at < p.at
turn_on size at l l' chunk p ens h =
    let q : p.at ≡ (cut_of (length l) l size at (drop at chunk)).piece.at = ap (λ (x : CutLine). x.piece.at) ens in
    omega (arith, cut_on (length l) l chunk size at h)

-- what it left, where it was asked at the sitting `sit`
module _ (sit : Sitting) (s : Store) (l l' chunk : List ℕ) (p : Piece) (len : length l ≡ longest_answer)
    (ens : cut_with l' p ≡ cut_of (length l) l sit.size sit.at (drop sit.at chunk)) where
  meant : (h : List ℕ) → LineHeld longest_answer l sit.size h → Meant longest_answer chunk h sit.at (drop sit.at chunk) (cut_with l' p)
  meant h k = rw (ens, len) (cut_means longest_answer chunk (drop sit.at chunk) l sit.size sit.at h refl k)

  pub moved_part : (o : OfficeState) → 0 < sit.left → p.whole ≡ false → (out : List ℕ) → Stands s l sit o
      → Moved o chunk sit out s l' (record { table = s.table; size = p.size; left = sit.left; at = p.at; written = sit.written }) out
  unfolding fed
  moved_part o h w out st =
      let xs : List ℕ = drop sit.at chunk in
      let m = meant o.held st.line in
      let unended : has_end xs ≡ false = sym m.whole ∙ w in
      let f = fed_line xs o (omega (arith, st.left)) in
      record {
        after = holding_line o (o.held ++ line_in xs);
        stands = record { books = st.books; line = m.kept; left = st.left };
        same = rw (m.rest, rest_none xs unended) (sym (rw unended at f));
        more = [];
        printed = sym (append-nil o.printed);
        out = sym (wrote_none out sit.written);
        written = omega arith;
      }

  pub moved_line : (o : OfficeState) → 0 < sit.left → p.whole ≡ true → (out out' : List ℕ) (s' : Store) (e : ℕ)
      → ((h : List ℕ) → LineHeld longest_answer l' p.size h → Served (line_turn (books_of s) h) s' out sit.written out' e) → length l' ≡ longest_answer → Stands s l sit o
      → Moved o chunk sit out s' l' (record { table = s'.table; size = 0; left = sit.left - 1; at = p.at; written = e }) out'
  unfolding line_done
  moved_line o h w out out' s' e serves len' st =
      let xs : List ℕ = drop sit.at chunk in
      let m = meant o.held st.line in
      let whole : has_end xs ≡ true = sym m.whole ∙ w in
      let f = fed_line xs o (omega (arith, st.left)) in
      let v : Served (line_turn o.books (o.held ++ line_in xs)) s' out sit.written out' e = rw st.books at (serves (o.held ++ line_in xs) m.kept) in
      record {
        after = line_done o (o.held ++ line_in xs);
        stands = record { books = v.books; line = rw len' at (kept_none l'); left = omega (arith, st.left) };
        same = rw m.rest (sym (rw whole at f));
        more = (line_turn o.books (o.held ++ line_in xs)).printed;
        printed = refl;
        out = v.printed.out;
        written = v.printed.end;
      }

-- ---- turns add up

pub moved_none : (o : OfficeState) (chunk : List ℕ) (sit : Sitting) (out : List ℕ) (s : Store) (l : List ℕ) → Stands s l sit o → Moved o chunk sit out s l sit out
moved_none o chunk sit out s l st =
    record { after = o; stands = st; same = refl; more = []; printed = sym (append-nil o.printed); out = sym (wrote_none out sit.written); written = omega arith }

pub moved_more : (o : OfficeState) (chunk : List ℕ) (sit₀ sit₁ sit₂ : Sitting) (out₀ out₁ out₂ : List ℕ) (s₁ s₂ : Store) (l₁ l₂ : List ℕ)
    → Moved o chunk sit₀ out₀ s₁ l₁ sit₁ out₁ → ((x : OfficeState) → Stands s₁ l₁ sit₁ x → Moved x chunk sit₁ out₁ s₂ l₂ sit₂ out₂) → Moved o chunk sit₀ out₀ s₂ l₂ sit₂ out₂
moved_more o chunk sit₀ sit₁ sit₂ out₀ out₁ out₂ s₁ s₂ l₁ l₂ m f =
    let n = f m.after m.stands in
    let len = length-append m.more n.more in
    record {
      after = n.after;
      stands = n.stands;
      same = n.same ∙ m.same;
      more = m.more ++ n.more;
      printed = n.printed ∙ ap (λ (x : List ℕ). x ++ n.more) m.printed ∙ append_assoc o.printed m.more n.more;
      out = n.out ∙ rw (m.out, m.written) (wrote_more out₀ sit₀.written m.more n.more);
      written = omega (arith, m.written, n.written, len);
    }

pub still_later : (sit₀ sit : Sitting) (at : ℕ) → (sit ≡ sit₀) ⊎ (sit₀.at < sit.at) → sit.at < at → sit₀.at < at
still_later sit₀ sit at w h = ⊎_elim (λ e. rw (← e) h) (λ g. omega arith) w

-- ---- the end of the input

over_stop : (o : OfficeState) → o.left ≡ 0 → input_done o ≡ o
unfolding input_done
over_stop o h = rw h

over_none : (o : OfficeState) → o.held ≡ [] → input_done o ≡ o
unfolding input_done
over_none o h = ap (λ (l : List ℕ). at_end o.left o l) h ∙ go o.left
  where
    go : (n : ℕ) → at_end n o [] ≡ o
    go zero = refl
    go (suc n) = refl

over_some : (o : OfficeState) → 0 < o.left → 0 < length o.held → input_done o ≡ line_done o o.held
unfolding input_done
over_some o h k = go o.left o.held h k
  where
    go : (n : ℕ) (l : List ℕ) → 0 < n → 0 < length l → at_end n o l ≡ line_done o l
    go zero l a b = absurd (omega arith)
    go (suc n) [] a b = absurd (omega arith)
    go (suc n) (x ∷ l) a b = refl

no_bytes : (l : List ℕ) → length l ≡ 0 → l ≡ []
no_bytes [] h = refl
no_bytes (x ∷ l) h = absurd (omega arith)

ended_none : (o : OfficeState) (out : List ℕ) (w : ℕ) → input_done o ≡ o → Ended o out w out w
ended_none o out w e =
    record { more = []; printed = rw e (sym (append-nil o.printed)); out = sym (wrote_none out w); written = omega arith }

module _ (s : Store) (l : List ℕ) (sit : Sitting) (o : OfficeState) (st : Stands s l sit o) (out : List ℕ) where
  pub ended_early : (sit.left ≡ 0) ⊎ ((sit.left ≡ 0 → ⊥) × (sit.size ≡ 0)) → Ended o out sit.written out sit.written
  ended_early h =
      ended_none o out sit.written
      (⊎_elim (λ e. over_stop o (sym st.left ∙ e)) (λ e. over_none o (no_bytes o.held (omega (arith, e.1, st.line.size)))) h)

  pub ended_line : (sit.left ≡ 0 → ⊥) → (sit.size ≡ 0 → ⊥) → (s' : Store) (out' : List ℕ) (e : ℕ)
      → ((h : List ℕ) → LineHeld longest_answer l sit.size h → Served (line_turn (books_of s) h) s' out sit.written out' e) → Ended o out sit.written out' e
  unfolding line_done
  ended_line hl hs s' out' e serves =
      let v : Served (line_turn o.books o.held) s' out sit.written out' e = rw st.books at (serves o.held st.line) in
      let ov = over_some o (omega (arith, st.left)) (omega (arith, st.line.size)) in
      record { more = (line_turn o.books o.held).printed; printed = ap (λ (x : OfficeState). x.printed) ov; out = v.printed.out; written = v.printed.end }

-- ---- chunks add up

pub fed_more : (xs ys : List ℕ) (o : OfficeState) → fed o (xs ++ ys) ≡ fed (fed o xs) ys
unfolding fed
fed_more [] ys o = refl
fed_more (x ∷ xs) ys o = fed_more xs ys (byte o x)

-- once no line is left nothing is read
pub fed_stop : (xs : List ℕ) (o : OfficeState) → o.left ≡ 0 → fed o xs ≡ o
unfolding fed byte
fed_stop [] o h = refl
fed_stop (x ∷ xs) o h = rw (eq-eqb o.left 0 h) (fed_stop xs o h)
