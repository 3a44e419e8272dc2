-- [10.11] However the input is cut into chunks, and wherever the output room fills: what is handed to the writer, joined, is what the
-- program says to the whole input. Assumes nothing.
use Prim.Native.Nat.{ℕ, ◌+◌, ◌≤◌}
use mathlib.Core.Path.{◌≡◌, refl, sym, ap, ◌∙◌}
use mathlib.Core.List.{List, ◌++◌}
use mathlib.Core.Bool.{Bool, true, false}
use mathlib.Core.Logic.{inl, inr, ⊎_elim}
use native.Mathlib.Nat.{eq-zero-or-pos}
use native.Mathlib.Omega.{arith}
use lib.Dec.{leb}
use lib.ListN.{length, take, drop, drop_of_length-le}
use borrow.Author.Tests.{leb-true, leb-false}
use Rattle.paper.specs.Tree.{Store}
use Rattle.paper.specs.Program.{OfficeState, fed, input_done, office_start, program}
use Rattle.office_cut.proofs.LinesCut.{kept_none}
use Rattle.office_serve.specs.declared.feeding.Sitting.{Sitting}
use Rattle.office_serve.specs.Serving.{out_with, books_of}
use Rattle.office_serve.specs.Feeding.{Stands, Moved, Ended}
use Rattle.office_serve.proofs.Moves.{fed_more, fed_stop}
use Rattle.office_serve.proofs.Written.{wrote_front}
use Rattle.office_session.specs.Sittings.{anew_of, emptied_of}
use Rattle.office_session.specs.Session.{Used, FeedPromise, handed, Session, begun, next, feeds, BetweenReads}
use Rattle.paper.specs.Limits.{longest_answer}

-- what a session means: the memory stands for an office that has said ys, and reads of the chunk's rest what the whole input leads to
pub record Stood (xs ys chunk : List ℕ) (s : Store) (l : List ℕ) (sit : Sitting) : Type 0 where
  pub office : OfficeState
  pub stands : Stands s l sit office
  pub printed : office.printed ≡ ys
  pub same : fed office (drop sit.at chunk) ≡ fed office_start xs
  pub empty : sit.written ≡ 0

-- what a call put into an empty room is its front
front_printed : (b₀ b more : List ℕ) (w v : ℕ) → w ≡ 0 → b ≡ out_with b₀ w more → v ≡ w + length more → v ≤ length b₀ → take v b ≡ more
front_printed b₀ b more w v z e q h =
    let n : v ≡ length more = omega arith in
    rw (e, z, n) (wrote_front b₀ more (omega arith))

-- what is handed to the writer is what the office said
handed_printed : (o : OfficeState) (chunk b₀ : List ℕ) (s : Store) (l b : List ℕ) (sit r : Sitting) → sit.written ≡ 0 → r.written ≤ length b₀
    → (m : Moved o chunk sit b₀ s l r b) → handed r b ≡ m.more
unfolding handed
handed_printed o chunk b₀ s l b sit r z h m = front_printed b₀ b m.more sit.written r.written z m.out m.written h

-- a used chunk leads no further
used_up : {xs ys c : List ℕ} {s : Store} {l : List ℕ} {sit : Sitting} (t : Stood xs ys c s l sit) → Used c sit → t.office ≡ fed office_start xs
unfolding fed
used_up {c = c} {sit = sit} t u =
    ⊎_elim
    (λ h. sym (ap (λ (x : List ℕ). fed t.office x) (drop_of_length-le c {i = sit.at} h)) ∙ t.same)
    (λ z. sym (fed_stop (drop sit.at c) t.office (sym t.stands.left ∙ z)) ∙ t.same)
    u

fed_stood : {xs ys c : List ℕ} {s₀ s : Store} {l₀ l b₀ b : List ℕ} {sit r : Sitting} → Stood xs ys c s₀ l₀ sit → FeedPromise c s₀ l₀ sit b₀ s l r b
    → Stood xs (ys ++ handed r b) c s l (emptied_of r)
fed_stood {ys = ys} {c} {s₀} {s} {l₀} {l} {b₀} {b} {sit} {r} t f =
    let m = f.moved t.office t.stands in
    let printed = handed_printed t.office c b₀ s l b sit r t.empty f.short m in
    record {
      office = m.after;
      stands = record { books = m.stands.books; line = m.stands.line; left = m.stands.left };
      printed = m.printed ∙ ap (λ (x : List ℕ). x ++ m.more) t.printed ∙ ap (λ (x : List ℕ). ys ++ x) (sym printed);
      same = m.same ∙ t.same;
      empty = refl;
    }

next_stood : {xs ys c : List ℕ} {s : Store} {l : List ℕ} {sit : Sitting} (chunk : List ℕ) → Stood xs ys c s l sit → Used c sit
    → Stood (xs ++ chunk) ys chunk s l (anew_of sit)
next_stood {xs = xs} chunk t u =
    record {
      office = t.office;
      stands = record { books = t.stands.books; line = t.stands.line; left = t.stands.left };
      printed = t.printed;
      same = ap (λ (x : OfficeState). fed x chunk) (used_up t u) ∙ sym (fed_more xs chunk office_start);
      empty = refl;
    }

pub stood : {xs ys c : List ℕ} {s : Store} {l : List ℕ} {sit : Sitting} → Session xs ys c s l sit → Stood xs ys c s l sit
unfolding fed office_start books_of
stood (begun rf ps rs l len) =
    record { office = office_start; stands = record { books = refl; line = rw len at (kept_none l); left = refl }; printed = refl; same = refl; empty = refl }
stood (next chunk se u) = next_stood chunk (stood se) u
stood (feeds se f) = fed_stood (stood se) f

-- [10.12] before the next read, all that the office says to what was read is handed to the writer
pub answered_printed : {xs : List ℕ} {s : Store} {l : List ℕ} {sit : Sitting} (a : BetweenReads xs s l sit) → a.within.handed_over ≡ (fed office_start xs).printed
answered_printed a = let t = stood a.within.session in sym t.printed ∙ ap (λ (x : OfficeState). x.printed) (used_up t a.used)

-- [10.11] what is said does not depend on how the input is cut, nor on where the room filled
pub cut_either_way : {xs : List ℕ} {s s' : Store} {l l' : List ℕ} {sit d' : Sitting} (a : BetweenReads xs s l sit) (b : BetweenReads xs s' l' d')
    → a.within.handed_over ≡ b.within.handed_over
cut_either_way a b = answered_printed a ∙ sym (answered_printed b)

-- [10.10] a feed that leaves room for a line has used its chunk
pub feeds_on : {c : List ℕ} {s₀ s : Store} {l₀ l b₀ b : List ℕ} {sit r : Sitting} → FeedPromise c s₀ l₀ sit b₀ s l r b → r.written + longest_answer ≤ length b₀
    → Used c r
feeds_on {c = c} {r = r} f h = go (leb (length c) r.at) refl
  where
    go : (u : Bool) → leb (length c) r.at ≡ u → Used c r
    go true p = inl (leb-true (length c) r.at p)
    go false p =
        let unread = leb-false (length c) r.at p in
        ⊎_elim (λ z. inr z) (λ left. absurd (f.stops (record { unread = unread; left = left; room = h }))) (eq-zero-or-pos r.left)

-- [10.9] [10.11] and at the end of the input it is all that the program says
pub whole : {xs : List ℕ} {s : Store} {l : List ℕ} {sit : Sitting} (a : BetweenReads xs s l sit) (b₀ b : List ℕ) (v : ℕ)
    → ((o : OfficeState) → Stands s l (anew_of sit) o → Ended o b₀ 0 b v) → v ≤ length b₀ → a.within.handed_over ++ take v b ≡ program xs
unfolding program
whole {xs} a b₀ b v f h =
    let t = stood a.within.session in
    let e = f t.office (record { books = t.stands.books; line = t.stands.line; left = t.stands.left }) in
    let last = front_printed b₀ b e.more 0 v refl e.out e.written h in
    ap (λ (x : List ℕ). a.within.handed_over ++ x) last ∙ ap (λ (x : List ℕ). x ++ e.more) (sym t.printed) ∙ sym e.printed
    ∙ ap (λ (x : OfficeState). (input_done x).printed) (used_up t a.used)
