-- One line served: what it holds by what reading it gave, a frame as a claim or an ask, a line by its frame, and the line that was cut. Assumes nothing.
use Prim.Native.Nat.{ℕ, ◌≤◌, ◌<◌}
use mathlib.Core.Path.{◌≡◌, refl}
use mathlib.Core.Bool.{Bool, true, false, ◌&&◌}
use mathlib.Core.List.{List}
use native.Mathlib.Omega.{arith}
use lib.Dec.{leb}
use lib.ListN.{length, take}
use borrow.Author.Tests.{lt-leb}
use Rattle.paper.specs.declared.lines.Ask as lines-Ask
use Rattle.paper.specs.declared.lines.ClaimLine.{ClaimLine}
use Rattle.paper.specs.Points.{InRange}
use Rattle.paper.specs.Tree.{Store}
use Rattle.paper.specs.Outcomes.{Outcome, refused, gives}
use Rattle.paper.specs.Frames.{frame_of, is_line}
use Rattle.paper.specs.Lines.{is_ask, ask_at, read_as_ask, claim_ok, claim_at, read_as_claim}
use Rattle.paper.specs.Codec.{ask_meant}
use Rattle.paper.specs.Program.{Books, table_for, claim_entering, reply, refusal, turn, claim_turn, ask_turn, frame_turn, line_turn}
use Rattle.lines.proofs.WritersReaders.{holds, holds_none}
use Rattle.lines.proofs.ClaimTests.{is_claim}
use Rattle.office_serve.specs.Serving.{Put, books_of, Ready, Served, ServedCut}
use Rattle.paper.specs.Limits.{longest_answer}

-- ---- what a line holds, by what reading it gave

module _ (line : List ℕ) where
  claim_held : (c : ClaimLine) → read_as_claim line ≡ gives c → (claim_ok (frame_of line) ≡ true) × (c ≡ claim_at (frame_of line))
  unfolding read_as_claim
  claim_held c e = holds claim_ok claim_at line c e

  no_claim_held : is_line line ≡ true → (n : ℕ) → read_as_claim line ≡ refused n → claim_ok (frame_of line) ≡ false
  unfolding read_as_claim
  no_claim_held s n e = holds_none claim_ok claim_at line s n e

  pub claim_range : (c : ClaimLine) → read_as_claim line ≡ gives c → InRange c.measure c.d
  unfolding claim_at
  claim_range c e = let p = claim_held c e in rw p.1 (is_claim (frame_of line) p.0).headed.range

  ask_held : (a : lines-Ask.Ask) → read_as_ask line ≡ gives a → (is_ask (frame_of line) ≡ true) × (a ≡ ask_at (frame_of line))
  unfolding read_as_ask
  ask_held a e = holds is_ask ask_at line a e

  no_ask_held : is_line line ≡ true → (n : ℕ) → read_as_ask line ≡ refused n → is_ask (frame_of line) ≡ false
  unfolding read_as_ask
  no_ask_held s n e = holds_none is_ask ask_at line s n e

-- ---- a frame, and a line

ask_books : (b : Books) (o : Outcome (List ℕ)) → b ≡ (ask_turn b o).books
unfolding ask_turn
ask_books b (refused n) = refl
ask_books b (gives line) = refl

-- a refusal leaves the memory as it was
refused_turn : (s : Store) (n : ℕ) (out : List ℕ) (at : ℕ) (l : List ℕ) (e : ℕ) → Ready s → Put (refusal n) out at l e
    → Served (turn (books_of s) (refusal n)) s out at l e
refused_turn s n out at l e r p = record { books = refl; ready = r; printed = p }

module _ (s : Store) (f : List ℕ) (out : List ℕ) (at : ℕ) (l : List ℕ) (e : ℕ) where
  frame_claim : (x : Store) (c : ClaimLine) → claim_ok f ≡ true → c ≡ claim_at f
      → Served (claim_turn (books_of s) (claim_entering (table_for (books_of s) c) c)) x out at l e → Served (frame_turn (books_of s) f) x out at l e
  unfolding frame_turn
  frame_claim x c q is v = rw q (rw is at v)

  frame_ask : (a : lines-Ask.Ask) → Ready s → claim_ok f ≡ false → is_ask f ≡ true → a ≡ ask_at f
      → Put (ask_turn (books_of s) (reply (books_of s) (ask_meant a))).printed out at l e → Served (frame_turn (books_of s) f) s out at l e
  unfolding frame_turn
  frame_ask a r p q is v =
      rw (p, q) (record { books = ask_books (books_of s) (reply (books_of s) (ask_meant (ask_at f))); ready = r; printed = rw is at v })

  frame_none : Ready s → claim_ok f ≡ false → is_ask f ≡ false → Put (refusal 10) out at l e → Served (frame_turn (books_of s) f) s out at l e
  unfolding frame_turn
  frame_none r p q v = rw (p, q) (refused_turn s 10 out at l e r v)

module _ (s : Store) (line : List ℕ) (out : List ℕ) (at : ℕ) (l : List ℕ) (e : ℕ) where
  pub line_9 : Ready s → is_line line ≡ false → Put (refusal 9) out at l e → Served (line_turn (books_of s) line) s out at l e
  unfolding line_turn
  line_9 r q p = rw q (refused_turn s 9 out at l e r p)

  -- a sound line's turn is its frame's
  module _ (sure : is_line line ≡ true) where
    by_frame : (x : Store) → Served (frame_turn (books_of s) (frame_of line)) x out at l e → Served (line_turn (books_of s) line) x out at l e
    unfolding line_turn
    by_frame x v = rw sure v

    pub line_claim : (c : ClaimLine) → read_as_claim line ≡ gives c → (x : Store)
        → Served (claim_turn (books_of s) (claim_entering (table_for (books_of s) c) c)) x out at l e
        → Served (line_turn (books_of s) line) x out at l e
    line_claim c ce x v = let p = claim_held line c ce in by_frame x (frame_claim s (frame_of line) out at l e x c p.0 p.1 v)

    module _ (k : ℕ) (no : read_as_claim line ≡ refused k) (r : Ready s) where
      pub line_ask : (a : lines-Ask.Ask) → read_as_ask line ≡ gives a → Put (ask_turn (books_of s) (reply (books_of s) (ask_meant a))).printed out at l e
          → Served (line_turn (books_of s) line) s out at l e
      line_ask a ae v =
          let p = ask_held line a ae in
          by_frame s (frame_ask s (frame_of line) out at l e a r (no_claim_held line sure k no) p.0 p.1 v)

      pub line_none : (n : ℕ) → read_as_ask line ≡ refused n → Put (refusal 10) out at l e → Served (line_turn (books_of s) line) s out at l e
      line_none n ae v = by_frame s (frame_none s (frame_of line) out at l e r (no_claim_held line sure k no) (no_ask_held line sure n ae) v)

-- ---- the line that was cut

sound_long : (h : List ℕ) → longest_answer < length h → is_line h ≡ false
unfolding is_line
sound_long h o = rw (lt-leb (length h) longest_answer o) (go (leb 2 (length h)))
  where
    go : (b : Bool) → (b && false) ≡ false
    go true = refl
    go false = refl

module _ (s : Store) (room : List ℕ) (size : ℕ) (long : length room ≡ longest_answer) (out : List ℕ) (at : ℕ) (l : List ℕ) (e : ℕ) where
  pub cut_long : Ready s → length room < size → Put (refusal 9) out at l e → ServedCut room size (books_of s) s out at l e
  cut_long r o p =
      record { served = λ h k. line_9 s h out at l e r (sound_long h (omega (arith, k.size))) p; ready = r; short = p.short }

  pub cut_line : (x : Store) (m : ℕ) → size ≤ length room → m ≡ size → Served (line_turn (books_of s) (take m room)) x out at l e
      → ServedCut room size (books_of s) x out at l e
  cut_line x m o q v =
      record { served = λ h k. rw (q, k.front (omega arith)) at v; ready = v.ready; short = v.printed.short }
