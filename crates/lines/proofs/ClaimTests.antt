-- What the tests of a claim line say, how long its frame is, and the ways through its reader. No contract cites this file. Assumes nothing.
use Prim.Native.Nat.{ℕ, ◌+◌, ◌*◌}
use native.Mathlib.Omega.{arith}
use mathlib.Core.Path.{◌≡◌, sym, ap, ◌∙◌}
use mathlib.Core.Bool.{Bool, true, false}
use mathlib.Core.List.{List, ◌++◌}
use lib.ListN.{length, drop, length-append}
use lib.Dec.{eqb}
use lib.IntN.{ℤ}
use borrow.Author.Tests.{eqb-true}
use Rattle.paper.specs.Outcomes.{refused, gives}
use Rattle.paper.specs.Frames.{be, num, frame_of, is_line}
use Rattle.paper.specs.Points.{in_range, InRange}
use Rattle.paper.proofs.Ranges.{range_is}
use Rattle.paper.specs.Fields.{head, coord_bytes}
use Rattle.paper.specs.Lines.{head_ok, claim_kind, claim_frame, claim_fits, claim_ok, claim_at, read_as_claim}
use Rattle.paper.specs.declared.lines.ClaimLine.{ClaimLine}
use Rattle.std.proofs.lemmas.Bool.{and_parts}
use Rattle.line_digits.proofs.NumbersAndFrames.{Bytes, bytes_append, bytes_be, length_be}
use Rattle.line_fields.specs.Layout.{laid_out}
use Rattle.line_fields.proofs.PartLaws.{HeadOk, is_head, length_head, bytes_head, length_coord_bytes, bytes_coord_bytes}
use Rattle.lines.proofs.WritersReaders.{reads, reads_10}

pub length_claim : (t m d r : ℕ) (cs : List ℤ) → length (claim_frame t m d r cs) ≡ 11 + 4 * length cs
unfolding claim_frame
length_claim t m d r cs = simp (length-append, length_head, length_be, length_coord_bytes) (omega arith)

pub bytes_claim : (t m d r : ℕ) (cs : List ℤ) → Bytes (claim_frame t m d r cs)
unfolding claim_frame
bytes_claim t m d r cs =
    bytes_append (head 3 t m d) (be 4 r ++ coord_bytes cs) (bytes_head 3 t m d)
    (bytes_append (be 4 r) (coord_bytes cs) (bytes_be 4 r) (bytes_coord_bytes cs))

-- what the writer's test says
pub record ClaimFits (m d : ℕ) (cs : List ℤ) : Type 0 where
  pub test : in_range m d ≡ true
  pub range : InRange m d
  pub count : length cs ≡ d

pub claim_fits_lem : (m d : ℕ) (cs : List ℤ) → claim_fits m d cs ≡ true → ClaimFits m d cs
unfolding claim_fits
claim_fits_lem m d cs e =
    let a = and_parts (in_range m d) (eqb (length cs) d) e in
    record { test = a.0; range = range_is m d a.0; count = eqb-true (length cs) d a.1 }

-- what the reader's test says
pub record ClaimOk (f : List ℕ) : Type 0 where
  pub headed : HeadOk 3 f
  pub size : length f ≡ 11 + 4 * num 1 (drop 6 f)

pub is_claim : (f : List ℕ) → claim_ok f ≡ true → ClaimOk f
unfolding claim_ok
is_claim f e =
    let p = and_parts (head_ok 3 f) (eqb (length f) (11 + 4 * num 1 (drop 6 f))) e in
    record { headed = is_head 3 f p.0; size = eqb-true (length f) (11 + 4 * num 1 (drop 6 f)) p.1 }

-- the ways through the reader of a sound line: a claim is tested by its layout alone
module _ (l : List ℕ) (s : is_line l ≡ true) (b : Bool) (be : b ≡ laid_out claim_kind 11 (frame_of l)) where
  layout : claim_ok (frame_of l) ≡ b
  unfolding claim_ok laid_out
  layout = sym be

  pub unlaid_claim : b ≡ false → refused 10 ≡ read_as_claim l
  unfolding read_as_claim
  unlaid_claim h = sym (reads_10 claim_ok claim_at l s (layout ∙ h))

  pub claim_read_lem : b ≡ true → (c : ClaimLine) → c ≡ claim_at (frame_of l) → gives c ≡ read_as_claim l
  unfolding read_as_claim
  claim_read_lem h c e = ap (λ (x : ClaimLine). gives x) e ∙ sym (reads claim_ok claim_at l s (layout ∙ h))
