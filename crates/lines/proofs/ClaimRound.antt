-- [5.13] The claim line there and back: what a writer accepts is read back, and whatever a reader accepts is the line that the writer
-- writes for the fields read. Assumes nothing.
use Prim.Native.Nat.{ℕ, ◌+◌, ◌-◌, ◌*◌, ◌^◌, ◌<◌}
use native.Mathlib.Omega.{arith}
use mathlib.Core.Path.{◌≡◌, refl, sym, ap, subst, ◌∙◌}
use mathlib.Core.Bool.{true}
use mathlib.Core.List.{List, [], ◌++◌, append-nil}
use lib.ListN.{length, drop, take, length-drop, drop_of_length-le}
use lib.IntN.{ℤ}
use borrow.Author.Tests.{eq-eqb}
use Rattle.paper.specs.Outcomes.{gives}
use Rattle.paper.specs.Frames.{be, num, line_of, frame_of, is_line}
use Rattle.paper.specs.Fields.{head, coord_bytes, coords_in, in_slots}
use Rattle.paper.specs.Lines.{claim_frame, claim_fits, claim_ok, claim_at, read_as_claim}
use Rattle.paper.specs.declared.lines.ClaimLine.{ClaimLine}
use Rattle.line_digits.proofs.NumbersAndFrames.{Bytes, bytes_drop, field_read, field_back}
use Rattle.line_digits.proofs.LinesAndFrames.{bytes_frame, frame_line, sound_line, line_of_sound}
use Rattle.line_fields.proofs.PartLaws.{length_coords_in, head_rule}
use Rattle.line_fields.proofs.Round.{Signed32, Heads, head_read, head_back, coords_read, coords_back, take_slots}
use Rattle.lines.proofs.WritersReaders.{reads, accepted, holds}
use Rattle.lines.proofs.ClaimTests.{length_claim, bytes_claim, claim_fits_lem, is_claim}

-- ---- what is written is read

module _ (t m d r : ℕ) (cs : List ℤ) (fit : claim_fits m d cs ≡ true) (ht : t < 2 ^ 32) (hr : r < 2 ^ 32) (hc : Signed32 cs) where
  begins : Heads (claim_frame t m d r cs) 3 t m d (be 4 r ++ coord_bytes cs)
  unfolding claim_frame
  begins =
      let q = claim_fits_lem m d cs fit in
      head_read (head 3 t m d ++ (be 4 r ++ coord_bytes cs)) 3 t m d (be 4 r ++ coord_bytes cs) refl (omega arith) ht (omega arith) (omega arith)

  reference : (num 4 (drop 7 (claim_frame t m d r cs)) ≡ r) × (drop 11 (claim_frame t m d r cs) ≡ coord_bytes cs)
  reference = field_read (claim_frame t m d r cs) 7 4 r (coord_bytes cs) begins.rest hr

  frame_ok : claim_ok (claim_frame t m d r cs) ≡ true
  unfolding claim_ok
  frame_ok =
      let q = claim_fits_lem m d cs fit in
      rw (head_rule 3 m d (claim_frame t m d r cs) begins.kind begins.measure begins.dim q.test, begins.dim, length_claim t m d r cs, q.count)
      (eq-eqb (11 + 4 * d) (11 + 4 * d) refl)

  frame_at : claim_at (claim_frame t m d r cs) ≡ record { table = t; measure = m; d = d; reference = r; coordinates = in_slots d cs }
  unfolding claim_at
  frame_at =
      let q = claim_fits_lem m d cs fit in
      let e : coords_in d (coord_bytes cs) ≡ cs = rw (← q.count) (ap (coords_in (length cs)) (sym (append-nil (coord_bytes cs))) ∙ coords_read cs [] hc) in
      rw (begins.table, begins.measure, begins.dim, reference.0, reference.1, e)

  pub claim_reads_back : read_as_claim (line_of (claim_frame t m d r cs)) ≡ gives (record { table = t; measure = m; d = d; reference = r; coordinates = in_slots d cs })
  unfolding read_as_claim
  claim_reads_back =
      let q = claim_fits_lem m d cs fit in
      let f = claim_frame t m d r cs in
      let l = length_claim t m d r cs in
      let b = frame_line f (bytes_claim t m d r cs) in
      reads claim_ok claim_at (line_of f) (sound_line f (bytes_claim t m d r cs) (omega arith) (omega arith)) (rw b frame_ok)
      ∙ rw (b, frame_at)

-- ---- what is read was written

frame_back : (f : List ℕ) → Bytes f → claim_ok f ≡ true
    → claim_frame (num 4 (drop 1 f)) (num 1 (drop 5 f)) (num 1 (drop 6 f)) (num 4 (drop 7 f)) (coords_in (num 1 (drop 6 f)) (drop 11 f)) ≡ f
unfolding claim_frame
frame_back f p e =
    let q = is_claim f e in
    let d = num 1 (drop 6 f) in
    let l : length (drop 11 f) ≡ length f - 11 = length-drop 11 f in
    let n : drop (4 * d) (drop 11 f) ≡ [] = drop_of_length-le (drop 11 f) {i = 4 * d} (omega arith) in
    let c : coord_bytes (coords_in d (drop 11 f)) ≡ drop 11 f =
    sym (append-nil (coord_bytes (coords_in d (drop 11 f)))) ∙ ap (λ (g : List ℕ). coord_bytes (coords_in d (drop 11 f)) ++ g) (sym n) ∙ coords_back d (drop 11 f) (bytes_drop 11 f p) (omega arith) in
    rw (c, field_back f 7 4 p (omega arith), ← q.headed.kind) (head_back f p (omega arith))

fits_back : (f : List ℕ) → claim_ok f ≡ true → claim_fits (num 1 (drop 5 f)) (num 1 (drop 6 f)) (coords_in (num 1 (drop 6 f)) (drop 11 f)) ≡ true
unfolding claim_fits
fits_back f e = rw (is_claim f e).headed.test (eq-eqb _ _ (length_coords_in (num 1 (drop 6 f)) (drop 11 f)))

-- the fields of a claim that was read, as a writer takes them
pub record ClaimBack (l : List ℕ) (c : ClaimLine) : Type 0 where
  pub fits : claim_fits c.measure c.d (take c.d c.coordinates) ≡ true
  pub line : line_of (claim_frame c.table c.measure c.d c.reference (take c.d c.coordinates)) ≡ l

claim_back : (l : List ℕ) → is_line l ≡ true → claim_ok (frame_of l) ≡ true → ClaimBack l (claim_at (frame_of l))
unfolding claim_at
claim_back l s e =
    let f = frame_of l in
    let q = take_slots (num 1 (drop 6 f)) (drop 11 f) in
    record { fits = rw q (fits_back f e); line = rw q (ap line_of (frame_back f (bytes_frame l) e) ∙ line_of_sound l s) }

pub claim_writes_back : (l : List ℕ) (x : ClaimLine) → read_as_claim l ≡ gives x → ClaimBack l x
unfolding read_as_claim
claim_writes_back l x e =
    let p = accepted claim_ok claim_at l x e in
    subst (ClaimBack l) (sym (holds claim_ok claim_at l x e).1) (claim_back l p.0 p.1)
