-- Rows answered one after another: each row is written once, no row changes another, and what stands behind the rows is kept. Assumes nothing.
use Prim.Native.Nat.{ℕ, zero, suc, ◌+◌, ◌*◌, ◌<◌, ◌≤◌}
use mathlib.Core.Path.{◌≡◌, refl, sym, ap, ◌∙◌}
use mathlib.Core.List.{List, ◌++◌}
use native.Mathlib.Nat.{suc-mul}
use native.Mathlib.Omega.{arith}
use native.Mathlib.Decide.{ℕ_discrete}
use lib.ListN.{length, take, drop, length-append, length-drop, take-append-drop}
use lib.Seq.{length-take-le, take-append-le, drop-append-le, take_at, drop_at, drop-drop}
use Rattle.tree.proofs.PointsInMemory.{before_next}
use Rattle.nearby_many.specs.Rows.{row, each}

-- ---- one row

-- a row that lies in the front
row_front : (w i : ℕ) (a b : List ℕ) → i * w + w ≤ length a → row w i (a ++ b) ≡ row w i a
row_front w i a b h =
    ap (take w) (drop-append-le (i * w) a b (omega arith))
    ∙ take-append-le w (drop (i * w) a) b (omega (arith, length-drop (i * w) a))

pub row_long : (w i : ℕ) (l : List ℕ) → i * w + w ≤ length l → length (row w i l) ≡ w
row_long w i l h = length-take-le w (drop (i * w) l) (omega (arith, length-drop (i * w) l))

-- `f i` writes row i: it makes `g i` of it, and leaves everything else as it is
pub record OneRow (w : ℕ) (f g : ℕ → List ℕ → List ℕ) : Type 0 where
  pub writes : (i : ℕ) (l : List ℕ) → i * w + w ≤ length l → f i l ≡ take (i * w) l ++ (g i (row w i l) ++ drop (i * w + w) l)
  pub fills : (i : ℕ) (l : List ℕ) → length l ≡ w → length (g i l) ≡ w

pub record Rowed (w : ℕ) (g : ℕ → List ℕ → List ℕ) (n : ℕ) (before after : List ℕ) : Type 0 where
  pub long : length after ≡ length before
  pub rows : (i : ℕ) → i < n → row w i after ≡ g i (row w i before)
  pub behind : drop (n * w) after ≡ drop (n * w) before

-- ---- row after row

module _ (w : ℕ) (f g : ℕ → List ℕ → List ℕ) (o : OneRow w f g) where
  module _ (n : ℕ) (l now : List ℕ) (h : n * w + w ≤ length l) (r : Rowed w g n l now) where
    abbrev Front : List ℕ
    Front = take (n * w) now

    abbrev Put : List ℕ
    Put = g n (row w n now)

    abbrev Back : List ℕ
    Back = drop (n * w + w) now

    room : n * w + w ≤ length now
    room = omega (arith, r.long)

    front_long : length Front ≡ n * w
    front_long = length-take-le (n * w) now (omega (arith, room))

    put_long : length Put ≡ w
    put_long = o.fills n (row w n now) (row_long w n now room)

    from_here : drop (n * w) (f n now) ≡ Put ++ Back
    from_here = ap (drop (n * w)) (o.writes n now room) ∙ drop_at Front (Put ++ Back) (n * w) front_long

    this_row : row w n (f n now) ≡ g n (row w n l)
    this_row = ap (take w) from_here ∙ take_at Put Back w put_long ∙ ap (λ (x : List ℕ). g n (take w x)) r.behind

    rows_before : (i : ℕ) → i < n → row w i (f n now) ≡ g i (row w i l)
    rows_before i j =
        let k : i * w + w ≤ length Front = omega (arith, front_long, before_next w i n j) in
        ap (row w i) (o.writes n now room) ∙ row_front w i Front (Put ++ Back) k
        ∙ sym (row_front w i Front (drop (n * w) now) k) ∙ ap (row w i) (take-append-drop (n * w) now) ∙ r.rows i j

    rest : (x : List ℕ) → drop (suc n * w) x ≡ drop w (drop (n * w) x)
    rest x = ap (λ (k : ℕ). drop k x) (suc-mul n w) ∙ sym (drop-drop w (n * w) x)

    one_more_lem : Rowed w g (suc n) l (f n now)
    one_more_lem =
        record {
          long =
              ap length (o.writes n now room)
              ∙ omega (arith, length-append Front (Put ++ Back), length-append Put Back, front_long, put_long, length-drop (n * w + w) now, room, r.long);
          rows = λ i j. go i j (ℕ_discrete i n);
          behind =
              rest (f n now) ∙ ap (drop w) from_here ∙ drop_at Put Back w put_long ∙ sym (drop-drop w (n * w) now)
              ∙ ap (drop w) r.behind ∙ sym (rest l);
        }
      where
        go : (i : ℕ) → i < suc n → Dec (i ≡ n) → row w i (f n now) ≡ g i (row w i l)
        go i j (yes e) = rw e this_row
        go i j (no ne) = rows_before i (omega arith)

  pub each_rowed : (n : ℕ) (l : List ℕ) → n * w ≤ length l → Rowed w g n l (each f n l)
  unfolding each
  each_rowed zero l h = record { long = refl; rows = λ i j. absurd (omega arith); behind = refl }
  each_rowed (suc n) l h =
      let k : n * w + w ≤ length l = omega (arith, suc-mul n w) in
      one_more_lem n l (each f n l) k (each_rowed n l (omega arith))
