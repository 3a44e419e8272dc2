-- There and back, for what the kinds of line have in common: the head, coordinates, the scope, and what asks and answers begin with.
-- Assumes nothing.
use Prim.Native.Nat.{ℕ, zero, suc, ◌+◌, ◌-◌, ◌*◌, ◌^◌, ◌≤◌, ◌<◌}
use native.Mathlib.Omega.{arith}
use mathlib.Core.Path.{◌≡◌, refl, sym, ap, ◌∙◌}
use mathlib.Core.List.{List, [], ◌∷◌, ◌++◌, append_assoc}
use lib.ListN.{length, drop, take, replicate, length-drop}
use lib.Seq.{take_all, take_at, drop_at, drop-drop}
use lib.IntN.{ℤ, pos}
use mir.Syntax.{w32}
use mir.Val.{of_z, SFits}
use mir.Facts.{to_z-of_z, of_z-to_z, Fits-of_z}
use Rattle.paper.specs.Frames.{be, num}
use Rattle.line_digits.proofs.NumbersAndFrames.{Bytes, bytes_drop, length_be, num_be, be_num, num_lt, field_read, field_back}
use Rattle.paper.specs.Orders.{Query, query_in}
use Rattle.paper.specs.Fields.{head, front, coord_bytes, coords_in, in_slots, query_in_slots, scope_bytes, scope_in}
use Rattle.paper.specs.declared.lines.Scope.{Scope}
use Rattle.paper.specs.declared.orders.Order.{Order}
use Rattle.paper.specs.Lines.{behind, query_at}
use Rattle.line_fields.proofs.PartLaws.{length_coords_in, length_coord_bytes}

-- ---- the head, and coordinates

-- what a frame that begins with a head says
pub record Heads (f : List ℕ) (k t m d : ℕ) (g : List ℕ) : Type 0 where
  pub kind : num 1 f ≡ k
  pub table : num 4 (drop 1 f) ≡ t
  pub measure : num 1 (drop 5 f) ≡ m
  pub dim : num 1 (drop 6 f) ≡ d
  pub rest : drop 7 f ≡ g

pub head_read : (f : List ℕ) (k t m d : ℕ) (g : List ℕ) → f ≡ head k t m d ++ g → k < 256 → t < 2 ^ 32 → m < 256 → d < 256 → Heads f k t m d g
unfolding head
head_read f k t m d g e hk ht hm hd =
    let s : f ≡ be 1 k ++ (be 4 t ++ (be 1 m ++ (be 1 d ++ g))) = e ∙ simp append_assoc in
    let p1 = field_read f 0 1 k (be 4 t ++ (be 1 m ++ (be 1 d ++ g))) s hk in
    let p2 = field_read f 1 4 t (be 1 m ++ (be 1 d ++ g)) p1.1 ht in
    let p3 = field_read f 5 1 m (be 1 d ++ g) p2.1 hm in
    let p4 = field_read f 6 1 d g p3.1 hd in
    record { kind = p1.0; table = p2.0; measure = p3.0; dim = p4.0; rest = p4.1 }

pub head_back : (f : List ℕ) → Bytes f → 7 ≤ length f → head (num 1 f) (num 4 (drop 1 f)) (num 1 (drop 5 f)) (num 1 (drop 6 f)) ++ drop 7 f ≡ f
unfolding head
head_back f p h =
    simp append_assoc
    (rw (field_back f 6 1 p (omega arith), field_back f 5 1 p (omega arith), field_back f 1 4 p (omega arith)) (field_back f 0 1 p (omega arith)))

-- a field that ends its frame
pub last_field : (f : List ℕ) (w : ℕ) → Bytes f → length f ≡ w → be w (num w f) ≡ f
last_field f w p e = be_num w f p (omega arith) ∙ take_all w f (omega arith)

-- every coordinate is a number of 32 bits
abbrev pub Signed32 : List ℤ → Type 0
Signed32 [] = Unit {0}
Signed32 (z ∷ zs) = SFits w32 z × Signed32 zs

pub coords_read : (cs : List ℤ) (g : List ℕ) → Signed32 cs → coords_in (length cs) (coord_bytes cs ++ g) ≡ cs
unfolding coords_in coord_bytes
coords_read [] g p = refl
coords_read (z ∷ cs) g p =
    rw (append_assoc (be 4 (of_z w32 z)) (coord_bytes cs) g, num_be 4 (of_z w32 z) (coord_bytes cs ++ g) (Fits-of_z p.0).fits, to_z-of_z {w = w32} p.0, drop_at (be 4 (of_z w32 z)) (coord_bytes cs ++ g) 4 (length_be 4 (of_z w32 z)), coords_read cs g p.1)

pub coords_back : (d : ℕ) (f : List ℕ) → Bytes f → 4 * d ≤ length f → coord_bytes (coords_in d f) ++ drop (4 * d) f ≡ f
unfolding coords_in coord_bytes
coords_back zero f p h = refl
coords_back (suc d) f p h =
    let e : 4 * suc d ≡ 4 + 4 * d = omega arith in
    let k : 4 * d ≤ length (drop 4 f) = simp length-drop (omega arith) in
    rw (append_assoc, of_z-to_z {w = w32} {n = num 4 f} (record { fits = num_lt 4 f p }), e, ← drop-drop (4 * d) 4 f, coords_back d (drop 4 f) (bytes_drop 4 f p) k)
    (field_back f 0 4 p (omega arith))

-- the slots in use
pub take_slots : (d : ℕ) (f : List ℕ) → take d (in_slots d (coords_in d f)) ≡ coords_in d f
unfolding in_slots
take_slots d f = take_at (coords_in d f) (replicate (8 - d) (pos 0)) d (length_coords_in d f)

-- ---- the scope, behind the reach

pub record ScopeFit (p : Scope) : Type 0 where
  pub from : p.from < 2 ^ 8
  pub snapshot : p.snapshot < 2 ^ 16
  pub distance : p.distance < 2 ^ 64
  pub number : p.number < 2 ^ 16

-- what a frame that begins with a reach and a scope says
pub record Scoped (f : List ℕ) (x : ℕ) (p : Scope) (g : List ℕ) : Type 0 where
  pub reach : num 8 f ≡ x
  pub scope : scope_in f ≡ p
  pub rest : drop 21 f ≡ g

pub scope_read : (reach : ℕ) (p : Scope) (g : List ℕ) → reach < 2 ^ 64 → ScopeFit p → Scoped (scope_bytes reach p ++ g) reach p g
unfolding scope_bytes scope_in
scope_read reach p g hr h =
    let a = be 8 reach in
    let b = be 1 p.from in
    let c = be 2 p.snapshot in
    let d = be 8 p.distance in
    let e = be 2 p.number in
    let f = (a ++ (b ++ (c ++ (d ++ e)))) ++ g in
    let s : f ≡ a ++ (b ++ (c ++ (d ++ (e ++ g)))) = simp append_assoc in
    let p1 = field_read f 0 8 reach (b ++ (c ++ (d ++ (e ++ g)))) s hr in
    let p2 = field_read f 8 1 p.from (c ++ (d ++ (e ++ g))) p1.1 h.from in
    let p3 = field_read f 9 2 p.snapshot (d ++ (e ++ g)) p2.1 h.snapshot in
    let p4 = field_read f 11 8 p.distance (e ++ g) p3.1 h.distance in
    let p5 = field_read f 19 2 p.number g p4.1 h.number in
    record { reach = p1.0; scope = rw (p2.0, p3.0, p4.0, p5.0); rest = p5.1 }

pub scope_back : (f : List ℕ) → Bytes f → 21 ≤ length f → scope_bytes (num 8 f) (scope_in f) ++ drop 21 f ≡ f
unfolding scope_bytes scope_in
scope_back f p h =
    simp append_assoc
    (rw (field_back f 19 2 p (omega arith), field_back f 11 8 p (omega arith), field_back f 9 2 p (omega arith), field_back f 8 1 p (omega arith))
    (field_back f 0 8 p (omega arith)))

-- ---- what an ask and an answer begin with

-- a query whose fields have the bits that a line gives them
pub record QueryFit (q : Query) : Type 0 where
  pub table : q.table < 2 ^ 32
  pub measure : q.measure < 256
  pub dim : q.d < 256
  pub long : length q.probe ≡ q.d
  pub probe : Signed32 q.probe
  pub reach : q.reach < 2 ^ 64

-- what a frame that begins so says
pub record Fronts (f : List ℕ) (k : ℕ) (q : Query) (p : Scope) (g : List ℕ) : Type 0 where
  pub kind : num 1 f ≡ k
  pub measure : num 1 (drop 5 f) ≡ q.measure
  pub dim : num 1 (drop 6 f) ≡ q.d
  pub query : query_at q.order f ≡ query_in_slots q
  pub scope : scope_in (behind f) ≡ p
  pub rest : drop 21 (behind f) ≡ g

pub front_read : (f : List ℕ) (k : ℕ) (q : Query) (p : Scope) (g : List ℕ) → f ≡ front k q p ++ g
    → k < 256 → QueryFit q → ScopeFit p → Fronts f k q p g
unfolding front behind query_at query_in_slots
front_read f k q p g e hk hq hp =
    let cs = q.probe in
    let tail = scope_bytes q.reach p ++ g in
    let s : f ≡ head k q.table q.measure q.d ++ (coord_bytes cs ++ tail) = e ∙ simp append_assoc in
    let h = head_read f k q.table q.measure q.d (coord_bytes cs ++ tail) s hk hq.table hq.measure hq.dim in
    let b : drop (7 + 4 * num 1 (drop 6 f)) f ≡ tail =
    rw h.dim
    (sym (drop-drop (4 * q.d) 7 f) ∙ ap (drop (4 * q.d)) h.rest
    ∙ drop_at (coord_bytes cs) tail (4 * q.d) (length_coord_bytes cs ∙ ap (λ (k : ℕ). 4 * k) hq.long)) in
    let r = scope_read q.reach p g hq.reach hp in
    let c : coords_in q.d (drop 7 f) ≡ cs = rw (h.rest, ← hq.long) (coords_read cs tail hq.probe) in
    record {
      kind = h.kind;
      measure = h.measure;
      dim = h.dim;
      query = rw (h.table, h.measure, b, h.dim, c, r.reach);
      scope = rw b r.scope;
      rest = rw b r.rest;
    }

pub behind_eq : (f : List ℕ) → behind f ≡ drop (7 + 4 * num 1 (drop 6 f)) f
unfolding behind
behind_eq f = refl

pub front_back : (o : Order) (f : List ℕ) → Bytes f → 28 + 4 * num 1 (drop 6 f) ≤ length f → front (num 1 f) (query_in (query_at o f)) (scope_in (behind f)) ++ drop 21 (behind f) ≡ f
unfolding front query_at
front_back o f p h =
    let d = num 1 (drop 6 f) in
    let b : behind f ≡ drop (4 * d) (drop 7 f) = behind_eq f ∙ sym (drop-drop (4 * d) 7 f) in
    let l7 : length (drop 7 f) ≡ length f - 7 = length-drop 7 f in
    let lb : length (drop (4 * d) (drop 7 f)) ≡ length (drop 7 f) - 4 * d = length-drop (4 * d) (drop 7 f) in
    rw (take_slots d (drop 7 f))
    (simp append_assoc
    (rw (b, scope_back (drop (4 * d) (drop 7 f)) (bytes_drop (4 * d) (drop 7 f) (bytes_drop 7 f p)) (omega arith), coords_back d (drop 7 f) (bytes_drop 7 f p) (omega arith))
    (head_back f p (omega arith))))
