-- Laws of the program's loops. Assumes nothing.
use Prim.Native.Nat.{ℕ, ◌≤◌}
use mathlib.Core.Path.{◌≡◌, refl, ap}
use mathlib.Core.List.{List, [], ◌++◌}
use mathlib.Core.Logic.{inl}
use native.Mathlib.Omega.{arith}
use lib.ListN.{length, take, length-take}
use Rattle.paper.specs.Limits.{longest_answer, office_claims, office_coordinates, office_nodes}
use Rattle.paper.specs.Program.{OfficeState, program}
use Rattle.paper.specs.Tree.{store, built}
use Rattle.tree.specs.BuiltNodes.{IsBuilt}
use Rattle.office_serve.specs.declared.feeding.Sitting.{Sitting}
use Rattle.office_serve.specs.Serving.{Ready}
use Rattle.office_serve.specs.Feeding.{Stands, Ended}
use Rattle.office_session.specs.Sittings.{anew_of, emptied_of, sitting_start}
use Rattle.office_session.specs.Session.{FeedPromise, handed, begun, next, feeds, InChunk, RanWhole}
use Rattle.office_session.proofs.WholeInput.{whole}
use Rattle.office_stream.specs.Memory.{store_in, IsReady, HasAnswered}
use Rattle.office_stream.specs.declared.Program.{Program}

-- ---- a chunk

-- what holds at each turn of `pump`, which began at p₀
pub record Pumping (chunk : List ℕ) (p₀ p : Program) : Type 0 where
  pub within : (xs : List ℕ) → HasAnswered xs p₀ → InChunk (xs ++ chunk) chunk (store_in p) p.line p.sitting
  pub ready : IsReady p
  pub written : p.sitting.written ≡ 0

pub pumping_start : (chunk : List ℕ) (p : Program) (n : Sitting) → n ≡ anew_of p.sitting → IsReady p → Pumping chunk p (record p { sitting = n })
pumping_start chunk p n e r =
    rw e
    (record {
      within = λ xs a. record { handed_over = a.within.handed_over; session = next chunk a.within.session a.used };
      ready = r;
      written = refl;
    })

-- the chunk is fed, to q, and what was said is handed over
pub pumping_more : (chunk : List ℕ) (p₀ p q : Program) (n : Sitting) → Pumping chunk p₀ p
    → FeedPromise chunk (store_in p) p.line p.sitting p.out (store_in q) q.line q.sitting q.out → IsReady q → n ≡ emptied_of q.sitting
    → Pumping chunk p₀ (record q { sitting = n })
pumping_more chunk p₀ p q n v f ready e =
    rw e
    (record {
      within = λ xs a. let x = v.within xs a in record { handed_over = x.handed_over ++ handed q.sitting q.out; session = feeds x.session f };
      ready = ready;
      written = refl;
    })

-- ---- the whole input

-- what holds at each turn of `run`
pub record Running (p : Program) : Type 0 where
  pub ready : IsReady p
  pub read : List ℕ
  pub answered : HasAnswered read p

-- an empty table is sound, whatever its memory holds
pub running_start : (p : Program) → p.sitting ≡ sitting_start → length p.references ≡ office_claims → length p.coordinates ≡ office_coordinates
    → length p.nodes ≡ office_nodes → length p.line ≡ longest_answer → Running p
unfolding IsBuilt built
running_start p e claims coordinates nodes long =
    record {
      ready = record { ready = rw e empty; line = long };
      read = [];
      answered = record {
        chunk = [];
        within = record { handed_over = []; session = rw e (begun p.references p.coordinates p.nodes p.line long) };
        used = inl (omega arith);
      };
    }
  where
    empty : Ready (store sitting_start.table p.references p.coordinates p.nodes)
    empty =
        record {
          good = record {
            fit = record {
              range = record { first = omega arith; last = omega arith; wide = omega arith; narrow = omega arith };
              some = omega arith;
              references = omega arith;
              lent = record { narrow = omega arith; most = omega arith; coordinates = omega arith; nodes = omega arith };
            };
            count = omega arith;
            built = refl;
          };
          capacity = refl;
          wide = omega arith;
        }

pub running_more : (p q : Program) (bytes : List ℕ) → Running p → IsReady q → ((xs : List ℕ) → HasAnswered xs p → HasAnswered (xs ++ bytes) q) → Running q
running_more p q bytes v ready f = record { ready = ready; read = v.read ++ bytes; answered = f v.read v.answered }

pub ran : (p : Program) → Running p → (last : ℕ) (b : List ℕ) → ((xs : List ℕ) (a : HasAnswered xs p) → a.within.handed_over ++ take last b ≡ program xs) → RanWhole b
ran p v last b f =
    record { read = v.read; store = store_in p; line = p.line; sitting = p.sitting; answered = v.answered; last = last; program_is = f v.read v.answered }

-- the input is over: `finish` wrote w bytes of the room, and `hand_over` gave them back
pub ended_says : (p : Program) (b printed : List ℕ) (n : Sitting) (w : ℕ) → n ≡ anew_of p.sitting
    → ((o : OfficeState) → Stands (store n.table p.references p.coordinates p.nodes) p.line n o → Ended o p.out n.written b w) → w ≤ length p.out → length b ≡ length p.out → printed ≡ take w b
    → (xs : List ℕ) (a : HasAnswered xs p) → a.within.handed_over ++ take (length printed) b ≡ program xs
ended_says p b printed n w e f h k q xs a =
    let g : (o : OfficeState) → Stands (store_in p) p.line (anew_of p.sitting) o → Ended o p.out 0 b w = rw e at f in
    let z : length printed ≡ w = omega (arith, simp length-take at (ap length q)) in
    rw z (whole a p.out b w g h)
