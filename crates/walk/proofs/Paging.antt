-- The page of the root: what a walk from an empty room keeps, and gives. Assumes nothing.
use Prim.Native.Nat.{ℕ, zero, suc, ◌+◌, ◌<◌}
use mathlib.Core.Path.{◌≡◌, refl, ◌∙◌}
use mathlib.Core.List.{List, []}
use native.Mathlib.Omega.{arith}
use lib.IntN.{ℤ}
use lib.ListN.{length, get_or, take, replicate, length-take}
use lib.Seq.{get_or-take}
use Rattle.paper.specs.Limits.{most_page}
use Rattle.paper.specs.Tree.{reference_at}
use Rattle.tree.specs.BuiltNodes.{Holds}
use Rattle.walk_keep.specs.declared.asked.Asked.{Asked}
use Rattle.walk_keep.specs.Page.{first_sorted, ranks}
use Rattle.walk_keep.specs.Kept.{none, ok_by, Holding, Walked, WalkLeft}
use Rattle.walk_keep.proofs.Keeping.{rising_few, all_are_first}
use Rattle.walk.specs.Walking.{dist_by, apart_by, GiveAsk, Gives, PageAsk, AskFilled}

-- a room that has the end everywhere holds no claim
ends_at : (n end i : ℕ) → i < n → get_or (replicate n end) i 0 ≡ end
ends_at zero end i h = absurd (omega arith)
ends_at (suc n) end zero h = refl
ends_at (suc n) end (suc i) h = ends_at n end i (omega arith)

module _ {references : List ℕ} {coordinates : List ℤ} {nodes : List ℕ} {ask : Asked} {room : List ℕ} (h : PageAsk references coordinates nodes ask room) where
  module _ (probe : List ℤ) where
    abbrev Dist : ℕ → ℕ
    Dist = dist_by ask coordinates probe

    empty : Holding ask Dist (replicate (most_page + 1) ask.end) []
    empty =
        record {
          keys = λ i hi. absurd (omega arith);
          ends = λ i _ hi. ends_at (most_page + 1) ask.end i (omega (arith, ask.sought.few));
          near = λ i hi. absurd (omega arith);
          rising = none;
        }

    module _ (kept : List ℕ) (w : Walked ask Dist (Holds nodes (apart_by ask coordinates) 0) (replicate (most_page + 1) ask.end) kept) where
      left : WalkLeft ask Dist (Holds nodes (apart_by ask coordinates) 0) [] kept
      left = w [] empty

      first : left.kept ≡ first_sorted (ranks ask.order Dist) (ok_by ask Dist) ask.sought.snapshot ask.sought.size
      first =
          all_are_first (ranks ask.order Dist) (ok_by ask Dist) ask.sought.snapshot ask.sought.size (Holds nodes (apart_by ask coordinates) 0) left.kept
          ask.stored (λ j hj. h.tree.all j (omega (arith, h.stored))) left.is

      -- the keys looked for are at the front of the room
      front : {dist : ℕ → ℕ} {l : List ℕ} → Holding ask dist kept l → Holding ask dist (take ask.sought.size kept) l
      front {dist} {l} g =
          let few = rising_few (ranks ask.order dist) (ok_by ask dist) ask.sought.snapshot ask.sought.size zero l g.rising in
          record {
            keys = λ i hi. get_or-take ask.sought.size kept i 0 (omega arith) ∙ g.keys i hi;
            ends = λ i hi hs. get_or-take ask.sought.size kept i 0 hs ∙ g.ends i hi hs;
            near = g.near;
            rising = g.rising;
          }

      pub page_filled : (o' : List ℕ) (r : ℕ) → ((dist : ℕ → ℕ) (l : List ℕ) → Holding ask dist (take ask.sought.size kept) l → Gives (reference_at references) dist l room o' r)
          → AskFilled ask references Dist room o' r
      page_filled o' r g = let given = g Dist left.kept (front left.holds) in record { room = rw (← first) given.room; counts = rw (← first) given.counts }

      pub page_gives : length kept ≡ most_page + 1 → GiveAsk ask references (take ask.sought.size kept) room
      page_gives long = record { dist = Dist; claims = left.kept; holds = front left.holds; few = length-take ask.sought.size kept ∙ omega (arith, ask.sought.few); named = omega (arith, h.stored, h.named); long = h.long }
