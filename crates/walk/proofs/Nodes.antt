-- What a node holds, walked: its two claims and what is below its two sides. In the words of what the code reads. Assumes nothing.
use Prim.Native.Nat.{ℕ, zero, suc, ◌+◌, ◌-◌, ◌*◌, ◌<◌, ◌≤◌}
use mathlib.Core.Path.{◌≡◌, refl, sym, ◌∙◌}
use mathlib.Core.Logic.{◌⊎◌, inl, inr, ⊎_elim}
use mathlib.Core.List.{List}
use native.Mathlib.Omega.{arith}
use lib.Dec.{lit<}
use lib.IntN.{ℤ}
use lib.ListN.{length}
use Rattle.std.specs.Prelude.{Option, Some, None}
use Rattle.paper.specs.Tree.{field_at, side_claim}
use Rattle.tree.specs.BuiltNodes.{Linked, Under, here, deeper, Holds, Searchable}
use Rattle.walk_keep.specs.declared.asked.Asked.{Asked}
use Rattle.walk_keep.specs.Numbers.{top, half_at}
use Rattle.walk_keep.specs.Kept.{Walked}
use Rattle.walk_keep.proofs.Walks.{walked_then, walked_fewer}
use Rattle.walk.specs.Walking.{dist_by, apart_by, On, Below, InOrBelow, way_down, Ranked, NodeAsk, WayAsk, SideAsk}
use Rattle.walk.proofs.Metrics.{metric}
use Rattle.walk.proofs.Sides.{way_leads, Least, least_any, least_half, side_went}

-- ---- what a node holds

module _ (nodes : List ℕ) (e : ℕ → ℕ → ℕ) (m : ℕ) where
  parts : (s j : ℕ) → Under nodes e m s j → (field_at nodes m s ≡ j + 1) ⊎ Below nodes e m s (side_claim nodes m s) j
  parts s j (here q) = inl q
  parts s j (deeper k x w z q near side closer later leads hz u) =
      let y : k ≡ side_claim nodes m s = omega arith in
      let v : x ≡ field_at nodes m (1 - s) - 1 = omega arith in
      inr
      (record {
        near = rw (← y) near;
        beside = λ z. omega arith;
        closer = rw (← y, ← v) closer;
        later = later;
        room = w;
        leads = leads;
        holds = record { side = z; which = hz; under = u };
      })

  not_free : (s j : ℕ) → Under nodes e m s j → field_at nodes m s ≡ 0 → ⊥
  not_free s j (here p) z = omega arith
  not_free s j (deeper k x w y p q f g t r h u) z = omega arith

  -- on a side, or below one
  sorted_at : (j s : ℕ) → s < 2 → Under nodes e m s j → On nodes m j ⊎ (Below nodes e m 0 (side_claim nodes m 0) j ⊎ Below nodes e m 1 (side_claim nodes m 1) j)
  sorted_at j zero h u = ⊎_elim (λ q. inl (inl q)) (λ b. inr (inl b)) (parts 0 j u)
  sorted_at j (suc zero) h u = ⊎_elim (λ q. inl (inr q)) (λ b. inr (inr b)) (parts 1 j u)
  sorted_at j (suc (suc s)) h u = absurd (omega arith)

  -- a node with one claim has none below
  alone_at : field_at nodes m 1 ≡ 0 → (j s : ℕ) → s < 2 → Under nodes e m s j → On nodes m j
  alone_at z j zero h u = ⊎_elim (λ q. inl q) (λ b. absurd (b.beside z)) (parts 0 j u)
  alone_at z j (suc zero) h u = absurd (not_free 1 j u z)
  alone_at z j (suc (suc s)) h u = absurd (omega arith)

-- ---- walked

module _ (ask : Asked) (coordinates probe : List ℤ) (nodes : List ℕ) (m : ℕ) where
  abbrev Dist : ℕ → ℕ
  Dist = dist_by ask coordinates probe

  abbrev E : ℕ → ℕ → ℕ
  E = apart_by ask coordinates

  abbrev Went : (ℕ → Type 0) → List ℕ → List ℕ → Type 0
  Went C o o' = Walked ask Dist C o o'

  module _ (o o₁ : List ℕ) (w : Went (On nodes m) o o₁) where
    pub node_one : field_at nodes m 1 ≡ 0 → Went (Holds nodes E m) o o₁
    node_one z = walked_fewer ask Dist (Holds nodes E m) (On nodes m) o o₁ (λ j h. alone_at nodes E m z j h.side h.which h.under) w

    module _ (o₂ o₃ : List ℕ) where
      node_two : (C C' : ℕ → Type 0) → ((j : ℕ) → Below nodes E m 0 (side_claim nodes m 0) j ⊎ Below nodes E m 1 (side_claim nodes m 1) j → C j ⊎ C' j)
          → Went C o₁ o₂ → Went C' o₂ o₃ → Went (Holds nodes E m) o o₃
      node_two C C' order w₁ w₂ =
          walked_then ask Dist (Holds nodes E m) (On nodes m) (λ j. Below nodes E m 0 (side_claim nodes m 0) j ⊎ Below nodes E m 1 (side_claim nodes m 1) j) o o₁ o₃ w
          (walked_then ask Dist _ C C' o₁ o₂ o₃ w₁ w₂ order) (λ j h. sorted_at nodes E m j h.side h.which h.under)

      module _ (x y : ℕ) (left : Ranked ask coordinates probe nodes m 0 x) (right : Ranked ask coordinates probe nodes m 1 y) (way way₂ : Option ℕ) where
        -- below side s
        went : (s : ℕ) (x least : ℕ) → Ranked ask coordinates probe nodes m s x → Least ask nodes E Dist (metric ask coordinates probe) m s least → (o o' : List ℕ) (way : Option ℕ)
            → way ≡ way_down nodes ask m s x least o → Went (InOrBelow nodes E way) o o' → Went (Below nodes E m s (side_claim nodes m s)) o o'
        went s x least r least-is o o' way = side_went ask nodes E Dist (metric ask coordinates probe) m s x least r.near r.rank least-is o way o'

        pub node_left_first : x ≤ y → way ≡ way_down nodes ask m 0 x 0 o₁ → Went (InOrBelow nodes E way) o₁ o₂
            → way₂ ≡ way_down nodes ask m 1 y (half_at ask.order (y - x) 1) o₂ → Went (InOrBelow nodes E way₂) o₂ o₃ → Went (Holds nodes E m) o o₃
        node_left_first closer is w₁ is₂ w₂ =
            node_two (Below nodes E m 0 (side_claim nodes m 0)) (Below nodes E m 1 (side_claim nodes m 1)) (λ j c. c)
            (went 0 x 0 left (least_any ask nodes E Dist (metric ask coordinates probe) m 0) o₁ o₂ way is w₁)
            (went 1 y _ right (least_half ask nodes E Dist (metric ask coordinates probe) m 1 y x (lit< tt) right.near right.rank left.rank closer) o₂ o₃ way₂ is₂ w₂)

        pub node_right_first : y < x → way ≡ way_down nodes ask m 1 y 0 o₁ → Went (InOrBelow nodes E way) o₁ o₂
            → way₂ ≡ way_down nodes ask m 0 x (half_at ask.order (x - y) 0) o₂ → Went (InOrBelow nodes E way₂) o₂ o₃ → Went (Holds nodes E m) o o₃
        node_right_first closer is w₁ is₂ w₂ =
            node_two (Below nodes E m 1 (side_claim nodes m 1)) (Below nodes E m 0 (side_claim nodes m 0)) (λ j c. ⊎_elim (λ q. inr q) (λ q. inl q) c)
            (went 1 y 0 right (least_any ask nodes E Dist (metric ask coordinates probe) m 1) o₁ o₂ way is w₁)
            (went 0 x _ left (least_half ask nodes E Dist (metric ask coordinates probe) m 0 x y (lit< tt) left.near left.rank right.rank (omega arith)) o₂ o₃ way₂ is₂ w₂)

-- ---- what the links give

module _ (nodes : List ℕ) (used n m : ℕ) (h : Searchable nodes used n m) where
  pub stored_here : (s : ℕ) → s < 2 → field_at nodes m s ≤ n
  unfolding Linked
  stored_here s hs = (h.linked m h.in_use).stored s hs

  pub left_here : 0 < field_at nodes m 0
  unfolding Linked
  left_here = (h.linked m h.in_use).left

  rises_here : (s w : ℕ) → s < 2 → field_at nodes m (4 + s) ≡ w + 1 → m < w
  unfolding Linked
  rises_here s w hs is = omega (arith, (h.linked m h.in_use).rises s hs (λ q. omega arith))

  next_here : (s w : ℕ) → s < 2 → field_at nodes m (4 + s) ≡ w + 1 → Searchable nodes used n w
  unfolding Linked
  next_here s w hs is = record { linked = h.linked; room = h.room; in_use = omega (arith, (h.linked m h.in_use).leads s hs) }

-- the nodes above the one that a side leads to, counted for the measure of the walk
abbrev pub left_above : ℕ → Option ℕ → ℕ
left_above all None = 0
left_above all (Some k) = (all - k) * 2 + 1

-- ---- what a side may ask

module _ {nodes : List ℕ} {coordinates : List ℤ} {ask : Asked} {m : ℕ} (h : NodeAsk nodes coordinates ask m) (s : ℕ) (hs : s < 2) where
  pub way_ready : (x least : ℕ) → x ≤ top → least ≤ top → WayAsk nodes m s x least
  way_ready x least hx hl =
      record {
        which = hs;
        inside = omega (arith, h.walk.room, h.walk.in_use);
        stored = omega (arith, stored_here nodes h.used h.claims m h.walk 1 (lit< tt), h.lent.few);
        rank = hx;
        small = hl;
      }

  module _ (x least : ℕ) (way : Option ℕ) (o : List ℕ) (is : way ≡ way_down nodes ask m s x least o) where
    leads : (w : ℕ) → way ≡ Some w → field_at nodes m (4 + s) ≡ w + 1
    leads w some = way_leads nodes ask m s x least o w (sym is ∙ some)

    next : (w : ℕ) → way ≡ Some w → Searchable nodes h.used h.claims w
    next w some = next_here nodes h.used h.claims m h.walk s w hs (leads w some)

    side_falls : left_above (length nodes) way < (length nodes - m) * 2
    side_falls = go way (λ w some. rises_here nodes h.used h.claims m h.walk s w hs (leads w some)) next
      where
        go : (v : Option ℕ) → ((w : ℕ) → v ≡ Some w → m < w) → ((w : ℕ) → v ≡ Some w → Searchable nodes h.used h.claims w) → left_above (length nodes) v < (length nodes - m) * 2
        go None f g = omega (arith, h.walk.in_use, h.walk.room)
        go (Some w) f g = omega (arith, f w refl, (g w refl).in_use, h.walk.in_use, h.walk.room)

    -- what `node` owes a call of `side`, where its own measure is t
    pub side_asked : (t : ℕ) → (length nodes - m) * 2 ≡ t → (left_above (length nodes) way < t) × SideAsk nodes coordinates ask way
    side_asked t e = (omega (arith, side_falls), record { used = h.used; claims = h.claims; walk = next; lent = h.lent })
