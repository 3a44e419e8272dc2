-- Laws of entering: one for each way through a turn of `enter`. Assumes nothing.
use Prim.Native.Nat.{ℕ, zero, suc, ◌+◌, ◌-◌, ◌*◌, ◌<◌, ◌≤◌, max}
use mathlib.Core.Path.{◌≡◌, refl, sym, ap, ◌∙◌}
use mathlib.Core.List.{List}
use native.Mathlib.Omega.{arith}
use lib.IntN.{ℤ}
use lib.ListN.{length, length-set}
use lib.Dec.{leb, lit<}
use mathlib.Core.Bool.{Bool, true, false, cond}
use lib.Seq.{get_or-set_other}
use borrow.Author.Tests.{le-leb, lt-leb, eq-eqb, ne_eqb}
use Rattle.paper.specs.Tree.{grown, field_at, put_field, side_claim, new_node, near_side, raise, entered_from, entered}
use Rattle.measure.specs.Measured.{TwoAt}
use Rattle.tree.specs.BuiltNodes.{Linked, Located}
use Rattle.tree.proofs.PointsInMemory.{located_at}

-- ---- a field stored, and a far distance raised

-- another field keeps its number
pub other : (nodes : List ℕ) (m f v n g : ℕ) → f < 6 → g < 6 → (f ≡ g → ⊥) → field_at (put_field nodes m f v) n g ≡ field_at nodes n g
other nodes m f v n g hf hg ne = get_or-set_other nodes (m * 6 + f) (n * 6 + g) v 0 (λ q. ne (omega arith))

module _ (e : ℕ → ℕ → ℕ) (nodes : List ℕ) (m k : ℕ) where
  pub side_small : near_side e nodes m k < 2
  unfolding near_side
  side_small = go (leb (e (side_claim nodes m 0) k) (e (side_claim nodes m 1) k))
    where
      go : (b : Bool) → cond {A = ℕ} b 0 1 < 2
      go true = lit< tt
      go false = lit< tt

  pub raised : (s distance : ℕ) → distance ≡ e (side_claim nodes m s) k → put_field nodes m (2 + s) (max (field_at nodes m (2 + s)) distance) ≡ raise e nodes m s k
  unfolding raise
  raised s distance q = rw q

  pub raise_length : (s : ℕ) → length (raise e nodes m s k) ≡ length nodes
  unfolding raise
  raise_length s = simp length-set

  -- raising a far distance keeps the links
  pub still_linked : (s used n : ℕ) → s < 2 → Linked nodes used n → Linked (raise e nodes m s k) used n
  unfolding Linked raise
  still_linked s used n hs h w hw =
      let v : ℕ = max (field_at nodes m (2 + s)) (e (side_claim nodes m s) k) in
      let same-held : (z : ℕ) → z < 2 → field_at (put_field nodes m (2 + s) v) w z ≡ field_at nodes w z =
      λ z hz. other nodes m (2 + s) v w z (omega arith) (omega arith) (λ q. omega arith) in
      let same-below : (z : ℕ) → z < 2 → field_at (put_field nodes m (2 + s) v) w (4 + z) ≡ field_at nodes w (4 + z) =
      λ z hz. other nodes m (2 + s) v w (4 + z) (omega arith) (omega arith) (λ q. omega arith) in
      record {
        left = rw (same-held 0 (lit< tt)) (h w hw).left;
        stored = λ z hz. rw (same-held z hz) ((h w hw).stored z hz);
        rises = λ z hz ne. rw (same-below z hz) ((h w hw).rises z hz (λ q. ne (same-below z hz ∙ q)));
        leads = λ z hz. rw (same-below z hz) ((h w hw).leads z hz);
      }

-- ---- what one turn of `entered_from` does

module _ (f : ℕ) (e : ℕ → ℕ → ℕ) (used k m : ℕ) (nodes : List ℕ) where
  pub entered_stop : field_at nodes m 1 ≡ 0 → entered_from (suc f) e used k m nodes ≡ grown (put_field nodes m 1 (k + 1)) used
  unfolding entered_from
  entered_stop z = rw (eq-eqb (field_at nodes m 1) 0 z)

  pub entered_new : (field_at nodes m 1 ≡ 0 → ⊥) → field_at nodes m (4 + near_side e nodes m k) ≡ 0
      → entered_from (suc f) e used k m nodes ≡ grown (new_node (put_field (raise e nodes m (near_side e nodes m k) k) m (4 + near_side e nodes m k) (used + 1)) used k) (used + 1)
  unfolding entered_from
  entered_new no1 z = rw (ne_eqb (field_at nodes m 1) 0 no1, eq-eqb (field_at nodes m (4 + near_side e nodes m k)) 0 z)

  pub entered_down : (field_at nodes m 1 ≡ 0 → ⊥) → (field_at nodes m (4 + near_side e nodes m k) ≡ 0 → ⊥)
      → entered_from (suc f) e used k m nodes ≡ entered_from f e used k (field_at nodes m (4 + near_side e nodes m k) - 1) (raise e nodes m (near_side e nodes m k) k)
  unfolding entered_from
  entered_down no1 no4 = rw (ne_eqb (field_at nodes m 1) 0 no1, ne_eqb (field_at nodes m (4 + near_side e nodes m k)) 0 no4)

-- ---- the turns of `enter`

-- what holds at each turn of `enter`, at node m of nodes, where it began with nodes₀
pub record EnteringGoing (e : ℕ → ℕ → ℕ) (used k : ℕ) (nodes₀ nodes : List ℕ) (m : ℕ) : Type 0 where
  pub fuel : ℕ
  pub enough : used ≤ m + fuel
  pub in_use : m < used
  pub long : length nodes ≡ length nodes₀
  pub linked : Linked nodes used k
  pub same : entered_from fuel e used k m nodes ≡ entered e used k nodes₀

pub going_start : (e : ℕ → ℕ → ℕ) (used k : ℕ) (nodes : List ℕ) → (used ≡ 0 → ⊥) → Linked nodes used k → EnteringGoing e used k nodes nodes 0
unfolding entered
going_start e zero k nodes no0 h = absurd (no0 refl)
going_start e (suc u) k nodes no0 h =
    record { fuel = suc u; enough = omega arith; in_use = omega arith; long = refl; linked = h; same = refl }

pub entered_first : (e : ℕ → ℕ → ℕ) (used k : ℕ) (nodes : List ℕ) → used ≡ 0 → entered e used k nodes ≡ grown (new_node nodes 0 k) 1
unfolding entered
entered_first e used k nodes z = rw z

module _ {e : ℕ → ℕ → ℕ} {used k : ℕ} {nodes₀ nodes : List ℕ} {m : ℕ} (g : EnteringGoing e used k nodes₀ nodes m) where
  -- where the node has a claim on its right, both of its claims are stored
  pub going_claim : {l s : ℕ} → s < 2 → (field_at nodes m 1 ≡ 0 → ⊥) → l ≡ field_at nodes m s → (0 < l) × (l ≤ k)
  unfolding Linked
  going_claim {l} {s} hs no1 e =
      let ok = g.linked m g.in_use in
      rw e (held s hs ok.left, ok.stored s hs)
    where
      held : (s : ℕ) → s < 2 → 0 < field_at nodes m 0 → 0 < field_at nodes m s
      held zero hs h = h
      held (suc zero) hs h = omega arith
      held (suc (suc s)) hs h = absurd (omega arith)

  pub going_two : {l r d : ℕ} {coordinates : List ℤ} → (field_at nodes m 1 ≡ 0 → ⊥) → l ≡ field_at nodes m 0 → r ≡ field_at nodes m 1 → Located d (k + 1) coordinates
      → TwoAt d coordinates ((l - 1) * d) ((r - 1) * d)
  going_two {l} {r} {d} {coordinates} full pl pr h =
      let a = going_claim {s = 0} (lit< tt) full pl in
      let b = going_claim {s = 1} (lit< tt) full pr in
      record { left_at = located_at d (k + 1) (l - 1) coordinates h (omega arith); right_at = located_at d (k + 1) (r - 1) coordinates h (omega arith) }

  pub going_stop : field_at nodes m 1 ≡ 0 → entered e used k nodes₀ ≡ grown (put_field nodes m 1 (k + 1)) used
  going_stop z = go g.fuel g.enough g.same
    where
      go : (f : ℕ) → used ≤ m + f → entered_from f e used k m nodes ≡ entered e used k nodes₀ → entered e used k nodes₀ ≡ grown (put_field nodes m 1 (k + 1)) used
      go zero en sm = absurd (omega (arith, g.in_use))
      go (suc f) en sm = sym sm ∙ entered_stop f e used k m nodes z

-- a turn that goes below side s of the node, whose claim is x away from claim k
pub record GoingBelow (e : ℕ → ℕ → ℕ) (used k : ℕ) (nodes₀ nodes : List ℕ) (m s x : ℕ) : Type 0 where
  pub going : EnteringGoing e used k nodes₀ nodes m
  pub full : field_at nodes m 1 ≡ 0 → ⊥
  pub near : s ≡ near_side e nodes m k
  pub away : x ≡ e (side_claim nodes m s) k

-- the nearer of the node's two sides, by the distances dl and dr of its claims
module _ {e : ℕ → ℕ → ℕ} {used k : ℕ} {nodes₀ nodes : List ℕ} {m l r dl dr : ℕ} (g : EnteringGoing e used k nodes₀ nodes m) (full : field_at nodes m 1 ≡ 0 → ⊥)
    (pl : l ≡ field_at nodes m 0) (pr : r ≡ field_at nodes m 1) (ql : dl ≡ e (l - 1) k) (qr : dr ≡ e (r - 1) k) where
  pub below_left : dl ≤ dr → GoingBelow e used k nodes₀ nodes m 0 dl
  unfolding near_side
  below_left h =
      let t : leb (e (side_claim nodes m 0) k) (e (side_claim nodes m 1) k) ≡ true = rw (← pl, ← pr, ← ql, ← qr) (le-leb dl dr h) in
      record { going = g; full = full; near = sym (ap (λ (b : Bool). cond {A = ℕ} b 0 1) t); away = rw (← pl) ql }

  pub below_right : dr < dl → GoingBelow e used k nodes₀ nodes m 1 dr
  unfolding near_side
  below_right h =
      let t : leb (e (side_claim nodes m 0) k) (e (side_claim nodes m 1) k) ≡ false = rw (← pl, ← pr, ← ql, ← qr) (lt-leb dl dr h) in
      record { going = g; full = full; near = sym (ap (λ (b : Bool). cond {A = ℕ} b 0 1) t); away = rw (← pr) qr }

-- the side's node below is `below`, and its far distance is raised in nodes'
module _ {e : ℕ → ℕ → ℕ} {used k : ℕ} {nodes₀ nodes : List ℕ} {m s x : ℕ} (t : GoingBelow e used k nodes₀ nodes m s x) {below : ℕ} {nodes' : List ℕ}
    (read : below ≡ field_at nodes m (4 + s)) (widened : nodes' ≡ put_field nodes m (2 + s) (max (field_at nodes m (2 + s)) x)) where
  g : EnteringGoing e used k nodes₀ nodes m
  g = t.going

  lifted : nodes' ≡ raise e nodes m s k
  lifted = widened ∙ raised e nodes m k s x t.away

  pub going_new : below ≡ 0 → entered e used k nodes₀ ≡ grown (new_node (put_field nodes' m (4 + s) (used + 1)) used k) (used + 1)
  going_new z = rw (lifted, t.near) (go g.fuel g.enough g.same)
    where
      go : (f : ℕ) → used ≤ m + f → entered_from f e used k m nodes ≡ entered e used k nodes₀
          → entered e used k nodes₀ ≡ grown (new_node (put_field (raise e nodes m (near_side e nodes m k) k) m (4 + near_side e nodes m k) (used + 1)) used k) (used + 1)
      go zero en sm = absurd (omega (arith, g.in_use))
      go (suc f) en sm = sym sm ∙ entered_new f e used k m nodes t.full (rw (← t.near) (sym read ∙ z))

  going_rises : (below ≡ 0 → ⊥) → m < below - 1
  unfolding Linked
  going_rises no4 =
      let hs : s < 2 = rw t.near (side_small e nodes m k) in
      omega (arith, (g.linked m g.in_use).rises s hs (λ q. no4 (read ∙ q)))

  pub going_less : (below ≡ 0 → ⊥) → used - (below - 1) < used - m
  going_less no4 = omega (arith, going_rises no4, g.in_use)

  pub going_down : (below ≡ 0 → ⊥) → EnteringGoing e used k nodes₀ nodes' (below - 1)
  unfolding Linked
  going_down no4 =
      let hs : s < 2 = rw t.near (side_small e nodes m k) in
      let up = going_rises no4 in
      record {
        fuel = g.fuel - 1;
        enough = omega (arith, g.enough);
        in_use = omega (arith, (g.linked m g.in_use).leads s hs);
        long = rw lifted (raise_length e nodes m k s ∙ g.long);
        linked = rw lifted (still_linked e nodes m k s used k hs g.linked);
        same = go g.fuel g.enough g.same;
      }
    where
      go : (f : ℕ) → used ≤ m + f → entered_from f e used k m nodes ≡ entered e used k nodes₀
          → entered_from (f - 1) e used k (below - 1) nodes' ≡ entered e used k nodes₀
      go zero en sm = absurd (omega (arith, g.in_use))
      go (suc f) en sm =
          let pf : suc f - 1 ≡ f = omega arith in
          rw (pf, lifted, read, t.near) (sym (entered_down f e used k m nodes t.full (λ q. no4 (read ∙ rw t.near q))) ∙ sm)
