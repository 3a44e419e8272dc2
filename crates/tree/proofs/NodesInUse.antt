-- [3.13] Entering reads no node that is not in use: two memories that agree on the nodes in use still agree afterwards, and a node that is
-- not in use keeps what it held. Assumes nothing.
use Prim.Native.Nat.{ℕ, zero, suc, ◌+◌, ◌-◌, ◌*◌, ◌<◌, ◌≤◌}
use mathlib.Core.Path.{◌≡◌, refl, sym, ◌∙◌}
use mathlib.Core.Logic.{⊎_elim}
use mathlib.Core.List.{List}
use native.Mathlib.Omega.{arith}
use native.Mathlib.Decide.{ℕ_discrete}
use native.Mathlib.Nat.{le_refl, eq-or-lt_of_le}
use lib.ListN.{length, length-set}
use lib.Dec.{lit<}
use lib.Seq.{get_or-set_same, get_or-set_other}
use Rattle.paper.specs.Tree.{Grown, grown, field_at, put_field, new_node, near_side, raise, entered_from, entered}
use Rattle.tree.specs.BuiltNodes.{Inside, Linked}
use Rattle.tree.proofs.OneEntering.{raise_length, side_small, entered_stop, entered_new, entered_down}
use Rattle.tree.proofs.Stores.{fresh_other, fresh_length, fresh_left, fresh_rest}
use Rattle.tree.proofs.Descent.{descend}

-- ---- memories that agree on the nodes in use

-- the first w nodes of the two are the same, and the second is no shorter
pub record Agree (w : ℕ) (a b : List ℕ) : Type 0 where
  pub long : length a ≤ length b
  pub same : (m g : ℕ) → m < w → g < 6 → field_at a m g ≡ field_at b m g

agree_put : (w : ℕ) (a b : List ℕ) (m f v v' : ℕ) → m * 6 + f < length a → v ≡ v' → Agree w a b → Agree w (put_field a m f v) (put_field b m f v')
agree_put w a b m f v v' h e ag =
    record {
      long = omega (arith, length-set a (m * 6 + f) v, ag.long, length-set b (m * 6 + f) v');
      same = λ n g hn hg. at n g hn hg (ℕ_discrete (n * 6 + g) (m * 6 + f));
    }
  where
    at : (n g : ℕ) → n < w → g < 6 → Dec (n * 6 + g ≡ m * 6 + f) → field_at (put_field a m f v) n g ≡ field_at (put_field b m f v') n g
    at n g hn hg (yes p) = rw p (get_or-set_same a (m * 6 + f) v 0 h ∙ e ∙ sym (get_or-set_same b (m * 6 + f) v' 0 (omega (arith, ag.long))))
    at n g hn hg (no q) = get_or-set_other a (m * 6 + f) (n * 6 + g) v 0 q ∙ ag.same n g hn hg ∙ sym (get_or-set_other b (m * 6 + f) (n * 6 + g) v' 0 q)

agree_fresh : (w : ℕ) (a b : List ℕ) (k : ℕ) → Inside a w → Agree w a b → Agree (w + 1) (new_node a w k) (new_node b w k)
agree_fresh w a b k h ag =
    record {
      long = omega (arith, fresh_length a w k, ag.long, fresh_length b w k);
      same = λ n g hn hg. ⊎_elim (λ p. rw p (at g hg))
          (λ l. fresh_other a w k n g (λ q. omega arith) hg ∙ ag.same n g l hg ∙ sym (fresh_other b w k n g (λ q. omega arith) hg))
          (eq-or-lt_of_le (omega arith));
    }
  where
    h' : Inside b w
    h' = omega (arith, ag.long)

    at : (g : ℕ) → g < 6 → field_at (new_node a w k) w g ≡ field_at (new_node b w k) w g
    at zero hg = fresh_left a w k h ∙ sym (fresh_left b w k h')
    at (suc g) hg = fresh_rest a w k (suc g) h (omega arith) hg ∙ sym (fresh_rest b w k (suc g) h' (omega arith) hg)

module _ (e : ℕ → ℕ → ℕ) (used k m : ℕ) (a b : List ℕ) (hm : m < used) (room : used * 6 + 6 ≤ length a) (ag : Agree used a b) where
  near_same : near_side e a m k ≡ near_side e b m k
  unfolding near_side
  near_same = rw (ag.same m 0 hm (lit< tt), ag.same m 1 hm (lit< tt))

  agree_raise : (s : ℕ) → s < 2 → Agree used (raise e a m s k) (raise e b m s k)
  unfolding raise
  agree_raise s hs =
      agree_put used a b m (2 + s) _ _ (omega arith)
      (rw (ag.same m (2 + s) hm (omega arith), ag.same m s hm (omega arith))) ag

-- ---- both grow alike

pub record SameInUse (x y : Grown) : Type 0 where
  pub agree : Agree x.used x.nodes y.nodes
  pub used : x.used ≡ y.used

module _ (e : ℕ → ℕ → ℕ) (used k m : ℕ) (a b : List ℕ) (hm : m < used) (room : used * 6 + 6 ≤ length a) (ag : Agree used a b) (f : ℕ) where
  abbrev s : ℕ
  s = near_side e a m k

  near : s ≡ near_side e b m k
  near = near_same e used k m a b hm room ag

  four : field_at a m (4 + s) ≡ field_at b m (4 + s)
  four = ag.same m (4 + s) hm (omega (arith, side_small e a m k))

  right_too : (field_at a m 1 ≡ 0 → ⊥) → field_at b m 1 ≡ 0 → ⊥
  right_too no1 z = no1 (ag.same m 1 hm (lit< tt) ∙ z)

  stop_alike : field_at a m 1 ≡ 0 → SameInUse (grown (put_field a m 1 (k + 1)) used) (entered_from (suc f) e used k m b)
  stop_alike p =
      rw (entered_stop f e used k m b (sym (ag.same m 1 hm (lit< tt)) ∙ p))
      (record { agree = agree_put used a b m 1 (k + 1) (k + 1) (omega arith) refl ag; used = refl })

  new_alike : (field_at a m 1 ≡ 0 → ⊥) → field_at a m (4 + s) ≡ 0
      → SameInUse (grown (new_node (put_field (raise e a m s k) m (4 + s) (used + 1)) used k) (used + 1)) (entered_from (suc f) e used k m b)
  new_alike no1 p =
      let la : length (raise e a m s k) ≡ length a = raise_length e a m k s in
      let hs : s < 2 = side_small e a m k in
      let lp : length (put_field (raise e a m s k) m (4 + s) (used + 1)) ≡ length (raise e a m s k) = length-set (raise e a m s k) (m * 6 + (4 + s)) (used + 1) in
      rw (entered_new f e used k m b (right_too no1) (rw (← near) (sym four ∙ p)), ← near)
      (record {
        agree = agree_fresh used _ _ k (omega arith)
            (agree_put used _ _ m (4 + s) (used + 1) (used + 1) (omega arith) refl (agree_raise e used k m a b hm room ag s hs));
        used = refl;
      })

  down_alike : (w : ℕ) (out : Grown) → (field_at a m 1 ≡ 0 → ⊥) → field_at a m (4 + s) ≡ w + 1
      → ((b' : List ℕ) → Agree used (raise e a m s k) b' → SameInUse out (entered_from f e used k w b')) → SameInUse out (entered_from (suc f) e used k m b)
  down_alike w out no1 p deep =
      let v : field_at b m (4 + s) - 1 ≡ w = omega (arith, four) in
      let no4 : field_at b m (4 + near_side e b m k) ≡ 0 → ⊥ = rw (← near) (λ z. omega (arith, four)) in
      rw (entered_down f e used k m b (right_too no1) no4, ← near, v) (deep (raise e b m s k) (agree_raise e used k m a b hm room ag s (side_small e a m k)))

place_alike : (f : ℕ) (e : ℕ → ℕ → ℕ) (used k m : ℕ) (a b : List ℕ) → m < used → used ≤ m + f → used * 6 + 6 ≤ length a → Linked a used k → Agree used a b
    → SameInUse (entered_from f e used k m a) (entered_from f e used k m b)
place_alike f e used k m a b hm en room lk ag =
    descend e used k (λ f m a out. (b : List ℕ) → Agree used a b → SameInUse out (entered_from f e used k m b)) (record {
      stop = λ f m a hm room lk p b ag. stop_alike e used k m a b hm room ag f p;
      new = λ f m a hm room lk no1 p b ag. new_alike e used k m a b hm room ag f no1 p;
      down = λ f m w a out hm room lk no1 p deep b ag. down_alike e used k m a b hm room ag f w out no1 p deep;
    }) f m a hm en room lk b ag

-- ---- a node that is not in use afterwards keeps what it held

NodesBehind : List ℕ → Grown → Type 0
NodesBehind a x = (n g : ℕ) → x.used ≤ n → g < 6 → field_at x.nodes n g ≡ field_at a n g

put_behind : (a : List ℕ) (m f v n g : ℕ) → m < n → f < 6 → g < 6 → field_at (put_field a m f v) n g ≡ field_at a n g
put_behind a m f v n g h hf hg = get_or-set_other a (m * 6 + f) (n * 6 + g) v 0 (λ q. omega arith)

raise_behind : (e : ℕ → ℕ → ℕ) (a : List ℕ) (m s k n g : ℕ) → m < n → s < 2 → g < 6 → field_at (raise e a m s k) n g ≡ field_at a n g
unfolding raise
raise_behind e a m s k n g h hs hg = put_behind a m (2 + s) _ n g h (omega arith) hg

place_behind : (f : ℕ) (e : ℕ → ℕ → ℕ) (used k m : ℕ) (a : List ℕ) → m < used → used ≤ m + f → used * 6 + 6 ≤ length a → Linked a used k
    → NodesBehind a (entered_from f e used k m a)
unfolding NodesBehind
place_behind f e used k m a hm en room lk =
    (descend e used k (λ f m a out. (used ≤ out.used) × NodesBehind a out) (record {
      stop = λ f m a hm room lk p. (le_refl used, λ n g hn hg. put_behind a m 1 (k + 1) n g (omega arith) (lit< tt) hg);
      new = λ f m a hm room lk no1 p.
          let s : ℕ = near_side e a m k in
          let hs : s < 2 = side_small e a m k in (
            omega arith,
            λ n g hn hg.
                fresh_other (put_field (raise e a m s k) m (4 + s) (used + 1)) used k n g (λ q. omega arith) hg
                ∙ put_behind (raise e a m s k) m (4 + s) (used + 1) n g (omega arith) (omega arith) hg
                ∙ raise_behind e a m s k n g (omega arith) hs hg,
          );
      down = λ f m w a out hm room lk no1 p deep.
          (deep.0, λ n g hn hg. deep.1 n g hn hg ∙ raise_behind e a m (near_side e a m k) k n g (omega (arith, deep.0)) (side_small e a m k) hg);
    }) f m a hm en room lk).1

-- ---- handed on: entering, from the root

pub enter_alike : (e : ℕ → ℕ → ℕ) (used k : ℕ) (a b : List ℕ) → used * 6 + 6 ≤ length a → Linked a used k → Agree used a b
    → SameInUse (entered e used k a) (entered e used k b)
unfolding entered
enter_alike e zero k a b room lk ag = record { agree = agree_fresh 0 a b k (omega arith) ag; used = refl }
enter_alike e (suc u) k a b room lk ag = place_alike (suc u) e (suc u) k 0 a b (omega arith) (omega arith) room lk ag

pub enter_behind : (e : ℕ → ℕ → ℕ) (used k : ℕ) (a : List ℕ) → used * 6 + 6 ≤ length a → Linked a used k
    → (n g : ℕ) → (entered e used k a).used ≤ n → g < 6 → field_at (entered e used k a).nodes n g ≡ field_at a n g
unfolding entered NodesBehind
enter_behind e zero k a room lk n g hn hg = fresh_other a 0 k n g (λ q. omega arith) hg
enter_behind e (suc u) k a room lk n g hn hg = place_behind (suc u) e (suc u) k 0 a (omega arith) (omega arith) room lk n g hn hg
