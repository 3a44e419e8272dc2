-- What holds of every list and of every answer, at every moment, and that an answer which is taken keeps it. Assumes nothing.
use Prim.Native.Nat.{ℕ, zero, suc, ◌+◌, ◌<◌, ◌≤◌}
use mathlib.Core.Path.{◌≡◌, refl, sym, ap, ◌∙◌}
use mathlib.Core.Bool.{Bool, true, false, cond, ◌&&◌, ◌||◌, not}
use mathlib.Core.List.{List, [], ◌++◌, append-nil, append_assoc}
use native.Mathlib.Omega.{arith}
use lib.ListN.{length, take, drop, length-take, length-drop, length-append}
use lib.Seq.{take_all}
use lib.Dec.{leb, eqb}
use borrow.Author.Tests.{lt-ltb, le-leb, eq-eqb}
use Rattle.paper.specs.declared.orders.Place.{Place}
use Rattle.paper.specs.Points.{Claim}
use Rattle.paper.specs.declared.orders.Item.{Item}
use Rattle.paper.specs.Orders.{no_item, Query, listed, rest}
use Rattle.paper.specs.Ends.{Answer, Table, count, matches, Listing, fresh, present_place, fitting, started_well, sound_in, joined_to}
use Rattle.paper.proofs.Tests.{no_way, and_both, or_right}
use Rattle.orders.proofs.Lists.{All, all_map, all_take, every_true, front_length, join_front, last_of_front}
use Rattle.orders.proofs.Sorted.{Rising, rising_take, rising_test, IsOf, listed_are, listed_rising, listed_grown, rest_start, rest_next}
use Rattle.orders.proofs.Taking.{present_start, present_after, FitsList}
use Rattle.orders.specs.LawfulLines.{QueryInRange}
use Rattle.journey.specs.Promise.{all_of}
use Rattle.paper.specs.Limits.{most_claims}

-- ---- a list that is true, and an answer that a table vouches for

pub record ListTrue (t : Table) (L : Listing) : Type 0 where
  pub query : QueryInRange L.query
  pub unstarted : L.started ≡ false → L ≡ fresh L.query
  pub ours : L.started ≡ true → matches t L.query ≡ true
  pub held : L.snapshot ≤ count t
  pub front : L.items ≡ take (length L.items) (all_of t L)
  pub whole : L.complete ≡ true → L.items ≡ all_of t L
  pub going : L.started ≡ true → L.complete ≡ false → 0 < length L.items

-- a list that is true, and complete as soon as nothing is missing
pub record ListExact (t : Table) (L : Listing) : Type 0 where
  pub kept : ListTrue t L
  pub missing : L.started ≡ true → L.complete ≡ false → length L.items < length (all_of t L)

-- what follows a place in the list of the first s claims
abbrev pub after : Table → Query → Place → ℕ → List Item
after t q p s = rest q.order p (listed q t.claims s)

-- an answer that this table gave, at some count up to now, by 4.7 or [7.15] by the former rule: where it is last it has all that is left,
-- and otherwise it is full
pub record Vouched (t : Table) (y : Answer) : Type 0 where
  pub ours : matches t y.query ≡ true
  pub held : y.snapshot ≤ count t
  pub size : ℕ
  pub one : 1 ≤ size
  pub page : y.items ≡ take size (after t y.query y.place y.snapshot)
  pub all : y.last ≡ true → length (after t y.query y.place y.snapshot) ≤ size
  pub full : y.last ≡ false → size ≤ length (after t y.query y.place y.snapshot)

-- one by 4.7: where it is not last, something follows it
pub record VouchedExactly (t : Table) (y : Answer) : Type 0 where
  pub vouched : Vouched t y
  pub more : y.last ≡ false → vouched.size < length (after t y.query y.place y.snapshot)

-- a list that was just opened
pub kept_fresh : (t : Table) (q : Query) → QueryInRange q → ListTrue t (fresh q)
kept_fresh t q ok =
    record {
      query = ok;
      unstarted = λ p. refl;
      ours = λ p. absurd (no_way (sym p));
      held = omega arith;
      front = refl;
      whole = λ p. absurd (no_way (sym p));
      going = λ p. absurd (no_way (sym p));
    }

pub exact_fresh : (t : Table) (q : Query) → QueryInRange q → ListExact t (fresh q)
exact_fresh t q ok = record { kept = kept_fresh t q ok; missing = λ p. absurd (no_way (sym p)) }

-- ---- a table grows, and both stay

-- a table that only grew
pub record TableGrown (t u : Table) : Type 0 where
  pub more : List Claim
  pub claims : u.claims ≡ t.claims ++ more
  pub number : u.number ≡ t.number
  pub measure : u.measure ≡ t.measure
  pub d : u.d ≡ t.d

pub grown_same : (t : Table) → TableGrown t t
grown_same t = record { more = []; claims = sym (append-nil t.claims); number = refl; measure = refl; d = refl }

pub grown_trans : (t u v : Table) → TableGrown t u → TableGrown u v → TableGrown t v
grown_trans t u v g h =
    record {
      more = g.more ++ h.more;
      claims = h.claims ∙ ap (λ (l : List Claim). l ++ h.more) g.claims ∙ append_assoc t.claims g.more h.more;
      number = h.number ∙ g.number;
      measure = h.measure ∙ g.measure;
      d = h.d ∙ g.d;
    }

module _ (t u : Table) (g : TableGrown t u) where
  grown_count : count t ≤ count u
  grown_count = omega (arith, ap length g.claims, length-append t.claims g.more)

  pub grown_matches : (q : Query) → matches u q ≡ matches t q
  unfolding matches
  grown_matches q = rw (g.number, g.measure, g.d)

  pub grown_listed : (q : Query) (s : ℕ) → s ≤ count t → listed q u.claims s ≡ listed q t.claims s
  grown_listed q s p = rw g.claims (listed_grown q t.claims g.more s p)

  pub kept_grown : (L : Listing) → ListTrue t L → ListTrue u L
  kept_grown L k =
      let e : all_of u L ≡ all_of t L = grown_listed L.query L.snapshot k.held in
      record {
        query = k.query;
        unstarted = k.unstarted;
        ours = λ p. grown_matches L.query ∙ k.ours p;
        held = omega (arith, k.held, grown_count);
        front = rw e k.front;
        whole = λ p. rw e (k.whole p);
        going = k.going;
      }

  pub exact_grown : (L : Listing) → ListExact t L → ListExact u L
  exact_grown L x = record { kept = kept_grown L x.kept; missing = rw (grown_listed L.query L.snapshot x.kept.held) x.missing }

  pub vouched_grown : (y : Answer) → Vouched t y → Vouched u y
  vouched_grown y v =
      let e : listed y.query u.claims y.snapshot ≡ listed y.query t.claims y.snapshot =
      grown_listed y.query y.snapshot v.held in
      record {
        ours = grown_matches y.query ∙ v.ours;
        held = omega (arith, v.held, grown_count);
        size = v.size;
        one = v.one;
        page = rw e v.page;
        all = rw e v.all;
        full = rw e v.full;
      }

  pub exactly_grown : (y : Answer) → VouchedExactly t y → VouchedExactly u y
  unfolding vouched_grown
  exactly_grown y v =
      record { vouched = vouched_grown y v.vouched; more = rw (grown_listed y.query y.snapshot v.vouched.held) v.more }

-- ---- a page joined to the list

-- what follows that place is what the list lacks
pub record Continues (t : Table) (L : Listing) (s : ℕ) : Type 0 where
  pub had : L.items ≡ take (length L.items) (listed L.query t.claims s)
  pub lacks : after t L.query (present_place L) s ≡ drop (length L.items) (listed L.query t.claims s)

pub continues : (t : Table) (L : Listing) (s : ℕ) → ListTrue t L → L.complete ≡ false → (L.started ≡ true → s ≡ L.snapshot) → Continues t L s
continues t L s k c same = go L.started refl (length L.items) refl
  where
    go : (b : Bool) → L.started ≡ b → (n : ℕ) → length L.items ≡ n → Continues t L s
    go false q n e =
        let z : L.items ≡ [] = ap (λ (X : Listing). X.items) (k.unstarted q) in
        record { had = rw z; lacks = rw (present_start L q, z) (rest_start L.query.order _) }
    go true q zero e = absurd (omega (arith, k.going q c))
    go true q (suc j) e =
        let l : List Item = all_of t L in
        let w = last_of_front L.items l j k.front e in
        record {
          had = rw (same q) k.front;
          lacks = rw (present_after L q, same q, w.0, e) (rest_next L.query.order _ l j no_item (listed_rising L.query t.claims L.snapshot) w.1);
        }

-- a page of size n joined to the list
pub longer : (t : Table) (L : Listing) (s n : ℕ) → Continues t L s
    → L.items ++ take n (after t L.query (present_place L) s) ≡ take (length L.items + n) (listed L.query t.claims s)
longer t L s n c = join_front L.items (listed L.query t.claims s) (after t L.query (present_place L) s) n c.had c.lacks

module _ (t : Table) (L : Listing) (y : Answer) (k : ListTrue t L) (v : Vouched t y) (c : L.complete ≡ false) (f : FitsList L y) where
  abbrev Whole : List Item
  Whole = listed L.query t.claims y.snapshot

  abbrev Left : List Item
  Left = after t y.query y.place y.snapshot

  on : Continues t L y.snapshot
  on = continues t L y.snapshot k c f.snapshot

  left : length Left ≡ length (drop (length L.items) Whole)
  left = rw (← f.place, ← f.query) (ap length on.lacks)

  joined : L.items ++ y.items ≡ take (length L.items + v.size) Whole
  joined =
      let page : y.items ≡ take v.size (after t L.query (present_place L) y.snapshot) = rw (f.place, f.query) v.page in
      rw page (longer t L y.snapshot v.size on)

  -- a true list stays true
  pub kept_joined : ListTrue t (joined_to L y)
  unfolding joined_to
  kept_joined =
      record {
        query = k.query;
        unstarted = λ z. absurd (no_way z);
        ours = λ z. rw f.query v.ours;
        held = v.held;
        front = front_length _ (length L.items + v.size) _ joined;
        whole = λ z. joined ∙ take_all (length L.items + v.size) Whole (omega (arith, v.all z, left, length-drop (length L.items) Whole));
        going = λ z q. omega (arith, v.full q, v.one, ap length joined, length-take (length L.items + v.size) Whole, left, length-drop (length L.items) Whole);
      }

  -- and by 4.7 it lacks something as long as it is not complete
  pub missing_joined : (y.last ≡ false → v.size < length Left) → y.last ≡ false → length (L.items ++ y.items) < length Whole
  missing_joined more q = omega (arith, more q, ap length joined, length-take (length L.items + v.size) Whole, left, length-drop (length L.items) Whole)

pub exact_joined : (t : Table) (L : Listing) (y : Answer) → ListExact t L → VouchedExactly t y → L.complete ≡ false → FitsList L y
    → ListExact t (joined_to L y)
unfolding joined_to
exact_joined t L y x v c f =
    record { kept = kept_joined t L y x.kept v.vouched c f; missing = λ z. missing_joined t L y x.kept v.vouched c f v.more }

-- ---- handed on: a true list is sound

-- the items of a list
module _ (t : Table) (L : Listing) (k : ListTrue t L) where
  pub kept_are : All (IsOf L.query t.claims L.snapshot) L.items
  kept_are = rw k.front (all_take _ (length L.items) _ (listed_are L.query t.claims L.snapshot))

  kept_rising : Rising L.query.order L.items
  kept_rising = rw k.front (rising_take L.query.order (length L.items) _ (listed_rising L.query t.claims L.snapshot))

pub is_fitting : (q : Query) (cs : List Claim) (s : ℕ) (x : Item) → IsOf q cs s x → fitting q.reach s x ≡ true
is_fitting q cs s x p = and_both _ _ (le-leb x.distance q.reach p.within) (lt-ltb x.number s p.below)

started_well_lem : (t : Table) (L : Listing) → ListTrue t L → started_well L ≡ true
unfolding started_well
started_well_lem t L k = go L.started L.complete refl refl
  where
    go : (b f : Bool) → L.started ≡ b → L.complete ≡ f
        → cond b (leb 1 (length L.items) || f) (eqb (length L.items) 0 && (eqb L.snapshot 0 && not f)) ≡ true
    go true true p q = or_right (leb 1 (length L.items)) true refl
    go true false p q = let e : 1 ≤ length L.items = k.going p q in rw (le-leb 1 (length L.items) e)
    go false f p q =
        let a : L.items ≡ [] = ap (λ (X : Listing). X.items) (k.unstarted p) in
        let b : L.snapshot ≡ 0 = ap (λ (X : Listing). X.snapshot) (k.unstarted p) in
        let e : f ≡ false = sym q ∙ ap (λ (X : Listing). X.complete) (k.unstarted p) in
        rw (a, b, e)

pub kept_sound : (t : Table) (L : Listing) (room : ℕ) → ListTrue t L → count t ≤ most_claims → length L.items ≤ room → sound_in room L ≡ true
unfolding sound_in
kept_sound t L room k small r =
    and_both _ _ k.query.range
    (and_both _ _ (eq-eqb _ _ k.query.long)
    (and_both _ _ (le-leb L.snapshot most_claims (omega (arith, k.held)))
    (and_both _ _ (le-leb (length L.items) room r)
    (and_both _ _ (rising_test L.query.order L.items (kept_rising t L k))
    (and_both _ _ (every_true _ L.items (all_map _ _ (λ x p. is_fitting L.query t.claims L.snapshot x p) L.items (kept_are t L k)))
    (started_well_lem t L k))))))
