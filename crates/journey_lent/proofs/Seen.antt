-- Every reachable world in lent memory is seen as a reachable world of journey, and each of its steps as the step there. Assumes nothing.
use Prim.Native.Nat.{ℕ, zero, suc, ◌*◌, ◌<◌, ◌^◌}
use mathlib.Core.Path.{◌≡◌, refl, sym, ap, ◌∙◌, subst}
use mathlib.Core.Bool.{Bool, true, false, cond}
use mathlib.Core.List.{List, [], ◌∷◌, map, map-append, Memᴰ}
use native.Mathlib.Omega.{arith}
use lib.Dec.{eqb}
use lib.IntN.{ℤ}
use lib.ListN.{length, get_or, set, length-map, get_or-map}
use lib.Seq.{map-set_same}
use Rattle.paper.specs.declared.lists.List as lists
use Rattle.paper.specs.Points.{Claim}
use Rattle.paper.specs.Orders.{Query}
use Rattle.paper.specs.Outcomes.{Outcome, refused, gives, onto, leaves}
use Rattle.paper.specs.Tree.{Store, fits, sound, claims_from, claims_in}
use Rattle.paper.specs.Runs.{enter_call}
use Rattle.paper.specs.Ends.{table_of, Listing, asking, taking}
use Rattle.paper.specs.Lists.{Held, held, no_list, items_in, room_for, listing, opening_held, asking_held, taking_held, held_after}
use Rattle.paper.specs.Calls.{office_call}
use Rattle.paper.specs.Codec.{lines}
use Rattle.orders.proofs.Lists.{All, all_append, all_mem}
use Rattle.orders.proofs.Rooms.{moves}
use Rattle.journey_lent.proofs.RealLines.{lawful}
use Rattle.tree.specs.Soundness.{Good}
use Rattle.tree.proofs.TestedTables.{fits_fit, sound_good}
use Rattle.tree.proofs.PointsInMemory.{claims_length}
use Rattle.journey.specs.World as journey
use Rattle.journey.proofs.Journey as journeys
use Rattle.journey_lent.specs.EnteredRuns.{run_of, call_enters}
use Rattle.journey_lent.specs.Elsewhere.{References, Foreign}
use Rattle.journey_lent.specs.World.{LentWorld, LentEvent, enters, opens, asks, receives, takes, strays, the_held, the_listing, put_table, put_list, put_in_air, put_held, next_lent, LentAllowed, LentStep, happens, copies, LentReachable, begins, goes, LentLater, still, onwards}
use Rattle.journey_lent.specs.Seen.{seen, run_seen, event_seen}
use Rattle.journey_lent.proofs.Agreement.{office_agrees, enter_agrees, open_agrees, ask_agrees, take_agrees}
use Rattle.journey_lent.proofs.SoundMemory.{SoundMemory, the_sound, sound_well, copied_same, asked_sound, sound_memory}

-- ---- what each call leaves, seen

abbrev with_lists : journey.World → List Listing → journey.World
with_lists w l = record { table = w.table; air = w.air; lists = l }

pub list_seen : (w : LentWorld) (i : ℕ) → journey.the_list (seen w) i ≡ the_listing w i
unfolding listing items_in
list_seen w i = get_or-map listing w.lists i (held no_list [])

table_seen : (w : LentWorld) (o : Outcome Store) → seen (leaves put_table o w) ≡ journey.table_changed (seen w) (onto o (λ x. gives (table_of x)))
table_seen w (refused n) = refl
table_seen w (gives s) = refl

opened_seen : (w : LentWorld) (room : List ℕ) (o : Outcome lists.List)
    → seen (leaves (put_list room) o w) ≡ journey.list_added (seen w) (onto o (λ l. gives (listing (held l room))))
opened_seen w room (refused n) = refl
opened_seen w room (gives l) = ap (with_lists (seen w)) (map-append listing w.lists (held l room ∷ []))

air_seen : (w : LentWorld) (o : Outcome (List ℕ)) → seen (leaves put_in_air o w) ≡ journey.sent (seen w) o
air_seen w (refused n) = refl
air_seen w (gives s) = refl

map_set : {A B : Type 0} (f : A → B) (l : List A) (i : ℕ) (y : A) → map f (set l i y) ≡ set (map f l) i (f y)
map_set f [] i y = refl
map_set f (x ∷ l) zero y = refl
map_set f (x ∷ l) (suc i) y = ap (λ t. f x ∷ t) (map_set f l i y)

-- a list that is seen as it was
same_seen : (w : LentWorld) (i : ℕ) (h : Held) → listing h ≡ the_listing w i → seen (put_held i h w) ≡ seen w
same_seen w i h e = ap (with_lists (seen w)) (map-set_same listing w.lists i h (held no_list []) e)

taken_seen : (w : LentWorld) (i : ℕ) (line : List ℕ) (o : Outcome Listing) → taking_held lines (the_held w i) line ≡ o
    → seen (put_held i (held_after (the_held w i) o) w) ≡ journey.list_changed (seen w) i o
taken_seen w i line (refused n) e = unfold held_after in same_seen w i (the_held w i) refl
taken_seen w i line (gives L) e =
    ap (with_lists (seen w))
    (map_set listing w.lists i (held_after (the_held w i) (gives L))
    ∙ ap (λ (K : Listing). set (map listing w.lists) i K) (moves lines (the_held w i) line L e))

-- each step
module _ (w : LentWorld) (m : SoundMemory w) where
  pub asks_seen : (i size out : ℕ) → i < length w.lists
      → seen (next_lent w (asks i size out)) ≡ journey.next lines (seen w) (journey.asks i size (room_for (the_held w i)) out)
  unfolding next_lent journey.next
  asks_seen i size out here =
      air_seen w (asking_held lines (the_held w i) size out)
      ∙ ap (journey.sent (seen w)) (ask_agrees (the_held w i) (sound_well _ (the_sound w i here m)) size out)
      ∙ ap (λ (L : Listing). journey.sent (seen w) (asking lines (room_for (the_held w i)) size out L)) (sym (list_seen w i))

  pub receives_seen : (line : List ℕ) (out : ℕ) → seen (next_lent w (receives line out)) ≡ journey.next lines (seen w) (journey.receives line out)
  unfolding next_lent journey.next
  receives_seen line out =
      air_seen w (office_call w.store out line) ∙ ap (journey.sent (seen w)) (office_agrees w.store m.fit m.table out line)

  pub takes_seen : (i : ℕ) (line : List ℕ) → i < length w.lists
      → seen (next_lent w (takes i line)) ≡ journey.next lines (seen w) (journey.takes i (room_for (the_held w i)) line)
  unfolding next_lent journey.next
  takes_seen i line here =
      taken_seen w i line _ refl
      ∙ ap (journey.list_changed (seen w) i) (take_agrees (the_held w i) (sound_well _ (the_sound w i here m)) line)
      ∙ ap (λ (L : Listing). journey.list_changed (seen w) i (taking lines (room_for (the_held w i)) L line)) (sym (list_seen w i))

  pub opens_seen : (q : Query) (room : List ℕ) → seen (next_lent w (opens q room)) ≡ journey.next lines (seen w) (journey.opens q)
  unfolding next_lent journey.next
  opens_seen q room = opened_seen w room (opening_held q) ∙ ap (journey.list_added (seen w)) (open_agrees q room)

  enters_seen : (given : List ℕ) (points : List ℤ)
      → seen (next_lent w (enters given points)) ≡ journey.next lines (seen w) (journey.enters (run_seen w.store given points))
  unfolding next_lent journey.next call_enters
  enters_seen given points =
      table_seen w (enter_call w.store given points)
      ∙ ap (journey.table_changed (seen w)) (enter_agrees w.store m.fit m.table given points)

  event_seen_lem : (e : LentEvent) → LentAllowed w e → seen (next_lent w e) ≡ journey.next lines (seen w) (event_seen w e)
  unfolding LentAllowed event_seen
  event_seen_lem (enters given points) a = enters_seen given points
  event_seen_lem (opens q room) a = opens_seen q room
  event_seen_lem (asks i size out) a = asks_seen i size out a
  event_seen_lem (receives line out) a = receives_seen line out
  event_seen_lem (takes i line) a = takes_seen i line a.0
  event_seen_lem (strays line) a = unfold next_lent journey.next in refl

-- ---- what is allowed, seen

-- references that are cut out of lent memory are of 32 bits
reference_typed : (given : List ℕ) → References given → (i : ℕ) → get_or given i 0 < 2 ^ 32
reference_typed [] t i = omega arith
reference_typed (r ∷ given) t zero = t r (Memᴰ.head refl)
reference_typed (r ∷ given) t (suc i) = reference_typed given (λ x m. t x (Memᴰ.tail m)) i

claims_typed : (d n : ℕ) (given : List ℕ) (points : List ℤ) → References given → All (λ (k : Claim). k.reference < 2 ^ 32) (claims_from d n given points)
unfolding claims_from
claims_typed d zero given points t = tt
claims_typed d (suc n) given points t =
    all_append _ (claims_from d n given points) _ (claims_typed d n given points t) (reference_typed given t n, tt)

run_typed : (s : Store) (given : List ℕ) (points : List ℤ) → References given → (k : Claim) → Memᴰ k (run_seen s given points) → k.reference < 2 ^ 32
unfolding run_seen
run_typed s given points t k = go (eqb (length points) (s.table.d * length given))
  where
    go : (b : Bool) → Memᴰ k (cond b (run_of s given points) (record { reference = 0; point = [] } ∷ [])) → k.reference < 2 ^ 32
    go true h = all_mem _ k (run_of s given points) (claims_typed s.table.d (length given) given points t) h
    go false h = all_mem (λ (x : Claim). x.reference < 2 ^ 32) k (record { reference = 0; point = [] } ∷ []) (omega arith, tt) h

allowed_seen : (w : LentWorld) (e : LentEvent) → LentAllowed w e → journey.Allowed lines (Foreign w.store.table.number) (seen w) (event_seen w e)
unfolding LentAllowed event_seen journey.Allowed
allowed_seen w (enters given points) a = run_typed w.store given points a
allowed_seen w (opens q room) a = a
allowed_seen w (asks i size out) a = omega (arith, length-map w.lists listing)
allowed_seen w (receives line out) a = a
allowed_seen w (takes i line) a = (omega (arith, a.0, length-map w.lists listing), a.1)
allowed_seen w (strays line) a = a

-- a table that fits and is sound, with references of 32 bits
pub table_ok : (s : Store) → fits s ≡ true → sound s ≡ true → References s.references → journey.TableOk (table_of s)
table_ok s fit well typed =
    let g : Good s = sound_good s (fits_fit s fit) well in
    record {
      fits = omega (arith, g.count, claims_length s.table.d s.table.count s.references s.coordinates);
      small = g.fit.lent.most;
      references = λ k h. all_mem _ k (claims_in s) (claims_typed s.table.d s.table.count s.references s.coordinates typed) h;
    }

-- ---- worlds, seen

pub later_reachable : {w v : LentWorld} → LentReachable w → LentLater w v → LentReachable v
later_reachable r still = r
later_reachable r (onwards l s) = goes (later_reachable r l) s

-- what may come from elsewhere goes by the table's number, which stays
module _ (number : ℕ) where
  abbrev LaterSeen : LentWorld → LentWorld → Type 0
  LaterSeen w v = journey.Later lines (Foreign number) (seen w) (seen v)

  same_number : (w v : LentWorld) → LaterSeen w v → v.store.table.number ≡ w.store.table.number
  same_number w v l = (journeys.later_grown lines lawful (Foreign number) (seen w) l).number

  -- one step more after a moment x
  step_seen : (x : LentWorld) {w v : LentWorld} → w.store.table.number ≡ number → SoundMemory w → LaterSeen x w → LentStep w v → LaterSeen x v
  step_seen x {w} own m l (happens e a) = rw (event_seen_lem w m e a) (journey.onwards l (event_seen w e) (rw (← own) (allowed_seen w e a)))
  step_seen x {w} own m l (copies i here room c) = rw (same_seen w i _ (copied_same (the_held w i) (the_sound w i here m) room c)) l

  pub later_seen : {w v : LentWorld} → w.store.table.number ≡ number → LentReachable w → LentLater w v → LaterSeen w v
  later_seen own r still = journey.still
  later_seen {w} own r (onwards {v} l s) =
      let k = later_seen own r l in step_seen w (same_number w v k ∙ own) (sound_memory (later_reachable r l)) k s

pub number_stays : {w v : LentWorld} → LentReachable w → LentLater w v → v.store.table.number ≡ w.store.table.number
number_stays {w} {v} r l = same_number w.store.table.number w v (later_seen w.store.table.number refl r l)

pub reachable_seen : {w : LentWorld} → LentReachable w → journey.Reachable lines (Foreign w.store.table.number) (seen w)
reachable_seen (begins s e typed) = let a = asked_sound s e in journey.begins (table_of s) (table_ok s a.0 a.1 typed)
reachable_seen (goes {w} {v} r s) =
    let l : LentLater w v = onwards still s in
    subst (λ (n : ℕ). journey.Reachable lines (Foreign n) (seen v)) (sym (number_stays r l))
    (journeys.later_reachable lines lawful (Foreign w.store.table.number) (seen w) (reachable_seen r) (later_seen w.store.table.number refl r l))
