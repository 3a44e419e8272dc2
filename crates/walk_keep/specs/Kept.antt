-- What a walk keeps: the first so many, in order, of what it had and the claims that it went over. Definitions only.
use Rattle.std.specs.Prelude.{ℕ, zero, suc, ◌+◌, ◌-◌, ◌*◌, ◌<◌, ◌≤◌, ◌≡◌, Bool, true, false, ◌&&◌, List, [], ◌∷◌, ltb, leb, length, get_or}
use Rattle.paper.specs.Limits.{most_claims}
use Rattle.walk_keep.specs.declared.asked.Asked.{Asked}
use Rattle.walk_keep.specs.declared.sought.Sought.{Sought}
use Rattle.walk_keep.specs.Numbers.{most_distance, rank_at, key_at}
use Rattle.walk_keep.specs.Asked.{admitted}
use Rattle.walk_keep.specs.Page.{ranks}

-- an order as one number
abbrev pub key : (ℕ → ℕ) → ℕ → ℕ
key rank k = rank k * most_claims + k

-- the claims of l rise from key lo on, are admitted, and are s at most
pub data RisingClaims (rank : ℕ → ℕ) (ok : ℕ → Bool) (n : ℕ) : ℕ → ℕ → List ℕ → Type 0 where
  none : {s lo : ℕ} → RisingClaims rank ok n s lo []
  more : {s lo k : ℕ} {l : List ℕ} → lo ≤ key rank k → k < n → ok k ≡ true → RisingClaims rank ok n s (key rank k + 1) l → RisingClaims rank ok n (suc s) lo (k ∷ l)

-- claim j is in l, or l is s claims that all come before it
pub data Covered (rank : ℕ → ℕ) (j : ℕ) : ℕ → List ℕ → Type 0 where
  full : Covered rank j zero []
  there : {s : ℕ} {l : List ℕ} → Covered rank j (suc s) (j ∷ l)
  past : {s k : ℕ} {l : List ℕ} → key rank k < key rank j → Covered rank j s l → Covered rank j (suc s) (k ∷ l)

-- from l, a walk over the claims of C keeps r
pub record Kept (rank : ℕ → ℕ) (ok : ℕ → Bool) (n size : ℕ) (C : ℕ → Type 0) (l r : List ℕ) : Type 0 where
  pub rising : RisingClaims rank ok n size zero r
  pub keeps : (j : ℕ) → Covered rank j size l → Covered rank j size r
  pub all : (j : ℕ) → C j → ok j ≡ true → Covered rank j size r

-- ---- in the room of a walk: keys, rising, and the end behind them

-- whether claim k is admitted, where it is `dist k` away
abbrev pub ok_by : Asked → (ℕ → ℕ) → ℕ → Bool
ok_by ask dist k = admitted ask (dist k) k

-- its key
abbrev pub key_by : Asked → (ℕ → ℕ) → ℕ → ℕ
key_by ask dist k = key_at (rank_at ask.order (dist k)) k

-- the room has the keys of the claims of l, which were measured, and no other before the end
pub record Holding (ask : Asked) (dist : ℕ → ℕ) (room l : List ℕ) : Type 0 where
  pub keys : (i : ℕ) → i < length l → get_or room i 0 ≡ key_by ask dist (get_or l i 0)
  pub ends : (i : ℕ) → length l ≤ i → i < ask.sought.size → get_or room i 0 ≡ ask.end
  pub near : (i : ℕ) → i < length l → dist (get_or l i 0) ≤ most_distance
  pub rising : RisingClaims (ranks ask.order dist) (ok_by ask dist) ask.sought.snapshot ask.sought.size zero l

-- a walk over the claims of C that had kept l left the room so
pub record WalkLeft (ask : Asked) (dist : ℕ → ℕ) (C : ℕ → Type 0) (l room : List ℕ) : Type 0 where
  pub kept : List ℕ
  pub holds : Holding ask dist room kept
  pub is : Kept (ranks ask.order dist) (ok_by ask dist) ask.sought.snapshot ask.sought.size C l kept

-- a walk over the claims of C took the room from o to o'
abbrev pub Walked : Asked → (ℕ → ℕ) → (ℕ → Type 0) → List ℕ → List ℕ → Type 0
Walked ask dist C o o' = (l : List ℕ) → Holding ask dist o l → WalkLeft ask dist C l o'

-- ---- a key put in its place

-- the first n keys of o from p on moved up by one; the last falls out
pub record Shifted (p n : ℕ) (o o' : List ℕ) : Type 0 where
  pub long : length o' ≡ length o
  pub front : (i : ℕ) → i ≤ p → get_or o' i 0 ≡ get_or o i 0
  pub behind : (i : ℕ) → p < i → i < n → get_or o' i 0 ≡ get_or o (i - 1) 0

-- key y was put among the first n keys: in its place, or it is there already, or it is not before the last
pub data Pushed (n y : ℕ) (o o' : List ℕ) : Type 0 where
  put : (p : ℕ) → length o' ≡ length o → p < n → (0 < p → get_or o (p - 1) 0 < y) → y < get_or o p 0 → ((i : ℕ) → i < p → get_or o' i 0 ≡ get_or o i 0) → get_or o' p 0 ≡ y
      → ((i : ℕ) → p < i → i < n → get_or o' i 0 ≡ get_or o (i - 1) 0) → Pushed n y o o'
  held : (p : ℕ) → p < n → get_or o p 0 ≡ y → o' ≡ o → Pushed n y o o'
  late : get_or o (n - 1) 0 ≤ y → o' ≡ o → Pushed n y o o'

-- the step of claim k, at key y: below the snapshot and not before the first key wanted it is put
pub record KeepIs (sought : Sought) (k y : ℕ) (o o' : List ℕ) : Type 0 where
  pub put : (ltb k sought.snapshot && leb sought.low y) ≡ true → Pushed sought.size y o o'
  pub left : (ltb k sought.snapshot && leb sought.low y) ≡ false → o' ≡ o
