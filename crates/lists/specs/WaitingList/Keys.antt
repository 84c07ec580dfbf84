-- Keys in order. No public clause cites this module.
use Rattle.std.specs.List.{AllByRecursion, remove}
use Rattle.std.specs.Prelude.{Bool, Err, List, Ok, Result, [], false, if◌then◌else◌, length, nat_lt, slice_index_or, suc, true, ℕ, ◌&&◌, ◌<◌, ◌==◌}
use Rattle.std.specs.Prelude.{◌∷◌, ◌≡◌, ◌≤◌}
use Rattle.lists.specs.declared.waiting_list.keys.Key.{Key}

-- it is key k
abbrev pub is_key : Key → Key → Bool
is_key k l = l.what == k.what && (l.prio == k.prio && l.arrival == k.arrival)

-- it is a key of n
abbrev pub is_of : ℕ → Key → Bool
is_of n k = k.what == n

-- by two numbers, and where they are the same by what else is known
abbrev pub by_numbers : ℕ → ℕ → Bool → Bool
by_numbers m n rest = if m == n then rest else nat_lt m n

-- k stands before l: by what they are of, by falling priority, by arrival
abbrev pub is_before : Key → Key → Bool
is_before k l = by_numbers k.what l.what (by_numbers l.prio k.prio (nat_lt k.arrival l.arrival))

-- no key stands before an earlier one
abbrev pub IsSorted : List Key → Type 0
IsSorted [] = Unit {0}
IsSorted (k ∷ ks) = AllByRecursion (λ l. is_before l k ≡ false) ks × IsSorted ks

-- the keys before this place stand before k, and no others do
pub record IsPlace (k : Key) (ks : List Key) (i : ℕ) : Type 0 where
  pub within : i ≤ length ks
  pub before : (j : ℕ) (d : Key) → j < i → is_before (slice_index_or ks j d) k ≡ true
  pub after : (j : ℕ) (d : Key) → i ≤ j → j < length ks → is_before (slice_index_or ks j d) k ≡ false

-- k stands there
pub record StandsAt (k : Key) (ks : List Key) (i : ℕ) : Type 0 where
  pub within : i < length ks
  pub here : slice_index_or ks i k ≡ k

-- the keys before this place are of less than n, and no others are
pub record IsStart (n : ℕ) (ks : List Key) (i : ℕ) : Type 0 where
  pub within : i ≤ length ks
  pub before : (j : ℕ) (d : Key) → j < i → (slice_index_or ks j d).what < n
  pub after : (j : ℕ) (d : Key) → i ≤ j → j < length ks → n ≤ (slice_index_or ks j d).what

-- the keys before this place are of n at most, and no others are
pub record IsEnd (n : ℕ) (ks : List Key) (i : ℕ) : Type 0 where
  pub within : i ≤ length ks
  pub before : (j : ℕ) (d : Key) → j < i → (slice_index_or ks j d).what ≤ n
  pub after : (j : ℕ) (d : Key) → i ≤ j → j < length ks → n < (slice_index_or ks j d).what

-- k doesn't stand before the key before this place, if there is one
abbrev pub IsBehind : Key → List Key → ℕ → Type 0
IsBehind k ks i = (j : ℕ) (d : Key) → suc j ≡ i → is_before k (slice_index_or ks j d) ≡ false

-- the key after this place, if there is one, doesn't stand before k
abbrev pub IsAhead : Key → List Key → ℕ → Type 0
IsAhead k ks i = (d : Key) → suc i < length ks → is_before (slice_index_or ks (suc i) d) k ≡ false

-- k stands before the key before this place
pub record GoesForward (k : Key) (ks : List Key) (i : ℕ) : Type 0 where
  pub some : 0 < i
  pub before : (j : ℕ) (d : Key) → suc j ≡ i → is_before k (slice_index_or ks j d) ≡ true

-- the key after this place stands before k
pub record GoesBack (k : Key) (ks : List Key) (i : ℕ) : Type 0 where
  pub some : suc i < length ks
  pub before : (d : Key) → is_before (slice_index_or ks (suc i) d) k ≡ true

-- k may stand there, between its neighbours
pub record IsFit (k : Key) (ks : List Key) (i : ℕ) : Type 0 where
  pub behind : IsBehind k ks i
  pub ahead : IsAhead k ks i

-- the place to which a walk came, whether it ended there or not
abbrev pub place_in : Result ℕ ℕ → ℕ
place_in (Ok i) = i
place_in (Err i) = i

-- a place went from here to there, and all others are as before
pub record Walked (old : List Key) (from : ℕ) (new : List Key) (to : ℕ) : Type 0 where
  pub within : to < length new
  pub rest : remove new to ≡ remove old from
  pub len : length new ≡ length old
