-- Keys of the entries of a list, and where one of them comes next.
use Rattle.std.specs.Prelude.{List, MatchOption, None, Option, Some, [], false, if◌then◌else◌, length}
use Rattle.std.specs.Prelude.{nat_lt, slice_index_or, ℕ, ◌*◌, ◌+◌, ◌-◌, ◌<◌, ◌==◌, ◌∷◌, ◌≡◌, ◌≤◌}
use Rattle.std.specs.List.{Contains}
use Rattle.std.specs.List.Sorted.{IsNonDecreasing}

-- the key at a place
abbrev pub key_at : List ℕ → ℕ → ℕ
key_at keys i = slice_index_or keys i 0

-- the key is at none of these places
abbrev pub IsAbsent : List ℕ → ℕ → ℕ → ℕ → Type 0
IsAbsent keys key from to = (j : ℕ) → from ≤ j → j < to → (key_at keys j == key) ≡ false

-- this is the first place of the key that is not before `from`
pub record IsPlace (keys : List ℕ) (key from i : ℕ) : Type 0 where
  pub least : from ≤ i
  pub within : i < length keys
  pub here : key_at keys i ≡ key
  pub absent : IsAbsent keys key from i

-- the place where the key comes next, if it does
abbrev pub IsNext : List ℕ → ℕ → ℕ → Option ℕ → Type 0
IsNext keys key from next = MatchOption next (IsAbsent keys key from (length keys)) (IsPlace keys key from)

-- a key and a place, as one number
abbrev pub code : ℕ → ℕ → ℕ
code key place = key * 18446744073709551616 + place

-- the place in such a number, if it is one of this key or a lesser one
abbrev pub place_under : ℕ → ℕ → Option ℕ
place_under key c = let place = c - key * 18446744073709551616 in
    if nat_lt place 18446744073709551616 then Some place else None

-- the keys with their places, counted from n
abbrev pub codes_from : ℕ → List ℕ → List ℕ
codes_from n [] = []
codes_from n (k ∷ ks) = code k n ∷ codes_from (n + 1) ks

-- this is the number of some key and its place
pub record IsCode (keys : List ℕ) (c : ℕ) : Type 0 where
  pub place : ℕ
  pub within : place < length keys
  pub is : c ≡ code (key_at keys place) place

-- the numbers of all keys and their places, by size
pub record AreCodes (keys codes : List ℕ) : Type 0 where
  pub few : length keys ≤ 18446744073709551616
  pub rise : IsNonDecreasing codes
  pub each : (i : ℕ) → i < length keys → Contains codes (code (key_at keys i) i)
  pub only : (c : ℕ) → Contains codes c → IsCode keys c
