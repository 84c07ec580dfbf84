-- The keys that were seen, each with its number.
use Rattle.std.specs.Map.{lookup, update}
use Rattle.std.specs.Prelude.{List, Option, Some, Vec, map, ℕ, ◌≡◌}
use Rattle.std.specs.Str.{bytes_eq}

-- the number of a key, if it was seen
abbrev pub number_of : List (List ℕ × ℕ) → List ℕ → Option ℕ
number_of seen key = lookup (bytes_eq key) seen

-- this key was seen too, with this number, and no other
abbrev pub Adds : List (List ℕ × ℕ) → List (List ℕ × ℕ) → List ℕ → ℕ → Type 0
Adds old new key number = (k : List ℕ) → number_of new k ≡ update bytes_eq (number_of old) key (Some number) k

-- entries whose keys are read as lists
abbrev pub entries_by_key : {A : Type 0} → List (Vec ℕ A × ℕ) → List (List ℕ × ℕ)
entries_by_key entries = map (λ e. (e.0.items, e.1)) entries
