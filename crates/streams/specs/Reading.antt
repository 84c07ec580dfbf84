-- How far a source has been read.
use Rattle.std.specs.Prelude.{List, None, Option, Some, [], ℕ, ◌++◌, ◌≡◌}

-- what was read and what is left are what there was
abbrev pub ReadSoFar : Option (List ℕ) → Option (List ℕ) → List ℕ → Type 0
ReadSoFar None left bytes = left ≡ None
ReadSoFar (Some told) left bytes = (rest : List ℕ) × (left ≡ Some rest) × (told ≡ bytes ++ rest)

-- some bytes were taken from its front, or all, or none
abbrev pub IsReadPart : Option (List ℕ) → Option (List ℕ) → Type 0
IsReadPart old new = (bytes : List ℕ) × ReadSoFar old new bytes

-- these bytes were read, and they are all that there were; where nothing is told, some bytes
abbrev pub HasRead : Option (List ℕ) → Option (List ℕ) → List ℕ → Type 0
HasRead None new text = new ≡ None
HasRead (Some told) new text = (told ≡ text) × (new ≡ Some [])
