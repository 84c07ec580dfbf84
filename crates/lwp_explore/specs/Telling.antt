-- A sink that keeps the last bytes that were told.
use Rattle.std.specs.Prelude.{List, length, take, ℕ, ◌++◌, ◌-◌, ◌≡◌}

-- all that was told, the bytes of it that are kept, and how often a write failed
pub record Telling : Type 0 where
  pub told : List ℕ
  pub bytes : List ℕ
  pub faults : ℕ

-- these bytes are the last of those
abbrev pub IsEnd : List ℕ → List ℕ → Type 0
IsEnd bytes told = told ≡ take (length told - length bytes) told ++ bytes
