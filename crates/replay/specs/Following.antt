-- What is seen of the recorded bytes while they are followed.
use Rattle.std.specs.Prelude.{List, [], length, take, ℕ, ◌++◌, ◌∷◌, ◌≡◌, ◌⊎◌}

-- what was recorded, how far it was told, of how many lines that is, how often the clock has ticked by then, and what a
-- step has told since
pub record Following : Type 0 where
  pub recorded : List ℕ
  pub at : ℕ
  pub lines : ℕ
  pub ticks : ℕ
  pub step : List ℕ
  pub faults : ℕ

-- what no write changes
abbrev pub front_of : Following → List ℕ
front_of f = length f.recorded ∷ f.at ∷ f.lines ∷ f.ticks ∷ f.recorded

-- that, and then all that was told; so a write that adds to it is known to leave the front as it was
abbrev pub bytes_told : Following → List ℕ
bytes_told f = front_of f ++ (take f.at f.recorded ++ f.step)

-- what was recorded doesn't begin with these bytes
abbrev pub Departs : List ℕ → List ℕ → Type 0
Departs recorded bytes = take (length bytes) recorded ≡ bytes → ⊥

-- there are none, or else they aren't what was recorded
abbrev pub IsUnlike : List ℕ → List ℕ → Type 0
IsUnlike recorded bytes = (bytes ≡ []) ⊎ Departs recorded bytes
