-- The order of paths: the shorter first, and of two as long that with the lower step where they first differ.
use Rattle.std.specs.Prelude.{List, [], length, ℕ, ◌<◌, ◌∷◌, ◌≡◌}
use Rattle.std.proofs.Common.{◌⊎◌}

-- where two paths first differ, the step of this one is lower
abbrev pub IsLower : List ℕ → List ℕ → Type 0
IsLower [] others = ⊥
IsLower (s ∷ ss) [] = ⊥
IsLower (s ∷ ss) (t ∷ ts) = (s < t) ⊎ ((s ≡ t) × IsLower ss ts)

-- a path comes before another
abbrev pub IsBefore : List ℕ → List ℕ → Type 0
IsBefore path other = (length path < length other) ⊎ ((length path ≡ length other) × IsLower path other)
