-- Slots for the answers, one for each part, while some are empty.
use Rattle.std.specs.Prelude.{List, None, Option, Some, Vec, [], ℕ, ◌∷◌, ◌≡◌}

-- an answer in a slot is the one that is wanted there
abbrev pub IsRight : {A : Type 0} → List ℕ → Option (Vec ℕ A) → Type 0
IsRight wanted None = Unit {0}
IsRight wanted (Some answer) = answer.items ≡ wanted

-- each answer is the one that is wanted in its slot, and there are as many slots as are wanted
abbrev pub Fit : {A : Type 0} → List (List ℕ) → List (Option (Vec ℕ A)) → Type 0
Fit [] [] = Unit {0}
Fit [] (slot ∷ slots) = ⊥
Fit (wanted ∷ all) [] = ⊥
Fit (wanted ∷ all) (slot ∷ slots) = IsRight wanted slot × Fit all slots
