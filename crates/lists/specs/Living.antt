-- What a list of places has, of which some are empty.
use Rattle.std.specs.Prelude.{List, None, Option, Some, [], ◌∷◌}

-- what the places have, from the first on
abbrev pub living : {A : Type 0} → List (Option A) → List A
living [] = []
living (None ∷ places) = living places
living (Some x ∷ places) = x ∷ living places
