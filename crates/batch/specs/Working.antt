-- What a thread brings back.
use Rattle.batch.specs.declared.working.Done.{Done}
use Rattle.std.specs.Prelude.{List, Some, slice_get, ℕ, ◌<◌, ◌≡◌}

-- it is the answer that is wanted for the part of its number
abbrev pub IsOf : List (List ℕ) → Done → Type 0
IsOf wanted done = slice_get wanted done.number ≡ Some done.answer.items

-- its number is one of so many
abbrev pub IsBelow : ℕ → Done → Type 0
IsBelow count done = done.number < count
