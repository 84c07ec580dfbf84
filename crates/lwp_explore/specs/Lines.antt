-- Lines of a trace.
use Rattle.std.specs.Prelude.{Bool, List, [], bytes_eq, false, if◌then◌else◌, ℕ, ◌++◌, ◌==◌, ◌∷◌, ◌||◌}

-- one of the lines of a text is this one, where these bytes of the first line come before it; each line ends with a newline
abbrev pub has_line_by : List ℕ → List ℕ → List ℕ → Bool
has_line_by held [] line = false
has_line_by held (b ∷ bytes) line = if b == 10 then bytes_eq held line || has_line_by [] bytes line else has_line_by (held ++ b ∷ []) bytes line

-- one of the lines of a text is this one
abbrev pub has_line : List ℕ → List ℕ → Bool
has_line text line = has_line_by [] text line
