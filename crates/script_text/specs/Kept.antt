-- What is kept of a line before its end comes.
use Rattle.std.specs.Prelude.{ℕ, Bool, List, [], ◌∷◌, ◌++◌, take, drop, if◌then◌else◌}
use Rattle.lwp_types.specs.TextFields.{is_printable}

-- a byte that isn't printable, unless all bytes are
abbrev pub bad_mark : Bool → List ℕ
bad_mark clear = if clear then [] else 0 ∷ []

-- its first 1,024 bytes, which are more than any good line has, and a byte that isn't printable, if one follows
-- them
unfoldable pub kept_bytes : List ℕ → List ℕ
kept_bytes line = take 1024 line ++ bad_mark (is_printable (drop 1024 line))
