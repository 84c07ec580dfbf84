-- The name of a file at the end of a program's words.
use Rattle.std.specs.Char.{is_ascii_digit}
use Rattle.std.specs.List.{list_all}
use Rattle.std.specs.Prelude.{Bool, List, [], ◌∷◌, ◌&&◌, ◌-◌, ◌==◌, false, get_or, length, nat_lt, not, ℕ}

-- a word of digits alone
abbrev pub is_number : List ℕ → Bool
is_number word = list_all is_ascii_digit word

-- a word that names a file: not empty, no option, and no number
abbrev pub is_file_name : List ℕ → Bool
is_file_name [] = false
is_file_name (c ∷ cs) = not (c == 45) && not (is_number (c ∷ cs))

-- the last of these words, if it comes after the first so many, names a file
abbrev pub has_file : ℕ → List (List ℕ) → Bool
has_file before words = nat_lt before (length words) && is_file_name (get_or words (length words - 1) [])
