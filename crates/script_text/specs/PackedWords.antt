-- Short words as numbers. No public clause of another crate cites this module.
use Rattle.std.specs.List.{list_all}
use Rattle.std.specs.Prelude.{Bool, List, None, Option, Some, [], if◌then◌else◌, length, nat_le, nat_lt, ℕ, ◌&&◌, ◌*◌, ◌+◌, ◌∷◌}

-- the number with these digits, the first of them the least
abbrev pub of_digits : List ℕ → ℕ
of_digits [] = 0
of_digits (b ∷ bs) = b + 256 * of_digits bs

-- a digit that may stand anywhere, also last
abbrev pub is_digit : ℕ → Bool
is_digit b = nat_lt 0 b && nat_lt b 256

-- all are
abbrev pub is_full : List ℕ → Bool
is_full word = list_all is_digit word

-- the word's number, if it is short enough
abbrev pub word_number : List ℕ → Option ℕ
word_number word = if nat_le (length word) 16 && is_full word then Some (of_digits word) else None
