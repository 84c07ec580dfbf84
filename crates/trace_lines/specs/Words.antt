-- Words and numbers in a line.
use Rattle.std.specs.Char.{is_ascii_digit}
use Rattle.std.specs.Prelude.{Bool, List, None, Option, Some, [], bytes_eq, drop, false, if◌then◌else◌, length}
use Rattle.std.specs.Prelude.{nat_lt, suc, take, true, ℕ, ◌*◌, ◌+◌, ◌-◌, ◌==◌, ◌^◌, ◌&&◌, ◌∷◌}

-- whether these bytes stand in front
abbrev pub starts : List ℕ → List ℕ → Bool
starts [] line = true
starts (p ∷ ps) [] = false
starts (p ∷ ps) (b ∷ bs) = (p == b) && starts ps bs

-- whether these bytes stand at the end
abbrev pub ends : List ℕ → List ℕ → Bool
ends w line = bytes_eq (drop (length line - length w) line) w

-- how many bytes come before the first that is `c`: all, where none is
abbrev pub reach : ℕ → List ℕ → ℕ
reach c [] = 0
reach c (b ∷ bs) = if b == c then 0 else suc (reach c bs)

-- the first word
abbrev pub word : List ℕ → List ℕ
word line = take (reach 32 line) line

-- what follows the first word and a space
abbrev pub rest : List ℕ → List ℕ
rest line = drop (suc (reach 32 line)) line

-- how many digits stand in front
abbrev pub digits : List ℕ → ℕ
digits [] = 0
digits (b ∷ bs) = if is_ascii_digit b then suc (digits bs) else 0

-- the value of digits that follow a number
abbrev pub value_after : ℕ → List ℕ → ℕ
value_after n [] = n
value_after n (d ∷ ds) = value_after (10 * n + (d - 48)) ds

-- the value of digits, where it fits 64 bits
abbrev pub value_of : List ℕ → Option ℕ
value_of [] = None
value_of (d ∷ ds) = if nat_lt (value_after 0 (d ∷ ds)) (2 ^ 64) then Some (value_after 0 (d ∷ ds)) else None

-- the number in front
abbrev pub number : List ℕ → Option ℕ
number line = value_of (take (digits line) line)

-- what follows the number in front
abbrev pub behind : List ℕ → List ℕ
behind line = drop (digits line) line

-- the number that a word writes, if it writes one and nothing else
abbrev pub whole_number : List ℕ → Option ℕ
whole_number w = if digits w == length w then number w else None
