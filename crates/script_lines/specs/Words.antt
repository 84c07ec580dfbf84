-- The words of a line: where one ends, which are names, and what number one writes.
use Rattle.std.specs.Prelude.{ℕ, ◌+◌, ◌-◌, ◌*◌, ◌^◌, suc, Bool, true, false, not, ◌&&◌, ◌||◌, List, [], ◌∷◌}
use Rattle.std.specs.Prelude.{length, ◌==◌, nat_lt, nat_le, if◌then◌else◌, Option, Some, None, codes}
use Rattle.std.specs.List.{list_all}
use Rattle.std.specs.Str.{bytes_eq, all_ascii_digits}
use Rattle.std.specs.Char.{is_ascii_digit}

-- how many bytes come before the first that is `c`: all, where none is
abbrev pub reach : ℕ → List ℕ → ℕ
reach c [] = 0
reach c (b ∷ bs) = if b == c then 0 else suc (reach c bs)

-- the bytes after these, if it begins with them
abbrev pub behind : List ℕ → List ℕ → List ℕ
behind [] line = line
behind (b ∷ bs) [] = []
behind (b ∷ bs) (c ∷ cs) = if b == c then behind bs cs else []

-- a letter from `a` to `z`
abbrev pub is_lowercase : ℕ → Bool
is_lowercase b = nat_le 97 b && nat_le b 122

-- a letter, a digit or `_`
abbrev pub is_name_byte : ℕ → Bool
is_name_byte b = is_lowercase b || is_ascii_digit b || b == 95

-- the words that mean a thread, or any, without naming one
abbrev pub is_reserved : List ℕ → Bool
is_reserved w = bytes_eq w (codes "self") || bytes_eq w (codes "first")
    || bytes_eq w (codes "sender") || bytes_eq w (codes "none") || bytes_eq w (codes "any")

-- 1 to 16 bytes, a letter first, and not reserved
abbrev pub is_name : List ℕ → Bool
is_name [] = false
is_name (b ∷ bs) = is_lowercase b && list_all is_name_byte bs && nat_lt (length bs) 16 && not (is_reserved (b ∷ bs))

-- the value of digits that follow a number
abbrev pub value_after : ℕ → List ℕ → ℕ
value_after n [] = n
value_after n (d ∷ ds) = value_after (10 * n + (d - 48)) ds

-- the value of digits, where it fits 32 bits
abbrev pub value_of : List ℕ → Option ℕ
value_of ds = if all_ascii_digits ds && nat_lt (value_after 0 ds) (2 ^ 32) then Some (value_after 0 ds) else None

-- no digit at all, or a zero that could be left out
abbrev pub is_misshapen : List ℕ → Bool
is_misshapen [] = true
is_misshapen (d ∷ []) = false
is_misshapen (d ∷ e ∷ ds) = d == 48

-- the number that a word writes in decimal
abbrev pub number_at : List ℕ → Option ℕ
number_at w = if is_misshapen w then None else value_of w
