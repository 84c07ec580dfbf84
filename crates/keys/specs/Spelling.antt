-- Numbers as bytes. Of each number 7 bits are in a byte, the least first, and every byte but the last is 128 or more.
use Rattle.std.specs.Prelude.{List, [], if◌then◌else◌, nat_lt, suc, zero, ℕ, ◌%◌, ◌*◌, ◌+◌, ◌-◌, ◌/◌, ◌∷◌}
use Rattle.std.specs.List.{flat_map}

-- the bytes of a number, in no more than `most` bytes and one
abbrev pub bytes_within : ℕ → ℕ → List ℕ
bytes_within zero n = n ∷ []
bytes_within (suc most) n = if nat_lt n 128 then n ∷ [] else (128 + n % 128) ∷ bytes_within most (n / 128)

-- the bytes of a number
unfoldable pub number_bytes : ℕ → List ℕ
number_bytes n = bytes_within n n

-- the bytes of some numbers, one after another
abbrev pub spelt : List ℕ → List ℕ
spelt ns = flat_map number_bytes ns

-- a number that goes on after its first 7 bits
abbrev pub with_low : ℕ → List ℕ → List ℕ
with_low low [] = []
with_low low (high ∷ ns) = (low + 128 * high) ∷ ns

-- the numbers that bytes spell
unfoldable pub numbers_in : List ℕ → List ℕ
numbers_in [] = []
numbers_in (b ∷ bytes) = if nat_lt b 128 then b ∷ numbers_in bytes else with_low (b - 128) (numbers_in bytes)
