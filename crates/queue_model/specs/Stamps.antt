-- Times as texts, and back.
use Rattle.std.specs.List.{fold}
use Rattle.std.specs.Prelude.{List, codes, decimal, if◌then◌else◌, nat_le, ℕ, ◌%◌, ◌&&◌, ◌*◌, ◌++◌, ◌+◌, ◌-◌, ◌^◌}

-- the text of a time
abbrev pub stamp : ℕ → List ℕ
stamp time = codes "t" ++ decimal time

-- what a digit stands for; any other byte for nothing
abbrev pub digit_of : ℕ → ℕ
digit_of byte = if nat_le 48 byte && nat_le byte 57 then byte - 48 else 0

-- one byte more was read of a number, which stays a u64
abbrev pub after_byte : ℕ → ℕ → ℕ
after_byte time byte = (time * 10 % 2 ^ 64 + digit_of byte) % 2 ^ 64

-- the time of which a text tells
abbrev pub time_of : List ℕ → ℕ
time_of text = fold after_byte 0 text
