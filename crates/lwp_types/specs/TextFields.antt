-- What a text may hold, and what it is made of.
use Rattle.std.specs.Prelude.{ℕ, ◌≤◌, Bool, ◌&&◌, nat_le, List, ◌++◌, codes, length, take}
use Rattle.lwp_types.specs.declared.words.Words.{Words}
use Rattle.lwp_types.specs.declared.words.Words.TheVariants as words
use Rattle.std.specs.List.{list_all}

-- each byte is one from a space to a tilde
abbrev pub is_printable : List ℕ → Bool
is_printable bytes = list_all (λ b. nat_le 32 b && nat_le b 126) bytes

-- at most 240 printable bytes
abbrev pub is_text : List ℕ → Bool
is_text bytes = nat_le (length bytes) 240 && is_printable bytes

-- the bytes of what a text is made of
abbrev pub words_bytes : Words → List ℕ
words_bytes (words.Lent bytes) = bytes.now
words_bytes (words.Is value) = codes "is " ++ value.now
words_bytes (words.Thread digits) = codes "t" ++ take digits.len digits.bytes

-- no more digits than there is room for
abbrev pub AreFew : Words → Type 0
AreFew (words.Lent bytes) = Unit {0}
AreFew (words.Is value) = Unit {0}
AreFew (words.Thread digits) = digits.len ≤ 20
