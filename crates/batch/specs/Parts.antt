-- The parts of a text: each comes after a line that says how many bytes it has.
use Rattle.batch.specs.declared.part.Part.{Part}
use Rattle.std.specs.Prelude.{Bool, Err, List, None, Ok, Option, Result, Some, [], bytes_eq, codes, drop, false, if◌then◌else◌, length, nat_le}
use Rattle.std.specs.Prelude.{nat_lt, suc, take, true, zero, ℕ, ◌&&◌, ◌*◌, ◌+◌, ◌-◌, ◌==◌, ◌∷◌, ◌≤◌}
use Rattle.std.specs.Str.{all_ascii_digits}

-- ---- the line of a part

-- how many bytes come before the first newline: all, where there is none
abbrev pub line_length : List ℕ → ℕ
line_length [] = 0
line_length (b ∷ bs) = if b == 10 then 0 else suc (line_length bs)

-- the value of digits that come after a number
abbrev pub value_from : ℕ → List ℕ → ℕ
value_from n [] = n
value_from n (d ∷ ds) = value_from (10 * n + (d - 48)) ds

-- no digit at all, or a zero that could be left out
abbrev pub is_misshapen : List ℕ → Bool
is_misshapen [] = true
is_misshapen (d ∷ []) = false
is_misshapen (d ∷ e ∷ ds) = d == 48

-- the value of digits, up to what a part may have
abbrev pub value_at_most : List ℕ → Option ℕ
value_at_most ds = if all_ascii_digits ds && nat_le (value_from 0 ds) 16777216 then Some (value_from 0 ds) else None

-- how many bytes a word says that a part has, in decimal
abbrev pub size_of : List ℕ → Option ℕ
size_of word = if is_misshapen word then None else value_at_most word

-- how many bytes a line says that the part after it has: `script N`
abbrev pub length_told : List ℕ → Option ℕ
length_told line = if bytes_eq (take 7 line) (codes "script ") then size_of (drop 7 line) else None

-- ---- where parts lie

-- the part of so many bytes after a line that begins at a place, if the text, of so many bytes, has them all
abbrev pub part_after : ℕ → ℕ → Option ℕ → ℕ → Option Part
part_after at line None len = None
part_after at line (Some size) len =
    if nat_le (at + line + 1 + size) len then Some (record { from = at + line + 1; to = at + line + 1 + size })
    else None

-- the part whose line begins at a place
abbrev pub part_at : List ℕ → ℕ → Option Part
part_at bytes at =
    let line = line_length (drop at bytes) in
    part_after at line (length_told (take line (drop at bytes))) (length bytes)

-- one more part in front of these, or of a bad one
abbrev pub in_front : Part → Result (List Part) ℕ → Result (List Part) ℕ
in_front part (Ok parts) = Ok (part ∷ parts)
in_front part (Err bad) = Err (suc bad)

-- a part, if there is one, and those after it
abbrev pub part_and_others : Option Part → (Part → Result (List Part) ℕ) → Result (List Part) ℕ
part_and_others None behind = Err 0
part_and_others (Some part) behind = in_front part (behind part)

-- the parts from a place on, of which so many may come; or how many are good before the first bad one
abbrev pub parts_from : ℕ → List ℕ → ℕ → Result (List Part) ℕ
parts_from zero bytes at = if nat_le (length bytes) at then Ok [] else Err 0
parts_from (suc many) bytes at =
    if nat_le (length bytes) at then Ok []
    else part_and_others (part_at bytes at) (λ part. parts_from many bytes part.to)

-- the parts of a text, at most 1,000, or the number of the first bad one; a text may have 33,554,432 bytes
abbrev pub parts_of : List ℕ → Result (List Part) ℕ
parts_of bytes = if nat_lt 33554432 (length bytes) then Err 0 else parts_from 1000 bytes 0

-- ---- what is in them

-- a part lies within the text
abbrev pub LiesIn : List ℕ → Part → Type 0
LiesIn bytes part = (part.from ≤ part.to) × (part.to ≤ length bytes)

-- its bytes
abbrev pub content : List ℕ → Part → List ℕ
content bytes part = take (part.to - part.from) (drop part.from bytes)
