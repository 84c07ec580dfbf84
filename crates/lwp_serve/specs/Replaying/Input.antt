-- The input of a replay: a line `replay N`, a script of N bytes, and then what was recorded.
use Rattle.batch.specs.Parts.{line_length, part_after}
use Rattle.batch.specs.declared.part.Part.{Part}
use Rattle.script_lines.specs.Words.{number_at}
use Rattle.std.specs.Prelude.{List, None, Option, Some, bytes_eq, codes, drop, if◌then◌else◌, length, nat_le, nat_lt, take, ℕ}

-- how many bytes a script has, by the number that a word writes, if it writes one: no more than a script may have
abbrev pub size_by : Option ℕ → Option ℕ
size_by None = None
size_by (Some n) = if nat_le n 16777216 then Some n else None

-- how many bytes a line says that the script after it has: `replay N`
abbrev pub length_told : List ℕ → Option ℕ
length_told line = if bytes_eq (take 7 line) (codes "replay ") then size_by (number_at (drop 7 line)) else None

-- where the script lies, if the first line says so, ends, and has so many bytes after it
abbrev pub script_after_line : List ℕ → Option Part
script_after_line text = part_after 0 (line_length text) (length_told (take (line_length text) text)) (length text)

-- where the script of an input lies, which may have 268,435,456 bytes
abbrev pub script_in : List ℕ → Option Part
script_in text = if nat_lt 268435456 (length text) then None else script_after_line text

-- what was recorded comes after the script, to the end
abbrev pub recorded_in : List ℕ → Part → List ℕ
recorded_in text part = drop part.to text
