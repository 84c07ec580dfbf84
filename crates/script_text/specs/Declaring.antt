-- Lines that declare a procedure, wherever they stand, and whatever else they say.
use Rattle.std.specs.Prelude.{ℕ, List, [], length, take, nat_lt, if◌then◌else◌, codes}
use Rattle.script_lines.specs.Words.{behind, is_name, reach}

-- the word if it is a name, and else the empty one
abbrev pub only_name : List ℕ → List ℕ
only_name w = if is_name w then w else []

-- the first word, if a space follows it
abbrev pub spaced_word : List ℕ → List ℕ
spaced_word w = if nat_lt (reach 32 w) (length w) then take (reach 32 w) w else []

-- the procedure of statements that the line declares: all that follows `proc `; the empty word, if it declares none
abbrev pub proc_on : List ℕ → List ℕ
proc_on line = only_name (behind (codes "proc ") line)

-- the built-in procedure that the line declares: the word after `native `, if a space follows
abbrev pub native_on : List ℕ → List ℕ
native_on line = only_name (spaced_word (behind (codes "native ") line))
