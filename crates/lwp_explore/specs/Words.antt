-- What the program's words ask for.
use Rattle.lwp_explore.specs.declared.words.Command.{Command}
use Rattle.lwp_explore.specs.declared.words.Command.TheVariants as command
use Rattle.script_lines.specs.Words.{number_at}
use Rattle.std.specs.Prelude.{Bool, List, None, Option, Some, [], bytes_eq, codes, if◌then◌else◌, nat_le, ℕ, ◌&&◌, ◌∷◌, ◌≤◌}

abbrev pub is_ends : List ℕ → Bool
is_ends word = bytes_eq word (codes "ends")

abbrev pub is_trace : List ℕ → Bool
is_trace word = bytes_eq word (codes "trace")

abbrev pub is_line : List ℕ → Bool
is_line word = bytes_eq word (codes "line")

-- how many cores are kept, where nobody says so
abbrev pub cores_unsaid : ℕ
cores_unsaid = 100000

-- how many are, by the number that a word writes, if it writes one
abbrev pub cores_by : Option ℕ → Option ℕ
cores_by None = None
cores_by (Some n) = if nat_le 1 n && nat_le n 1000000 then Some n else None

-- the number of a kind, likewise
abbrev pub kind_by : Option ℕ → Option ℕ
kind_by None = None
kind_by (Some n) = if nat_le 1 n then Some n else None

-- the ends, with so many cores
abbrev pub ends_by : Option ℕ → Option Command
ends_by None = None
ends_by (Some cores) = Some (command.Ends cores)

-- the trace of a kind
abbrev pub trace_by : Option ℕ → Option ℕ → Option Command
trace_by None cores = None
trace_by (Some kind) None = None
trace_by (Some kind) (Some cores) = Some (command.Trace kind cores)

-- a line, which is the second word
abbrev pub line_by : Option ℕ → Option Command
line_by None = None
line_by (Some cores) = Some (command.Line cores)

-- the command of these words, if they are one
abbrev pub command_of : List (List ℕ) → Option Command
command_of [] = None
command_of (word ∷ []) = if is_ends word then ends_by (Some cores_unsaid) else None
command_of (word ∷ second ∷ []) = if is_ends word then ends_by (cores_by (number_at second))
    else if is_trace word then trace_by (kind_by (number_at second)) (Some cores_unsaid)
    else if is_line word then line_by (Some cores_unsaid)
    else None
command_of (word ∷ second ∷ third ∷ []) = if is_trace word then trace_by (kind_by (number_at second)) (cores_by (number_at third))
    else if is_line word then line_by (cores_by (number_at third))
    else None
command_of (word ∷ second ∷ third ∷ other ∷ words) = None

-- what it asks for may be had
abbrev pub MayBe : Command → Type 0
MayBe (command.Ends cores) = (1 ≤ cores) × (cores ≤ 1000000)
MayBe (command.Trace kind cores) = (1 ≤ kind) × (1 ≤ cores) × (cores ≤ 1000000)
MayBe (command.Line cores) = (1 ≤ cores) × (cores ≤ 1000000)
