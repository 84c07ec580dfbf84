-- What the lines above a bad one say of it, and what was told of them.
use Rattle.std.specs.Prelude.{ℕ, Bool, true, false, ◌&&◌, ◌||◌, ◌-◌, ◌==◌, List, [], ◌∷◌, length, take, Option, Some, None, if◌then◌else◌}
use Rattle.std.specs.List.{list_any}
use Rattle.std.specs.Str.{bytes_eq}
use denote.Enum.Bare.{sameb}
use Rattle.script_lines.specs.contracts.table.Op.{the_type as op_type}
use Rattle.script_lines.specs.declared.table.Op.TheVariants as op
use Rattle.script_lines.specs.Phrase.{Phrase}
use Rattle.script_lines.specs.Reading.{phrase_at}
use Rattle.script_text.specs.declared.reader.Declared.{Declared}
use Rattle.script_text.specs.declared.reason.Reason.{Reason}
use Rattle.script_text.specs.declared.reason.Reason.TheVariants as reason
use Rattle.script_text.specs.Declaring.{native_on, proc_on}
use Rattle.script_text.specs.Meaning.{enter}
use Rattle.script_advice.specs.Faults.{from_unprintable}
use Rattle.script_advice.specs.Remarks.{starts_nothing}
use Rattle.script_advice.specs.declared.told.Told.{Told}

-- ---- What they declare.

-- the line declares this procedure
abbrev pub declares_procedure : List ℕ → List ℕ → Bool
declares_procedure w line = bytes_eq (proc_on line) w || bytes_eq (native_on line) w

-- the line declares the client with this number
abbrev pub declares_client : ℕ → Option Phrase → Bool
declares_client c None = false
declares_client c (Some p) = sameb op_type p.op op.Client && p.client == c

-- a line declares the procedure that one bad for this reason declares again, or the client that it posts for
abbrev pub declares_same : Reason → Phrase → List ℕ → Bool
declares_same reason.Proc p line = declares_procedure p.procedure line
declares_same reason.Native p line = declares_procedure p.procedure line
declares_same reason.Post p line = declares_client p.client (phrase_at line)
declares_same _ p line = false

-- one of these lines does
abbrev pub any_declares : Reason → List (List ℕ) → Option Phrase → Bool
any_declares r lines None = false
any_declares r lines (Some p) = list_any (λ line. declares_same r p line) lines

-- ---- Lines that end with a carriage return.

-- the one byte of the line that isn't printable is a carriage return at its end
abbrev pub is_returned : List ℕ → Bool
is_returned line = bytes_eq (from_unprintable line) (13 ∷ [])

-- the line without that
abbrev pub without_return : List ℕ → List ℕ
without_return line = if is_returned line then take (length line - 1) line else line

-- ---- What was told.

-- nothing yet
unfoldable pub untold : Told
untold = record { returned = false; undeclared = [] }

-- the undeclared procedures that were told, and the one of a line that was told for this reason
abbrev pub names_after : Declared → List (List ℕ) → Reason → Option Phrase → List (List ℕ)
names_after d names r None = names
names_after d names r (Some p) = if starts_nothing d r p then enter names p.procedure else names

-- what was told, and a line for this reason
unfoldable pub told_with : Declared → Told → Reason → List ℕ → Told
told_with d told r line = record {
  returned = told.returned || is_returned line;
  undeclared = names_after d told.undeclared r (phrase_at line);
}

-- what was told, and a line with a reason or none
abbrev pub told_after : Declared → Told → List ℕ → Option Reason → Told
told_after d told line None = told
told_after d told line (Some r) = told_with d told r line

-- A line as it is told: where a carriage return was told that ends a line, it ends without one.
abbrev pub as_told : Told → List ℕ → List ℕ
as_told told line = if told.returned then without_return line else line
