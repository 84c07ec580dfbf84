-- The errors of a text: its first bad line, and the lines after it that are bad by themselves.
use Rattle.std.specs.Prelude.{ℕ, suc, ◌-◌, ◌==◌, List, [], false, ◌||◌, ◌∷◌, ◌++◌, drop, fold, take, Option, Some, None, Result, Ok, Err, if◌then◌else◌}
use Rattle.lwp_types.specs.TextFields.{is_printable}
use Rattle.script_lines.specs.Phrase.{Phrase}
use Rattle.script_lines.specs.Reading.{phrase_at}
use Rattle.script_text.specs.declared.reader.Declared.{Declared}
use Rattle.script_text.specs.declared.reason.Reason.{Reason}
use Rattle.script_text.specs.declared.reason.Reason.TheVariants as reason
use Rattle.script_text.specs.declared.script.Script.{Script}
use Rattle.script_text.specs.declared.stage.Stage.TheVariants as stage
use Rattle.script_text.specs.Grammar.{is_declared, nothing}
use Rattle.script_text.specs.Meaning.{contains_name}
use Rattle.script_text.specs.Spelling.{after_note, line_cut, reason_of, verdict}
use Rattle.script_advice.specs.Above.{any_declares, as_told, told_after, told_with, untold, without_return}
use Rattle.script_advice.specs.Remarks.{Remark, remark_of}
use Rattle.script_advice.specs.declared.told.Told.{Told}

-- ---- A line by itself.

-- a line that says this is bad where it starts a procedure that nothing declares, of which nothing was told; one that
-- says nothing is bad for the reason that it would have among statements
abbrev pub reason_alone : Declared → List (List ℕ) → List ℕ → Option Phrase → Option Reason
reason_alone d told line None = Some (reason_of stage.Calling line)
reason_alone d told line (Some p) = if is_declared d p || contains_name told p.procedure then None
    else Some reason.Statement

-- why a line is bad wherever it stands, in a text that declares these procedures, where these others were told
unfoldable pub alone : Declared → List (List ℕ) → List ℕ → Option Reason
alone d told line = if is_printable line then reason_alone d told line (phrase_at line) else Some reason.Bytes

-- ---- All errors.

-- what is told of a line for a reason, if there is one, in front of other remarks
abbrev pub with_error : Declared → ℕ → List ℕ → Option Reason → List Remark → List Remark
with_error d n line None others = others
with_error d n line (Some why) others = remark_of d false n why line ∷ others

-- a last line that hasn't ended
abbrev pub end_remarks : Declared → ℕ → List ℕ → List Remark
end_remarks d n [] = []
end_remarks d n (b ∷ bs) = remark_of d false n reason.Unended (b ∷ bs) ∷ []

-- the errors of these lines, of which the first has this number, and of what comes after them; so much was told above
abbrev pub later : Declared → Told → ℕ → List (List ℕ) → List ℕ → List Remark
later d told n [] tail = end_remarks d n tail
later d told n (line ∷ lines) tail =
    let seen : List ℕ = as_told told line in
    let why : Option Reason = alone d told.undeclared seen in
    with_error d n seen why (later d (told_after d told seen why) (suc n) lines tail)

-- the errors from the first bad line on, which is the first of these, or the tail after them; above it are the lines `above`
abbrev pub from_first : Declared → List (List ℕ) → ℕ → Reason → List (List ℕ) → List ℕ → List Remark
from_first d above n why [] tail = remark_of d false n why tail ∷ []
from_first d above n why (line ∷ lines) tail = remark_of d (any_declares why above (phrase_at line)) n why line
    ∷ later d (told_with d untold why line) (suc n) lines tail

-- the procedures declared so far, and those of one more line, whether or not a carriage return ends it
abbrev pub declared_after : Declared → List ℕ → Declared
declared_after d line = after_note d (without_return line)

-- the procedures that a text declares, wherever they stand
abbrev pub declared_by : List ℕ → Declared
declared_by text = fold declared_after nothing ((line_cut text).0 ++ (line_cut text).1 ∷ [])

-- the errors of a text whose first bad line is this; line 0 means the whole text
unfoldable pub errors_at : List ℕ → ℕ → Reason → List Remark
errors_at text n why =
    if n == 0 then remark_of (declared_by text) false 0 why [] ∷ []
    else from_first (declared_by text) (take (n - 1) (line_cut text).0) n why (drop (n - 1) (line_cut text).0)
    (line_cut text).1

-- the errors of a text, by what reading it comes to
abbrev pub errors_by : List ℕ → Result Script (ℕ × Reason) → List Remark
errors_by text (Ok script) = []
errors_by text (Err bad) = errors_at text bad.0 bad.1

-- the errors of a text: none where it spells a script, and else the reader's own first
abbrev pub errors : List ℕ → List Remark
errors text = errors_by text (verdict text)
