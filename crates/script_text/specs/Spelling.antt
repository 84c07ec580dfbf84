-- The script of a text, or its first bad line with the first reason that fits.
use Rattle.std.specs.Prelude.{◌≡◌, ℕ, suc, Bool, true, false, ◌&&◌, List, [], ◌∷◌, ◌++◌, length, fold, codes}
use Rattle.std.specs.Prelude.{Option, Some, None, option_map, Result, Ok, Err, ◌==◌, nat_lt, if◌then◌else◌}
use Rattle.std.specs.Str.{bytes_eq}
use Rattle.lwp_types.specs.TextFields.{is_printable}
use Rattle.script_lines.specs.declared.table.Role.{Role}
use Rattle.script_lines.specs.declared.table.Role.TheVariants as role
use Rattle.script_text.specs.declared.reader.Declared.{Declared}
use Rattle.script_text.specs.declared.stage.Stage.{Stage}
use Rattle.script_text.specs.declared.stage.Stage.TheVariants as stage
use Rattle.script_text.specs.declared.reason.Reason.{Reason}
use Rattle.script_text.specs.declared.reason.Reason.TheVariants as reason
use Rattle.script_text.specs.declared.reason.ReadErr.{ReadErr}
use Rattle.script_text.specs.declared.reason.ReadErr.TheVariants as err
use Rattle.script_text.specs.declared.script.Script.{Script}
use Rattle.script_lines.specs.Phrase.{Phrase}
use Rattle.script_lines.specs.Table.{role_of}
use Rattle.script_lines.specs.Reading.{first_word, phrase_at}
use Rattle.script_text.specs.Declaring.{proc_on, native_on}
use Rattle.script_text.specs.Grammar.{nothing, stage_of, may_stand, is_declared}
use Rattle.script_text.specs.Meaning.{enter, script_of}

-- ---- The lines of a text.

-- a byte in front of the first of these lines
abbrev pub onto_first : ℕ → List (List ℕ) × List ℕ → List (List ℕ) × List ℕ
onto_first b c = onto c.0 c.1
  where
    onto : List (List ℕ) → List ℕ → List (List ℕ) × List ℕ
    onto [] tail = ([], b ∷ tail)
    onto (l ∷ ls) tail = ((b ∷ l) ∷ ls, tail)

-- the lines that have ended, and the bytes after the last newline
abbrev pub line_cut : List ℕ → List (List ℕ) × List ℕ
line_cut [] = ([], [])
line_cut (b ∷ bs) = if b == 10 then ([] ∷ (line_cut bs).0, (line_cut bs).1) else onto_first b (line_cut bs)

-- ---- Why a line is bad.

-- whether a statement breaks the rule of `again`: it comes after one, or it is one that may not end its procedure
abbrev pub breaks_again : Stage → Role → Bool
breaks_again stage.Proc role.Again = true
breaks_again stage.Skipping role.Again = true
breaks_again stage.Ended role.Statement = true
breaks_again stage.Ended role.Skip = true
breaks_again stage.Ended role.Again = true
breaks_again _ _ = false

-- the reason that a first word alone decides
abbrev pub word_reason : List ℕ → Option Reason
word_reason w =
    if bytes_eq w (codes "limit") then Some reason.Limit
    else if bytes_eq w (codes "client") then Some reason.Client
    else if bytes_eq w (codes "native") then Some reason.Native
    else if bytes_eq w (codes "proc") then Some reason.Proc
    else if bytes_eq w (codes "post") then Some reason.Post
    else None

-- the reason of a line with any other first word: it is the text of a phrase of this role, or of none
abbrev pub other_reason : Stage → Option Role → Reason
other_reason s None = reason.Statement
other_reason s (Some r) = if breaks_again s r then reason.Again else reason.Statement

-- the first word decides, or what the line says
abbrev pub later_reason : Stage → Option Reason → Option Role → Reason
later_reason s None said = other_reason s said
later_reason s (Some why) said = why

-- the first line is to be the header, and the second the pod
abbrev pub reason_behind : Stage → Option Reason → Option Role → Reason
reason_behind stage.Start word said = reason.Header
reason_behind stage.Header word said = reason.Pod
reason_behind s word said = later_reason s word said

-- the reason of a bad line of printable bytes at this stage
abbrev pub reason_of : Stage → List ℕ → Reason
reason_of s line = reason_behind s (word_reason (first_word line))
    (option_map (λ (p : Phrase). role_of p.op) (phrase_at line))

-- the reason of a bad line of printable bytes after these lines
abbrev pub reason_at : List Phrase → List ℕ → Reason
reason_at before line = reason_of (stage_of before) line

-- ---- The lines one by one.

-- a line by what it says, if it says anything
abbrev pub judge_phrase : Declared → List Phrase → List ℕ → Option Phrase → Result Phrase Reason
judge_phrase declared before line None = Err (reason_at before line)
judge_phrase declared before line (Some p) = if may_stand before p && is_declared declared p then Ok p
    else Err (reason_at before line)

-- what a line says after these lines, in a text that declares these procedures, or why it is bad
abbrev pub judge : Declared → List Phrase → List ℕ → Result Phrase Reason
judge declared before line = if is_printable line then judge_phrase declared before line (phrase_at line)
    else Err reason.Bytes

-- goes on after a good line, and stops at a bad one with its number
abbrev pub at_line : ℕ → Result Phrase Reason → (Phrase → Result (List Phrase) (ℕ × Reason))
    → Result (List Phrase) (ℕ × Reason)
at_line k (Ok p) f = f p
at_line k (Err why) f = Err (k, why)

-- what lines say that come after others, up to the first that is bad
abbrev pub read_on : Declared → List Phrase → List (List ℕ) → Result (List Phrase) (ℕ × Reason)
read_on declared before [] = Ok before
read_on declared before (line ∷ lines) =
    at_line (suc (length before)) (judge declared before line) (λ p. read_on declared (before ++ p ∷ []) lines)

-- the procedures declared so far, and those of one more line
abbrev pub after_note : Declared → List ℕ → Declared
after_note d line = record { procs = enter d.procs (proc_on line); natives = enter d.natives (native_on line) }

-- the procedures that these lines declare, wherever they stand
abbrev pub declared_in : List (List ℕ) → Declared
declared_in lines = fold after_note nothing lines

-- ---- The whole text.

-- the script of these lines, if it has a procedure of statements
abbrev pub whole : ℕ → Script → Result Script (ℕ × Reason)
whole line script = if length script.procs == 0 then Err (line, reason.Missing) else Ok script

-- the script of all lines, where each has ended
abbrev pub finish : Result (List Phrase) (ℕ × Reason) → List ℕ → Result Script (ℕ × Reason)
finish (Err bad) tail = Err bad
finish (Ok lines) (b ∷ tail) = Err (suc (length lines), reason.Unended)
finish (Ok lines) [] = whole (suc (length lines)) (script_of lines)

-- a text by its lines; a line that hasn't ended declares its procedure too
abbrev pub verdict_by : List (List ℕ) × List ℕ → Result Script (ℕ × Reason)
verdict_by c = finish (read_on (declared_in (c.0 ++ c.1 ∷ [])) [] c.0) c.1

-- the script of the text, or the number of its first bad line and why
unfoldable pub verdict : List ℕ → Result Script (ℕ × Reason)
verdict text = if nat_lt 16777216 (length text) then Err (0, reason.TooLarge) else verdict_by (line_cut text)

-- ---- What a reader answers.

-- the answer is this verdict, unless memory is refused
abbrev pub Gives : Result Script (ℕ × Reason) → Result Script ReadErr → Type 0
Gives v (Ok s) = v ≡ Ok s
Gives v (Err err.NoMemory) = Unit {0}
Gives v (Err (err.Bad line why)) = v ≡ Err (line, why)

-- the answer is this script, unless memory is refused
abbrev pub IsReadAs : Script → Result Script ReadErr → Type 0
IsReadAs s (Ok t) = t ≡ s
IsReadAs s (Err err.NoMemory) = Unit {0}
IsReadAs s (Err (err.Bad line why)) = ⊥
