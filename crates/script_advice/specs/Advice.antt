-- What is told of a text, and what the program comes to, with all that it meets outside.
use Rattle.std.specs.Prelude.{ℕ, Bool, true, false, List, [], ◌∷◌, Option, Some, None, Result, Ok, Err, codes, take, if◌then◌else◌, ◌≡◌, ◌++◌}
use Rattle.std.specs.List.{flat_map}
use Rattle.std.specs.Str.{bytes_eq}
use Rattle.lwp_types.specs.Streams.{after_append}
use Rattle.script_text.specs.declared.reason.Reason.{Reason}
use Rattle.script_text.specs.declared.script.Script.{Script}
use Rattle.script_text.specs.Spelling.{line_cut, verdict}
use Rattle.streams.specs.Limited.{HasFront, IsReadUp, IsReadWithin}
use Rattle.streams.specs.Streams.{IsFaultless, IsFaulty, IsQuiet, Stream}
use Rattle.streams.specs.Writing.{AppendsPart}
use Rattle.script_advice.specs.Doubts.{are_some, doubts}
use Rattle.script_advice.specs.Errors.{errors_at}
use Rattle.script_advice.specs.Remarks.{Remark}
use Rattle.script_advice.specs.Texts.{remarks_text}
use Rattle.script_advice.specs.declared.advice.Grade.{Grade}
use Rattle.script_advice.specs.declared.advice.Grade.TheVariants as grade
use Rattle.script_advice.specs.declared.checking.CheckEnd.{CheckEnd}
use Rattle.script_advice.specs.declared.checking.CheckEnd.TheVariants as end
use Rattle.script_advice.specs.declared.texts.Format.{Format}
use Rattle.script_advice.specs.declared.texts.Format.TheVariants as format

-- what is told of a text, by what reading it comes to: its errors, or the doubts of a script
abbrev pub remarks_by : List ℕ → Result Script (ℕ × Reason) → List Remark
remarks_by text (Ok script) = doubts text
remarks_by text (Err bad) = errors_at text bad.0 bad.1

abbrev pub remarks : List ℕ → List Remark
remarks text = remarks_by text (verdict text)

-- the first thousand of these, written so
unfoldable pub report : Format → List ℕ → List ℕ
report f text = remarks_text f (take 1000 (remarks text))

-- a script is fine where nothing is doubtful
abbrev pub doubted_grade : Bool → Grade
doubted_grade true = grade.Warned
doubted_grade false = grade.Fine

-- a text is wrong where the reader refuses it
abbrev pub grade_by : List ℕ → Result Script (ℕ × Reason) → Grade
grade_by text (Ok script) = doubted_grade (are_some (doubts text))
grade_by text (Err bad) = grade.Wrong

unfoldable pub grade_of : List ℕ → Grade
grade_of text = grade_by text (verdict text)

-- ---- The program.

-- what words ask for that ask for this form where there are none
abbrev pub form_or : Format → List (List ℕ) → Option Format
form_or f [] = Some f
form_or f (w ∷ []) = if bytes_eq w (codes "--json") then Some format.Json else None
form_or f (w ∷ v ∷ ws) = None

-- the form that the words ask for
abbrev pub format_of : List (List ℕ) → Option Format
format_of words = form_or format.Plain words

-- and of a file that has a name
abbrev pub named_format_of : List (List ℕ) → Option Format
named_format_of words = form_or format.Line words

-- each of these lines after the name of a file
abbrev pub named_lines : List ℕ → List (List ℕ) → List ℕ
named_lines name lines = flat_map (λ line. name ++ (codes ":" ++ (line ++ codes "\n"))) lines

-- what is told of a text in a file of this name, which lines for editors begin with
abbrev pub report_of : List ℕ → Format → List ℕ → List ℕ
report_of name format.Plain text = report format.Plain text
report_of name format.Line text = named_lines name (line_cut (report format.Line text)).0
report_of name format.Json text = report format.Json text

-- the source was read to its end, or one byte further than a script may be long, and this holds of what was read
abbrev pub Says : Stream → (List ℕ → Type 0) → Type 0
Says source says = IsFaultless source × IsReadUp 16777217 source.old source.new
    × ((text : List ℕ) × HasFront 16777217 source.old text × says text)

-- all that is told of the text was written
abbrev pub IsTold : List ℕ → Format → Stream → Grade → List ℕ → Type 0
IsTold name f sink g text = (grade_of text ≡ g) × (sink.new ≡ after_append sink.old (report_of name f text)) × IsFaultless sink

-- a first part of it was written, and a write failed before the last byte
abbrev pub IsCut : List ℕ → Format → Stream → List ℕ → Type 0
IsCut name f sink text = AppendsPart sink.old sink.new (report_of name f text) × IsFaulty sink

-- what each end says; out of memory is the one free answer, and nothing was written then
abbrev pub EndSays : List ℕ → Format → Stream → Stream → CheckEnd → Type 0
EndSays name f source sink (end.Told g) = Says source (IsTold name f sink g)
EndSays name f source sink end.Usage = ⊥
EndSays name f source sink end.ReadFault = IsFaulty source × IsReadWithin 16777217 source.old source.new × IsQuiet sink
EndSays name f source sink end.WriteFault = Says source (IsCut name f sink)
EndSays name f source sink end.NoMemory = IsFaultless source × IsReadWithin 16777217 source.old source.new × IsQuiet sink

-- the words are no command, and nothing was read or written
pub record IsUsage (source sink : Stream) (e : CheckEnd) : Type 0 where
  pub end : e ≡ end.Usage
  pub unread : source.new ≡ source.old
  pub faultless : IsFaultless source
  pub quiet : IsQuiet sink

-- what words come to that ask for this form, for a file of this name
abbrev pub NamedSays : List ℕ → Option Format → Stream → Stream → CheckEnd → Type 0
NamedSays name None source sink e = IsUsage source sink e
NamedSays name (Some f) source sink e = EndSays name f source sink e

-- what the program's words come to
abbrev pub CheckSays : Option Format → Stream → Stream → CheckEnd → Type 0
CheckSays f source sink e = NamedSays [] f source sink e

abbrev pub grade_status : Grade → ℕ
grade_status grade.Fine = 0
grade_status grade.Warned = 1
grade_status grade.Wrong = 2

-- the status of an end
abbrev pub status_of : CheckEnd → ℕ
status_of (end.Told g) = grade_status g
status_of end.Usage = 100
status_of end.ReadFault = 101
status_of end.WriteFault = 102
status_of end.NoMemory = 106

-- what is said of an end on standard error
abbrev pub fault_text : CheckEnd → List ℕ
fault_text (end.Told g) = []
fault_text end.Usage = codes "lwpcheck: usage: [--json | --print]\n"
fault_text end.ReadFault = codes "lwpcheck: read fault\n"
fault_text end.WriteFault = codes "lwpcheck: write fault\n"
fault_text end.NoMemory = codes "lwpcheck: no memory\n"
