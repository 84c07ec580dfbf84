-- A reader that takes one line after another, as a value.
use Rattle.std.specs.Prelude.{ℕ, ◌+◌, List, [], ◌∷◌, ◌++◌, Option, Some, None, Result, Ok, Err, if◌then◌else◌, slice_index_or}
use Rattle.lwp_types.specs.TextFields.{is_printable}
use Rattle.script_text.specs.declared.stage.Stage.{Stage}
use Rattle.script_text.specs.declared.stage.Stage.TheVariants as stage
use Rattle.script_text.specs.declared.reason.Reason.{Reason}
use Rattle.script_text.specs.declared.reason.Reason.TheVariants as reason
use Rattle.script_text.specs.declared.reader.Declared.{Declared}
use Rattle.script_text.specs.declared.reader.Mention.{Mention}
use Rattle.script_text.specs.declared.reader.Reader.{Reader}
use Rattle.script_text.specs.declared.script.Script.{Script}
use Rattle.script_lines.specs.Phrase.{Phrase}
use Rattle.script_lines.specs.Table.{role_of, starts, starts_any}
use Rattle.script_lines.specs.Reading.{phrase_at}
use Rattle.script_text.specs.Grammar.{has, nothing, stage_after, may_stand_at}
use Rattle.script_text.specs.Meaning.{place_of, after_add, empty_draft, with_last_procedure}
use Rattle.script_text.specs.Spelling.{reason_of, after_note, whole}

-- ---- One line.

-- a line by what it says, if it says anything
abbrev pub judge_phrase_at : Stage → Declared → List ℕ → List ℕ → Option Phrase → Result Phrase Reason
judge_phrase_at s known posted line None = Err (reason_of s line)
judge_phrase_at s known posted line (Some p) = if may_stand_at s known posted p then Ok p else Err (reason_of s line)

-- what a line says, or why it is bad whatever the later lines declare
abbrev pub judge_alone : Stage → Declared → List ℕ → List ℕ → Result Phrase Reason
judge_alone s known posted line = if is_printable line then judge_phrase_at s known posted line (phrase_at line)
    else Err reason.Bytes

-- the mention of a procedure that a line starts
abbrev pub mention_of : ℕ → List (List ℕ) → Phrase → List Mention
mention_of line names p = if starts p.op
    then record { line = line; name = place_of names p.procedure; any = starts_any p.op } ∷ []
    else []

-- a reader with one more line that may stand
abbrev pub after_take : Reader → Phrase → Reader
after_take r p =
    let d = after_add r.draft p in
    record r {
      count = r.count + 1;
      stage = stage_after r.stage (role_of p.op);
      mentions = r.mentions ++ mention_of (r.count + 1) d.script.names.procs p;
      draft = d;
    }

-- a reader with one more line that was judged
abbrev pub after_verdict : Reader → Result Phrase Reason → Reader
after_verdict r (Ok p) = after_take r p
after_verdict r (Err why) = record r { bad = Some why }

-- after a bad line no more lines are judged
abbrev pub after_judge : Option Reason → Reader → List ℕ → Reader
after_judge (Some why) r line = r
after_judge None r line = after_verdict r (judge_alone r.stage r.declared r.draft.posted line)

-- a reader that knows what one more line declares
abbrev pub knows : Reader → List ℕ → Reader
knows r line = record r { declared = after_note r.declared line }

-- one more line: it is judged, and what it declares is noted
abbrev pub step : Reader → List ℕ → Reader
step r line = knows (after_judge r.bad r line) line

-- a reader that has read nothing
abbrev pub start : Reader
start = record { count = 0; stage = stage.Start; bad = None; declared = nothing; mentions = []; draft = empty_draft }

-- ---- The end.

-- the name of a number
abbrev pub name_at : List (List ℕ) → ℕ → List ℕ
name_at names n = slice_index_or names n []

-- the line of the first mention of a procedure that isn't declared
abbrev pub first_missing : Declared → List (List ℕ) → List Mention → Option ℕ
first_missing declared names [] = None
first_missing declared names (m ∷ ms) = if has declared m.any (name_at names m.name)
    then first_missing declared names ms
    else Some m.line

-- where every line that has ended is good
abbrev pub answer_fine : Reader → List ℕ → Result Script (ℕ × Reason)
answer_fine r (b ∷ tail) = Err (r.count + 1, reason.Unended)
answer_fine r [] = whole (r.count + 1) (with_last_procedure r.draft)

-- A line that starts an undeclared procedure comes first: the lines after one that is bad by itself aren't judged.
abbrev pub answer_by : Option ℕ → Option Reason → Reader → List ℕ → Result Script (ℕ × Reason)
answer_by (Some k) bad r tail = Err (k, reason.Statement)
answer_by None (Some why) r tail = Err (r.count + 1, why)
answer_by None None r tail = answer_fine r tail

-- what the reader answers, once what is left has declared its procedure too
abbrev pub answer : Reader → List ℕ → Result Script (ℕ × Reason)
answer r tail = answer_by (first_missing r.declared r.draft.script.names.procs r.mentions) r.bad r tail

-- the script of these lines and what is left after them, or why there is none
abbrev pub answer_at : Reader → List ℕ → Result Script (ℕ × Reason)
answer_at r tail = answer (knows r tail) tail
