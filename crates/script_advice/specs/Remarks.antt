-- What is told of a line: where the fault is, the word found there, and what may be there.
use Rattle.std.specs.Prelude.{ℕ, Bool, true, false, not, ◌&&◌, List, [], length, take, Option, Some, None, codes, if◌then◌else◌}
use denote.Enum.Bare.{sameb}
use Rattle.script_lines.specs.declared.table.Kind.TheVariants as kind
use Rattle.script_lines.specs.declared.table.Op.{Op}
use Rattle.script_lines.specs.declared.table.Op.TheVariants as op
use Rattle.script_lines.specs.contracts.table.Op.{the_type as op_type}
use Rattle.script_lines.specs.Phrase.{Phrase}
use Rattle.script_lines.specs.Reading.{phrase_at}
use Rattle.script_lines.specs.Table.{key_of, starts_any}
use Rattle.script_text.specs.contracts.reason.Reason.{the_type as reason_type}
use Rattle.script_text.specs.declared.reader.Declared.{Declared}
use Rattle.script_text.specs.declared.reason.Reason.{Reason}
use Rattle.script_text.specs.declared.reason.Reason.TheVariants as reason
use Rattle.script_text.specs.Grammar.{is_declared}
use Rattle.script_advice.specs.Near.{nearest, or_else}
use Rattle.script_advice.specs.Forms.{nearest_op}
use Rattle.script_advice.specs.Faults.{fault_of, key_at, op_of, slot_at}
use Rattle.script_advice.specs.WhatTexts.{what_text}
use Rattle.script_advice.specs.declared.faults.Fault.{Fault}
use Rattle.script_advice.specs.declared.faults.What.{What}
use Rattle.script_advice.specs.declared.faults.What.TheVariants as what
use Rattle.script_advice.specs.declared.remarks.Cause.{Cause}
use Rattle.script_advice.specs.declared.remarks.Cause.TheVariants as cause
use Rattle.script_advice.specs.declared.remarks.Doubt.{Doubt}
use Rattle.script_advice.specs.declared.remarks.Doubt.TheVariants as doubt
use Rattle.script_advice.specs.declared.remarks.Place.{Place}
use Rattle.script_advice.specs.declared.remarks.Why.{Why}
use Rattle.script_advice.specs.declared.remarks.Why.TheVariants as why

-- What is told of a line: its number, why it is told, the line, where in it what is wrong, the kind of line whose form
-- is told, and the word that the wrong one is nearly; empty, where it is nearly none.
pub record Remark : Type 0 where
  pub line : ℕ
  pub cause : Cause
  pub text : List ℕ
  pub place : Place
  pub form : Option Op
  pub near : List ℕ

-- the name of a reason
abbrev pub reason_text : Reason → List ℕ
reason_text reason.TooLarge = codes "TooLarge"
reason_text reason.Unended = codes "Unended"
reason_text reason.Bytes = codes "Bytes"
reason_text reason.Header = codes "Header"
reason_text reason.Pod = codes "Pod"
reason_text reason.Limit = codes "Limit"
reason_text reason.Client = codes "Client"
reason_text reason.Native = codes "Native"
reason_text reason.Proc = codes "Proc"
reason_text reason.Post = codes "Post"
reason_text reason.Again = codes "Again"
reason_text reason.Statement = codes "Statement"
reason_text reason.Missing = codes "Missing"

-- the rule that a line breaks whose form is right, or that the text breaks
abbrev pub rule_text : Reason → List ℕ
rule_text reason.TooLarge = codes "a script has at most 16777216 bytes"
rule_text reason.Unended = codes "no newline ends the last line"
rule_text reason.Bytes = codes "a line is of printable bytes"
rule_text reason.Header = codes "the first line is lwp 1"
rule_text reason.Pod = codes "the second line is pod and a number from 1 to 255"
rule_text reason.Limit = codes "a limit is the third line, and at least 1"
rule_text reason.Client = codes "clients stand before all procedures, and are counted from 0"
rule_text reason.Native =
    codes "a built-in procedure stands behind the clients and before all other procedures, and its name is new"
rule_text reason.Proc = codes "a procedure stands before all posts, and its name is new"
rule_text reason.Post =
    codes "a post stands behind all procedures, is one of a client above, and of at most 20000 of that client"
rule_text reason.Again = codes "an again ends its procedure, which doesn't begin with a skip or an again"
rule_text reason.Statement = codes "a statement stands in a procedure"
rule_text reason.Missing = codes "the script ends too early: lwp 1, a pod and a procedure have to be there"

-- the name of a doubt
abbrev pub doubt_text : Doubt → List ℕ
doubt_text doubt.Thread = codes "Unset"
doubt_text doubt.Monitor = codes "Unset"
doubt_text doubt.Condition = codes "Unset"
doubt_text doubt.Procedure = codes "Unstarted"
doubt_text doubt.Statement = codes "Unreached"
doubt_text doubt.Client = codes "Unasked"
doubt_text doubt.Priority = codes "Priority"
doubt_text doubt.Kept = codes "Unleft"
doubt_text doubt.Ticks = codes "Clockless"
doubt_text doubt.Reply = codes "Unsending"
doubt_text doubt.Server = codes "Served"

-- what is meant by it
abbrev pub doubted_text : Doubt → List ℕ
doubted_text doubt.Thread = codes "a thread that no create and no agent names"
doubted_text doubt.Monitor = codes "a monitor that no moncreate names"
doubted_text doubt.Condition = codes "a condition that no cvcreate names"
doubted_text doubt.Procedure = codes "a procedure that no create and no call starts"
doubted_text doubt.Statement = codes "a statement behind a return, which nothing reaches"
doubted_text doubt.Client = codes "an event that no agent, no trap and no session asks for"
doubted_text doubt.Priority = codes "a priority above the greatest that the pod ever has"
doubted_text doubt.Kept = codes "a monitor that its procedure doesn't leave"
doubted_text doubt.Ticks = codes "ticks that never come: no client is of event 0, the clock"
doubted_text doubt.Reply = codes "a thread that no statement makes send"
doubted_text doubt.Server = codes "a server that takes lines: the pod may end before they come, for no other thread stays"

-- whether it is an error or a warning
abbrev pub severity_text : Cause → List ℕ
severity_text (cause.Bad r) = codes "error"
severity_text (cause.Doubted d) = codes "warning"

-- why it is told
abbrev pub cause_text : Cause → List ℕ
cause_text (cause.Bad r) = reason_text r
cause_text (cause.Doubted d) = doubt_text d

-- what is wrong, in words
abbrev pub why_text : Why → List ℕ
why_text (why.Form w) = what_text w
why_text why.Undeclared = codes "a procedure that nothing declares"
why_text why.Taken = codes "a procedure of this name is declared above"
why_text why.NoClient = codes "no client above has this number"
why_text why.AfterAgain = codes "a statement after the again that ends its procedure"
why_text (why.Rule r) = rule_text r
why_text (why.Doubted d) = doubted_text d

-- ---- Where it is, and what is wrong there.

abbrev pub place_at : ℕ → Why → Place
place_at left w = record { left = left; why = w }

-- the reason is of the text, and no single line has it
abbrev pub is_of_text : Reason → Bool
is_of_text reason.TooLarge = true
is_of_text reason.Unended = true
is_of_text reason.Missing = true
is_of_text _ = false

-- whether a line is bad for the procedure that it starts
abbrev pub starts_nothing : Declared → Reason → Phrase → Bool
starts_nothing d r p = sameb reason_type r reason.Statement && not (is_declared d p)

-- which part of its rule a line of this kind breaks, where a line above declares what it names or none does
abbrev pub broken_rule : Reason → Op → Bool → Why
broken_rule reason.Proc o above = if above then why.Taken else why.Rule reason.Proc
broken_rule reason.Native o above = if above then why.Taken else why.Rule reason.Native
broken_rule reason.Post o above = if above then why.Rule reason.Post else why.NoClient
broken_rule reason.Again o above = if sameb op_type o op.Again then why.Rule reason.Again else why.AfterAgain
broken_rule r o above = why.Rule r

-- the line from the word on that is wrong for this
abbrev pub words_at : Why → Op → List ℕ → List ℕ
words_at why.Undeclared o line = slot_at o kind.Procedure line
words_at why.Taken o line = slot_at o kind.Procedure line
words_at why.NoClient o line = slot_at o kind.Client line
words_at _ o line = line

-- a line of this kind that is bad for this
abbrev pub place_by : Why → Op → List ℕ → Place
place_by w o line = place_at (length (words_at w o line)) w

-- a line whose form is right: it breaks a rule, or starts a procedure that nothing declares
abbrev pub place_of_phrase : Declared → Bool → Reason → List ℕ → Option Phrase → Place
place_of_phrase d above r line None = place_at (length line) (why.Rule r)
place_of_phrase d above r line (Some p) =
    place_by (if starts_nothing d r p then why.Undeclared else broken_rule r p.op above) p.op line

-- a line that has this fault, or none
abbrev pub fault_place : Declared → Bool → Reason → List ℕ → Option Fault → Place
fault_place d above r line None = place_of_phrase d above r line (phrase_at line)
fault_place d above r line (Some f) = place_at f.left (why.Form f.what)

-- the end of the line where it or the text ends too early, and else the first wrong word
unfoldable pub place_of : Declared → Bool → Reason → List ℕ → Place
place_of d above r line = if is_of_text r then place_at 0 (why.Rule r)
    else fault_place d above r line (fault_of line)

-- ---- The word that is nearly there.

-- so many of the first names are looked at
abbrev pub some_names : List (List ℕ) → List (List ℕ)
some_names names = take 256 names

-- the word, if there is one
abbrev pub word_or_none : Option (List ℕ) → List ℕ
word_or_none None = []
word_or_none (Some w) = w

abbrev pub key_or_none : Option Op → List ℕ
key_or_none None = []
key_or_none (Some o) = key_of o

-- the key that the line's is nearly, where it is none
abbrev pub near_key : List ℕ → Option Op → List ℕ
near_key line None = key_or_none (nearest_op (key_at line))
near_key line (Some o) = []

-- the key that the line's is nearly; none, where the wrong byte is no part of a word
abbrev pub near_form : What → List ℕ → List ℕ
near_form what.Tab line = []
near_form what.Return line = []
near_form what.Byte line = []
near_form _ line = near_key line (op_of line)

-- the declared procedure that is nearly the one that the line starts
abbrev pub near_procedure : Declared → Option Phrase → List ℕ
near_procedure d None = []
near_procedure d (Some p) = word_or_none (or_else (nearest (some_names d.procs) p.procedure)
    (if starts_any p.op then nearest (some_names d.natives) p.procedure else None))

-- the word that the wrong one is nearly, if that is wrong
unfoldable pub near_of : Declared → Why → List ℕ → List ℕ
near_of d (why.Form w) line = near_form w line
near_of d why.Undeclared line = near_procedure d (phrase_at line)
near_of d why.Taken line = []
near_of d why.NoClient line = []
near_of d why.AfterAgain line = []
near_of d (why.Rule r) line = []
near_of d (why.Doubted x) line = []

-- ---- What may stand there.

-- the kind of the line, by its key or by the one that this nearly is
abbrev pub likely_op : List ℕ → Option Op
likely_op line = or_else (op_of line) (nearest_op (key_at line))

-- the kind that a line is to be that is bad for this reason: the first two lines can only be one
abbrev pub wanted_op : Reason → List ℕ → Option Op
wanted_op reason.Header line = Some op.Lwp
wanted_op reason.Pod line = Some op.Pod
wanted_op _ line = likely_op line

-- the kind of line whose form is told
unfoldable pub form_of : Reason → List ℕ → Option Op
form_of r line = if is_of_text r then None else wanted_op r line

-- what is told of a bad line, in a text that declares these procedures, where a line above declares what it names or
-- none does
abbrev pub remark_of : Declared → Bool → ℕ → Reason → List ℕ → Remark
remark_of d above n r line = record {
  line = n;
  cause = cause.Bad r;
  text = line;
  place = place_of d above r line;
  form = form_of r line;
  near = near_of d (place_of d above r line).why line;
}
