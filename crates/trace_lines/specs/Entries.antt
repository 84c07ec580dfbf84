-- What a line of a trace tells.
use Rattle.lwp_types.specs.Names.{null_id}
use Rattle.script_lines.specs.Table.{op_at, role_of}
use Rattle.script_lines.specs.declared.table.Op.{Op}
use Rattle.script_lines.specs.declared.table.Op.TheVariants as op
use Rattle.script_lines.specs.declared.table.Role.{Role}
use Rattle.script_lines.specs.declared.table.Role.TheVariants as role
use Rattle.std.specs.Prelude.{Bool, List, None, Option, Some, bytes_eq, codes, drop, false, if◌then◌else◌, not, unwrap_or, ℕ, ◌||◌}
use Rattle.trace_lines.specs.Words.{behind, ends, number, rest, starts, whole_number, word}
use Rattle.trace_lines.specs.declared.entry.Entry.{Entry}
use Rattle.trace_lines.specs.declared.entry.Entry.TheVariants as entry
use Rattle.trace_lines.specs.declared.entry.Gain.{Gain}
use Rattle.trace_lines.specs.declared.entry.Gain.TheVariants as gain
use Rattle.trace_lines.specs.declared.entry.Verb.{Verb}
use Rattle.trace_lines.specs.declared.entry.Verb.TheVariants as verb

-- what is called by a statement of this kind
abbrev pub statement_verb : Op → Verb
statement_verb op.Create = verb.Create
statement_verb op.Destroy = verb.Destroy
statement_verb op.Suspend = verb.Suspend
statement_verb op.Resume = verb.Resume
statement_verb op.Join = verb.Join
statement_verb op.Sleep = verb.Sleep
statement_verb op.Send = verb.Send
statement_verb op.Recv = verb.Receive
statement_verb op.Enter = verb.Enter
statement_verb op.CondEnter = verb.CondEnter
statement_verb op.MonExit = verb.MonExit
statement_verb op.MonBreak = verb.MonBreak
statement_verb op.Wait = verb.Wait
statement_verb op.Agent = verb.Agent
statement_verb op.Say = verb.Say
statement_verb _ = verb.Other

-- a line of a script makes a call where it is a statement
abbrev pub line_verb : Role → Op → Option Verb
line_verb role.Statement o = Some (statement_verb o)
line_verb _ o = None

abbrev pub key_verb : Option Op → Option Verb
key_verb None = None
key_verb (Some o) = line_verb (role_of o) o

-- the call of a word, if it is one: a trace has the words of a script's statements, `onexit` for all that set an exit
-- procedure, and `note`, which an exit procedure alone does
abbrev pub verb_of : List ℕ → Option Verb
verb_of w =
    if bytes_eq w (codes "onexit") then Some verb.OnExit
    else if bytes_eq w (codes "note") then Some verb.Other
    else key_verb (op_at w)

-- a number after a letter, or nobody
abbrev pub id_of : List ℕ → ℕ
id_of text = unwrap_or (number (drop 1 text)) null_id

-- whom a call of `me` names
abbrev pub who_of : ℕ → List ℕ → ℕ
who_of me text = if starts (codes "self") text then me else id_of text

-- whom or what a call names, by what follows its word
abbrev pub target_of : Verb → ℕ → List ℕ → ℕ
target_of verb.Create me text = null_id
target_of verb.OnExit me text = null_id
target_of verb.Sleep me text = null_id
target_of verb.Say me text = null_id
target_of verb.Other me text = null_id
target_of verb.Agent me text = unwrap_or (number text) null_id
target_of verb.Destroy me text = who_of me text
target_of verb.Suspend me text = who_of me text
target_of verb.Resume me text = who_of me text
target_of verb.Join me text = who_of me text
target_of verb.Send me text = who_of me text
target_of verb.Receive me text = who_of me text
target_of verb.Enter me text = id_of text
target_of verb.CondEnter me text = id_of text
target_of verb.MonExit me text = id_of text
target_of verb.MonBreak me text = id_of text
target_of verb.Wait me text = id_of text

-- a new thread begins suspended: its flags follow its procedure and its priority
abbrev pub is_suspended : Verb → List ℕ → Bool
is_suspended verb.Create text = starts (codes "s") (rest (rest text))
is_suspended _ text = false

abbrev pub call_entry_by : ℕ → List ℕ → Option Verb → Option Entry
call_entry_by tid text None = None
call_entry_by tid text (Some v) = Some (entry.Called tid v (target_of v tid text) (is_suspended v text))

-- the line of a call, after the thread
abbrev pub call_entry : ℕ → List ℕ → Option Entry
call_entry tid text = call_entry_by tid (rest text) (verb_of (word text))

abbrev pub value_gain : Option ℕ → Gain
value_gain None = gain.Other
value_gain (Some n) = gain.Value n

-- an answer that isn't refused
abbrev pub gain_of : List ℕ → Gain
gain_of text =
    if starts (codes "letter ") text then gain.Letter (id_of (drop 7 text))
    else if starts (codes "reply") text then gain.Reply
    else if starts (codes "t") text then gain.Thread (id_of text)
    else value_gain (number text)

abbrev pub trap_entry_by : ℕ → Option ℕ → Option Entry
trap_entry_by tid None = None
trap_entry_by tid (Some event) = Some (entry.Trapped tid event)

-- the line of a trap that is raised, after its word: a number, and nothing else
abbrev pub trap_entry : ℕ → List ℕ → Option Entry
trap_entry tid text = trap_entry_by tid (whole_number text)

-- the line of an answer or a death, or of a trap, after the thread
abbrev pub answer_entry : ℕ → List ℕ → Option Entry
answer_entry tid text =
    if starts (codes " = ") text then Some (entry.Answered tid (gain_of (drop 3 text)))
    else if starts (codes " ! ") text then Some (entry.Answered tid gain.Refused)
    else if starts (codes " caught ") text then Some (entry.Answered tid gain.Caught)
    else if bytes_eq text (codes " dies") then Some (entry.Died tid)
    else if starts (codes " trap ") text then trap_entry tid (drop 6 text)
    else None

-- what follows the number of a thread
abbrev pub thread_entry : Option ℕ → List ℕ → Option Entry
thread_entry None text = None
thread_entry (Some tid) text = if starts (codes ": ") text then call_entry tid (drop 2 text) else answer_entry tid text

-- an exit procedure, and what became of it: it was refused, unless its line ends with a 0
abbrev pub exit_entry_by : ℕ → List ℕ → Option Verb → Option Entry
exit_entry_by reg text None = None
exit_entry_by reg text (Some v) =
    Some (entry.Exited reg v (target_of v null_id (rest text)) (not (ends (codes " = 0") text)))

-- the line of an exit procedure, after its number
abbrev pub exit_entry : Option ℕ → List ℕ → Option Entry
exit_entry None text = None
exit_entry (Some reg) text = if starts (codes " ") text
    then exit_entry_by reg (drop 1 text) (verb_of (word (drop 1 text)))
    else None

abbrev pub client_and_number : ℕ → Option ℕ → Option (ℕ × ℕ)
client_and_number client None = None
client_and_number client (Some seq) = Some (client, seq)

abbrev pub taken_post_of : Option ℕ → List ℕ → Option (ℕ × ℕ)
taken_post_of None text = None
taken_post_of (Some client) text = if starts (codes " seq ") text then client_and_number client (number (drop 5 text))
    else None

-- whose line was taken, and its number
abbrev pub taken_post : List ℕ → Option (ℕ × ℕ)
taken_post text = if starts (codes " client ") text then taken_post_of (number (drop 8 text)) (behind (drop 8 text))
    else None

abbrev pub event_entry_by : ℕ → Option (ℕ × ℕ) → Option Entry
event_entry_by event None = None
event_entry_by event (Some line) = Some (entry.Event event line.0 line.1)

-- the line of a delivery, after its event
abbrev pub event_entry : Option ℕ → List ℕ → Option Entry
event_entry None text = None
event_entry (Some event) text = event_entry_by event (taken_post text)

abbrev pub also_entry_by : Option ℕ → Option Entry
also_entry_by None = None
also_entry_by (Some agent) = Some (entry.Also agent)

-- the line of a later delivery, after its letter: a number, and nothing else
abbrev pub also_entry : List ℕ → Option Entry
also_entry text = also_entry_by (whole_number text)

abbrev pub rites_entry_by : ℕ → Option ℕ → Option Entry
rites_entry_by dead None = None
rites_entry_by dead (Some agent) = Some (entry.Rites agent dead)

-- the line of a report, after the letter of the dead: its number, and the agent that hears of it
abbrev pub rites_entry : Option ℕ → List ℕ → Option Entry
rites_entry None text = None
rites_entry (Some dead) text = if starts (codes " to t") text then rites_entry_by dead (whole_number (drop 5 text))
    else None

abbrev pub tick_entry_by : ℕ → Option (ℕ × ℕ) → Option Entry
tick_entry_by now None = None
tick_entry_by now (Some line) = Some (entry.Tick now line.0 line.1)

-- the line of a tick, after its number
abbrev pub tick_entry : Option ℕ → List ℕ → Option Entry
tick_entry None text = None
tick_entry (Some now) text = tick_entry_by now (taken_post text)

-- whether the line comes after the last step
abbrev pub is_closing : List ℕ → Bool
is_closing line = starts (codes "pod ends ") line || bytes_eq line (codes "stuck")
    || starts (codes "spent ") line || starts (codes "left client ") line

-- what a line tells, without its newline
abbrev pub entry_of : List ℕ → Option Entry
entry_of line =
    if starts (codes "tick ") line then tick_entry (number (drop 5 line)) (behind (drop 5 line))
    else if starts (codes "t") line then thread_entry (number (drop 1 line)) (behind (drop 1 line))
    else if starts (codes "exit x") line then exit_entry (number (drop 6 line)) (behind (drop 6 line))
    else if starts (codes "event ") line then event_entry (number (drop 6 line)) (behind (drop 6 line))
    else if starts (codes "also t") line then also_entry (drop 6 line)
    else if starts (codes "rites t") line then rites_entry (number (drop 7 line)) (behind (drop 7 line))
    else if is_closing line then Some entry.Closing
    else None
