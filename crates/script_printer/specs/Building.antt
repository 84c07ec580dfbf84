-- The phrases of a script that is printed, by what is in their slots.
use Rattle.std.specs.Prelude.{ℕ, List}
use Rattle.lwp_types.specs.declared.call.Flags.{Flags}
use Rattle.lwp_types.specs.declared.call.Func.{Func}
use Rattle.lwp_types.specs.declared.call.Mode.{Mode}
use Rattle.lwp_types.specs.declared.call.Pattern.{Pattern}
use Rattle.script_lines.specs.declared.table.Op.{Op}
use Rattle.script_lines.specs.declared.table.Op.TheVariants as op
use Rattle.script_lines.specs.declared.table.Test.{Test}
use Rattle.script_lines.specs.declared.table.Whom.{Whom}
use Rattle.script_lines.specs.Phrase.{Phrase}
use Rattle.script_lines.specs.Line.{blank}

-- ---- Lines of one slot.

-- a line whose slot is this number
abbrev pub number_line : Op → ℕ → Phrase
number_line o n = record (blank o) { number = n }

-- a line that names this procedure
abbrev pub proc_line : Op → List ℕ → Phrase
proc_line o w = record (blank o) { procedure = w }

-- this monitor
abbrev pub mon_line : Op → List ℕ → Phrase
mon_line o w = record (blank o) { monitor = w }

-- this condition
abbrev pub cond_line : Op → List ℕ → Phrase
cond_line o w = record (blank o) { condition = w }

-- a line that ends with this text
abbrev pub text_line : Op → List ℕ → Phrase
text_line o w = record (blank o) { text = w }

-- p with this word for a thread
abbrev pub with_whom : Whom → List ℕ → Phrase → Phrase
with_whom x w p = record p { who = x; thread = w }

-- p with the event and the store of a session
abbrev pub with_session : ℕ → List ℕ → Phrase → Phrase
with_session event w p = record p { event = event; thread = w }

-- ---- Lines of several.

-- a handler of these exceptions
abbrev pub handle_line : Pattern → Func → ℕ → Phrase
handle_line pattern func n = record (blank op.Handle) { pattern = pattern; func = func; number = n }

-- a line that passes over the next one
abbrev pub skip_line : Test → Phrase
skip_line test = record (blank op.Skip) { test = test }

-- a new condition of a monitor
abbrev pub cv_create_line : List ℕ → List ℕ → Phrase
cv_create_line cond mon = record (blank op.CvCreate) { condition = cond; monitor = mon }

-- a new thread
abbrev pub create_line : List ℕ → List ℕ → ℕ → Flags → Phrase
create_line name procedure prio flags = record (blank op.Create) {
  thread = name;
  procedure = procedure;
  number = prio;
  flags = flags;
}

-- a new agent
abbrev pub agent_line : List ℕ → ℕ → Phrase
agent_line name event = record (blank op.Agent) { thread = name; number = event }

-- a letter, but for whom
abbrev pub send_line : ℕ → List ℕ → Phrase
send_line room text = record (blank op.Send) { room = room; text = text }

-- waiting for a letter, or not; but for from whom
abbrev pub receive_line : Mode → Phrase
receive_line mode = record (blank op.Recv) { mode = mode }

-- a line that a client posts
abbrev pub post_line : ℕ → List ℕ → Phrase
post_line client text = record (blank op.Post) { client = client; text = text }
