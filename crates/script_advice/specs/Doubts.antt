-- What is allowed in a script and hardly meant, line by line.
use Rattle.std.specs.Prelude.{ℕ, suc, Bool, true, false, not, ◌&&◌, ◌||◌, ◌==◌, nat_lt, List, [], ◌∷◌, ◌++◌, fold, length, Option, Some, None, if◌then◌else◌}
use Rattle.std.specs.List.{list_any}
use denote.Enum.Bare.{sameb}
use Rattle.script_lines.specs.contracts.table.Op.{the_type as op_type}
use Rattle.script_lines.specs.declared.table.Kind.TheVariants as kind
use Rattle.script_lines.specs.declared.table.Op.{Op}
use Rattle.script_lines.specs.declared.table.Op.TheVariants as op
use Rattle.script_lines.specs.declared.table.Role.{Role}
use Rattle.script_lines.specs.declared.table.Role.TheVariants as role
use Rattle.script_lines.specs.Phrase.{Phrase}
use Rattle.script_lines.specs.Reading.{phrase_at}
use Rattle.script_lines.specs.Table.{ranks, role_of, starts}
use Rattle.script_text.specs.Meaning.{contains_name, enter}
use Rattle.script_text.specs.Spelling.{line_cut}
use Rattle.script_advice.specs.Near.{nearest, or_else}
use Rattle.script_advice.specs.Habits.{habits_of, name_if, no_habits, ticks_in}
use Rattle.script_advice.specs.Faults.{slot_at}
use Rattle.script_advice.specs.Remarks.{Remark, place_at, some_names, word_or_none}
use Rattle.script_advice.specs.declared.remarks.Cause.TheVariants as cause
use Rattle.script_advice.specs.declared.remarks.Doubt.{Doubt}
use Rattle.script_advice.specs.declared.remarks.Doubt.TheVariants as doubt
use Rattle.script_advice.specs.declared.remarks.Why.TheVariants as why
use Rattle.script_advice.specs.declared.ahead.Ahead.{Ahead}
use Rattle.script_advice.specs.declared.habits.Habits.{Habits}
use Rattle.script_advice.specs.declared.sets.Sets.{Sets}
use Rattle.script_advice.specs.declared.way.Way.{Way}

-- ---- What the lines of a text set, start and ask for.

-- the thread that a line names, if it sets the name
abbrev pub thread_set : Op → Phrase → List ℕ
thread_set op.Create p = p.thread
thread_set op.Agent p = p.thread
thread_set _ p = []

-- the thread that a line names, if it doesn't set the name
abbrev pub thread_used : Op → Phrase → List ℕ
thread_used op.Create p = []
thread_used op.Agent p = []
thread_used _ p = p.thread

-- the monitor that a line names, if it sets the name
abbrev pub monitor_set : Op → Phrase → List ℕ
monitor_set op.MonCreate p = p.monitor
monitor_set _ p = []

abbrev pub monitor_used : Op → Phrase → List ℕ
monitor_used op.MonCreate p = []
monitor_used _ p = p.monitor

-- the condition that a line names, if it sets the name
abbrev pub condition_set : Op → Phrase → List ℕ
condition_set op.CvCreate p = p.condition
condition_set _ p = []

abbrev pub condition_used : Op → Phrase → List ℕ
condition_used op.CvCreate p = []
condition_used _ p = p.condition

-- the monitor that an exit procedure leaves which a line sets
abbrev pub monitor_promised : Op → Phrase → List ℕ
monitor_promised op.ExitMonExit p = p.monitor
monitor_promised op.ExitMonBreak p = p.monitor
monitor_promised _ p = []

-- the procedure that a line starts
abbrev pub procedure_started : Phrase → List ℕ
procedure_started p = if starts p.op then p.procedure else []

-- the event that a line asks for: that of an agent, of a trap or of a session; 0 for a line that asks for none
abbrev pub event_asked : Op → Phrase → ℕ
event_asked op.Agent p = p.number
event_asked op.Trap p = p.number
event_asked op.Native p = p.event
event_asked _ p = 0

-- the greatest priority that a line gives the pod; 0 for a line that gives none
abbrev pub priority_given : Op → Phrase → ℕ
priority_given op.Pod p = p.number
priority_given op.SetMaxPri p = p.number
priority_given _ p = 0

-- the priority that a line gives a thread, or speaks of; 0 for a line that has none
abbrev pub priority_used : Op → Phrase → ℕ
priority_used o p = if ranks o then p.number else 0

-- the greater of two
abbrev pub greater : ℕ → ℕ → ℕ
greater m n = if nat_lt m n then n else m

-- an event is one of these
abbrev pub is_asked : List ℕ → ℕ → Bool
is_asked events e = list_any (λ x. x == e) events

-- a line declares a client that posts ticks, at event 0
abbrev pub is_clock : Op → Phrase → Bool
is_clock op.Client p = p.event == 0
is_clock _ p = false

-- a line declares a client that posts lines, at another event
abbrev pub is_poster : Op → Phrase → Bool
is_poster op.Client p = nat_lt 0 p.event
is_poster _ p = false

-- the thread that a line makes, if a letter of it may come: an agent, or a thread that begins in a procedure that sends
abbrev pub sender_set : Habits → Op → Phrase → List ℕ
sender_set h op.Create p = name_if (contains_name h.sending p.procedure) p.thread
sender_set h op.Agent p = p.thread
sender_set h _ p = []

-- a line lets any thread into a procedure that sends
abbrev pub lends_send : Habits → Op → Phrase → Bool
lends_send h op.CallProc p = contains_name h.sending p.procedure
lends_send h _ p = false

-- a line makes a thread that may stay, and isn't a server
abbrev pub makes_stayer : Habits → Op → Phrase → Bool
makes_stayer h op.Create p = not p.flags.server && (p.flags.suspended || contains_name h.staying p.procedure)
makes_stayer h _ p = false

-- nothing is set, in a text whose procedures do this; the first thread, which isn't a server, may stay in the first
abbrev pub no_sets : Habits → Sets
no_sets h = record {
  threads = [];
  monitors = [];
  conditions = [];
  promised = [];
  started = [];
  asked = [];
  most = 0;
  clocked = false;
  posted = false;
  senders = [];
  lent = false;
  stayed = h.first;
  habits = h;
}

-- what is set, and what one more line sets
abbrev pub sets_after_phrase : Sets → Phrase → Sets
sets_after_phrase s p = record {
  threads = enter s.threads (thread_set p.op p);
  monitors = enter s.monitors (monitor_set p.op p);
  conditions = enter s.conditions (condition_set p.op p);
  promised = enter s.promised (monitor_promised p.op p);
  started = enter s.started (procedure_started p);
  asked = s.asked ++ event_asked p.op p ∷ [];
  most = greater s.most (priority_given p.op p);
  clocked = s.clocked || is_clock p.op p;
  posted = s.posted || is_poster p.op p;
  senders = enter s.senders (sender_set s.habits p.op p);
  lent = s.lent || lends_send s.habits p.op p;
  stayed = s.stayed || makes_stayer s.habits p.op p;
  habits = s.habits;
}

abbrev pub sets_after_line : Sets → Option Phrase → Sets
sets_after_line s None = s
sets_after_line s (Some p) = sets_after_phrase s p

abbrev pub sets_on : Sets → List ℕ → Sets
sets_on s line = sets_after_line s (phrase_at line)

-- what the lines of a text set
abbrev pub sets_of : List ℕ → Sets
sets_of text = fold sets_on (no_sets (habits_of no_habits (line_cut text).0)) (line_cut text).0

-- ---- The way through a procedure.

-- no procedure has begun
abbrev pub no_way : Way
no_way = record { begun = false; skipped = false; closed = false }

-- how it goes on after a line: a `return` closes the way, unless a `skip` may pass over it
abbrev pub way_by : Role → Op → Way → Way
way_by role.Proc o w = record { begun = true; skipped = false; closed = false }
way_by role.Skip o w = record { begun = w.begun; skipped = true; closed = false }
way_by role.Statement o w = record {
  begun = w.begun;
  skipped = false;
  closed = sameb op_type o op.Return && not w.skipped;
}
way_by _ o w = w

abbrev pub way_behind : Way → Phrase → Way
way_behind w p = way_by (role_of p.op) p.op w

-- ---- The way ahead in a procedure.

-- the monitor that a line enters
abbrev pub monitor_entered : Op → Phrase → List ℕ
monitor_entered op.Enter p = p.monitor
monitor_entered _ p = []

-- the monitor that a line leaves
abbrev pub monitor_left : Op → Phrase → List ℕ
monitor_left op.MonExit p = p.monitor
monitor_left op.MonBreak p = p.monitor
monitor_left op.MonDestroy p = p.monitor
monitor_left _ p = []

-- the way ends here
abbrev pub no_ahead : Ahead
no_ahead = record { strays = false; left = [] }

-- it may go on elsewhere
abbrev pub stray_ahead : Ahead
stray_ahead = record { strays = true; left = [] }

-- the way ahead from a statement on
abbrev pub ahead_after_statement : Op → Phrase → Ahead → Ahead
ahead_after_statement op.Return p a = no_ahead
ahead_after_statement op.CallProc p a = stray_ahead
ahead_after_statement op.Raise p a = stray_ahead
ahead_after_statement o p a = record { strays = a.strays; left = enter a.left (monitor_left o p) }

-- the way ahead from a line of this role on
abbrev pub ahead_by : Role → Op → Phrase → Ahead → Ahead
ahead_by role.Statement o p a = ahead_after_statement o p a
ahead_by role.Skip o p a = stray_ahead
ahead_by role.Again o p a = stray_ahead
ahead_by _ o p a = no_ahead

abbrev pub ahead_after_line : Option Phrase → Ahead → Ahead
ahead_after_line None a = a
ahead_after_line (Some p) a = ahead_by (role_of p.op) p.op p a

-- the way ahead from the first of these lines on, where this is the way ahead after the last
abbrev pub ahead_of : Ahead → List (List ℕ) → Ahead
ahead_of a [] = a
ahead_of a (line ∷ lines) = ahead_after_line (phrase_at line) (ahead_of a lines)

-- a line enters a monitor that isn't left ahead of it
abbrev pub keeps : Ahead → Option Phrase → Bool
keeps a None = false
keeps a (Some p) = not a.strays && nat_lt 0 (length (monitor_entered p.op p))
    && not (contains_name a.left (monitor_entered p.op p))

-- which of these lines keep a monitor, the last line first
abbrev pub keeping : Ahead → List (List ℕ) → List Bool
keeping a [] = []
keeping a (line ∷ lines) = keeping a lines ++ keeps (ahead_of a lines) (phrase_at line) ∷ []

-- ---- Doubts.

-- a word that is none of these names, and not empty
abbrev pub is_unset : List (List ℕ) → List ℕ → Bool
is_unset names w = nat_lt 0 (length w) && not (contains_name names w)

abbrev pub doubt_if : Bool → Doubt → Option Doubt
doubt_if b d = if b then Some d else None

-- what is doubtful in the part that a line plays
abbrev pub role_doubt : Role → Sets → Way → Phrase → Option Doubt
role_doubt role.Client s w p = doubt_if (nat_lt 0 p.event && not (is_asked s.asked p.event)) doubt.Client
role_doubt role.Native s w p = doubt_if (not (contains_name s.started p.procedure)) doubt.Procedure
role_doubt role.Proc s w p = doubt_if (w.begun && not (contains_name s.started p.procedure)) doubt.Procedure
role_doubt role.Statement s w p = doubt_if w.closed doubt.Statement
role_doubt role.Skip s w p = doubt_if w.closed doubt.Statement
role_doubt role.Again s w p = doubt_if w.closed doubt.Statement
role_doubt _ s w p = None

-- what is doubtful in the names of a line, in its priority, and in the monitor that it keeps
abbrev pub name_doubt : Sets → Bool → Phrase → Option Doubt
name_doubt s k p =
    if is_unset s.threads (thread_used p.op p) then Some doubt.Thread
    else if is_unset s.monitors (monitor_used p.op p) then Some doubt.Monitor
    else if is_unset s.conditions (condition_used p.op p) then Some doubt.Condition
    else if nat_lt s.most (priority_used p.op p) then Some doubt.Priority
    else doubt_if (k && not (contains_name s.promised p.monitor)) doubt.Kept

-- the ticks that a line waits for; 0 for a line that waits for none
abbrev pub ticks_awaited : Op → Phrase → ℕ
ticks_awaited op.Sleep p = p.number
ticks_awaited op.Recv p = ticks_in p.mode
ticks_awaited _ p = 0

-- the thread that a line replies to, at once or as an exit procedure
abbrev pub thread_answered : Op → Phrase → List ℕ
thread_answered op.Reply p = p.thread
thread_answered op.ExitReply p = p.thread
thread_answered _ p = []

-- a line makes a server that takes lines, of which there are some, and no thread but servers may stay
abbrev pub is_left : Op → Sets → Phrase → Bool
is_left op.Create s p = p.flags.server && contains_name s.habits.taking p.procedure && s.posted && not s.stayed
is_left _ s p = false

-- what is doubtful in what a line waits for, in the thread that it replies to, and in the server that it makes
abbrev pub wait_doubt : Sets → Phrase → Option Doubt
wait_doubt s p =
    if nat_lt 0 (ticks_awaited p.op p) && not s.clocked then Some doubt.Ticks
    else if is_unset s.senders (thread_answered p.op p) && not s.lent then Some doubt.Reply
    else doubt_if (is_left p.op s p) doubt.Server

-- what is doubtful first in a line that keeps a monitor or not
unfoldable pub doubt_of : Sets → Way → Bool → Phrase → Option Doubt
doubt_of s w k p = or_else (role_doubt (role_of p.op) s w p) (or_else (name_doubt s k p) (wait_doubt s p))

-- ---- What is told of them.

-- the first of two that isn't empty
abbrev pub or_words : List ℕ → List ℕ → List ℕ
or_words [] w = w
or_words (b ∷ v) w = b ∷ v

-- the line from the doubtful word on
abbrev pub doubted_words : Doubt → Op → List ℕ → List ℕ
doubted_words doubt.Thread o line =
    or_words (slot_at o kind.Who line) (or_words (slot_at o kind.Source line) (slot_at o kind.Built line))
doubted_words doubt.Monitor o line = slot_at o kind.Monitor line
doubted_words doubt.Kept o line = slot_at o kind.Monitor line
doubted_words doubt.Condition o line = slot_at o kind.Condition line
doubted_words doubt.Procedure o line = slot_at o kind.Procedure line
doubted_words doubt.Client o line = slot_at o kind.Event line
doubted_words doubt.Priority o line = slot_at o kind.Priority line
doubted_words doubt.Ticks o line = or_words (slot_at o kind.Mode line) (slot_at o kind.Number line)
doubted_words doubt.Reply o line = slot_at o kind.Who line
doubted_words doubt.Server o line = slot_at o kind.Flags line
doubted_words doubt.Statement o line = line

-- the name that is set and nearly the doubtful one
abbrev pub near_set : Sets → Doubt → Phrase → List ℕ
near_set s doubt.Thread p = word_or_none (nearest (some_names s.threads) p.thread)
near_set s doubt.Monitor p = word_or_none (nearest (some_names s.monitors) p.monitor)
near_set s doubt.Condition p = word_or_none (nearest (some_names s.conditions) p.condition)
near_set s _ p = []

abbrev pub doubt_remark : Sets → ℕ → List ℕ → Phrase → Doubt → Remark
doubt_remark s n line p d = record {
  line = n;
  cause = cause.Doubted d;
  text = line;
  place = place_at (length (doubted_words d p.op line)) (why.Doubted d);
  form = None;
  near = near_set s d p;
}

-- what is told of a line, if anything is, in front of other remarks
abbrev pub with_doubt : Sets → ℕ → List ℕ → Phrase → Option Doubt → List Remark → List Remark
with_doubt s n line p None others = others
with_doubt s n line p (Some d) others = doubt_remark s n line p d ∷ others

-- how the way goes on after a line, by what it says
abbrev pub way_after_line : Way → Option Phrase → Way
way_after_line w None = w
way_after_line w (Some p) = way_behind w p

-- what is told of a line, by what it says, in front of other remarks
abbrev pub with_doubts : Sets → Way → Bool → ℕ → List ℕ → Option Phrase → List Remark → List Remark
with_doubts s w k n line None others = others
with_doubts s w k n line (Some p) others = with_doubt s n line p (doubt_of s w k p) others

-- the doubts of these lines, of which the first has this number and stands on this way
abbrev pub doubts_from : Sets → Way → ℕ → List (List ℕ) → List Remark
doubts_from s w n [] = []
doubts_from s w n (line ∷ lines) =
    with_doubts s w (keeps (ahead_of no_ahead lines) (phrase_at line)) n line (phrase_at line)
    (doubts_from s (way_after_line w (phrase_at line)) (suc n) lines)

-- the warnings of a text that spells a script
abbrev pub doubts : List ℕ → List Remark
doubts text = doubts_from (sets_of text) no_way 1 (line_cut text).0

-- there is one at least
abbrev pub are_some : List Remark → Bool
are_some [] = false
are_some (r ∷ rs) = true
