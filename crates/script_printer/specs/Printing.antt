-- The text of a script, printed: each line by its row of the table.
use Rattle.std.specs.Prelude.{ℕ, suc, List, [], ◌∷◌, ◌++◌, Option, Some, None, map, ◌==◌, if◌then◌else◌}
use Rattle.std.specs.List.{flat_map}
use Rattle.script_text.specs.declared.script.ExitStmt.{ExitStmt}
use Rattle.script_text.specs.declared.script.ExitStmt.TheVariants as exit
use Rattle.script_text.specs.declared.script.Names.{Names}
use Rattle.script_text.specs.declared.script.Native.{Native}
use Rattle.script_text.specs.declared.script.NativeKind.{NativeKind}
use Rattle.script_text.specs.declared.script.NativeKind.TheVariants as native
use Rattle.script_text.specs.declared.script.Post.{Post}
use Rattle.script_text.specs.declared.script.Proc.{Proc}
use Rattle.script_text.specs.declared.script.Script.{Script}
use Rattle.script_text.specs.declared.script.Stmt.{Stmt}
use Rattle.script_text.specs.declared.script.Stmt.TheVariants as stmt
use Rattle.script_text.specs.declared.script.Who.{Who}
use Rattle.script_text.specs.declared.script.Who.TheVariants as who
use Rattle.script_lines.specs.declared.table.Op.TheVariants as op
use Rattle.script_lines.specs.declared.table.Whom.TheVariants as whom
use Rattle.script_lines.specs.Phrase.{Phrase}
use Rattle.script_lines.specs.Line.{blank}
use Rattle.script_text.specs.Grammar.{spelling}
use Rattle.script_printer.specs.Building.{number_line, proc_line, mon_line, cond_line, text_line, with_whom}
use Rattle.lists.specs.Texts.{text_at}
use Rattle.script_text.specs.Track.{name_at}

-- ---- Statements.

-- p with whom a statement speaks of
abbrev pub with_who : Names → Who → Phrase → Phrase
with_who names (who.Named n) p = with_whom whom.Named (name_at names.threads n) p
with_who names who.Me p = with_whom whom.Me [] p
with_who names who.First p = with_whom whom.First [] p
with_who names who.Sender p = with_whom whom.Sender [] p
with_who names who.Nobody p = with_whom whom.Nobody [] p

-- p with from whom to receive
abbrev pub with_source : Names → Option Who → Phrase → Phrase
with_source names None p = with_whom whom.Any [] p
with_source names (Some w) p = with_who names w p

-- the line of an exit procedure
abbrev pub exit_line : Names → List (List ℕ) → ExitStmt → Phrase
exit_line names texts (exit.MonExit m) = mon_line op.ExitMonExit (name_at names.mons m)
exit_line names texts (exit.MonBreak m) = mon_line op.ExitMonBreak (name_at names.mons m)
exit_line names texts (exit.Notify c) = cond_line op.ExitNotify (name_at names.conds c)
exit_line names texts (exit.Broadcast c) = cond_line op.ExitBroadcast (name_at names.conds c)
exit_line names texts (exit.Reply to t) = with_who names to (text_line op.ExitReply (text_at texts t))
exit_line names texts (exit.Resume w) = with_who names w (blank op.ExitResume)
exit_line names texts (exit.SetExit n) = number_line op.ExitSetExit n
exit_line names texts (exit.Note t) = text_line op.ExitNote (text_at texts t)

-- a statement that names nothing, or one that sets an exit procedure
abbrev pub plain_line : Names → List (List ℕ) → Stmt → Phrase
plain_line names texts (stmt.Resched prio) = number_line op.Resched prio
plain_line names texts (stmt.Sleep ticks) = number_line op.Sleep ticks
plain_line names texts (stmt.SetMaxPri prio) = number_line op.SetMaxPri prio
plain_line names texts stmt.Me = blank op.Me
plain_line names texts (stmt.SetExit code) = number_line op.SetExit code
plain_line names texts stmt.GetExit = blank op.GetExit
plain_line names texts (stmt.PodExit code) = number_line op.PodExit code
plain_line names texts stmt.Threads = blank op.Threads
plain_line names texts stmt.Senders = blank op.Senders
plain_line names texts stmt.Receivers = blank op.Receivers
plain_line names texts stmt.Monitors = blank op.Monitors
plain_line names texts stmt.Conds = blank op.Conditions
plain_line names texts stmt.Return = blank op.Return
plain_line names texts (stmt.Handle pattern func arg) = record (blank op.Handle) {
  pattern = pattern;
  func = func;
  number = arg;
}
plain_line names texts stmt.Unhandle = blank op.Unhandle
plain_line names texts (stmt.Raise pattern) = number_line op.Raise pattern
plain_line names texts (stmt.ExcNotify pattern) = number_line op.ExcNotify pattern
plain_line names texts (stmt.Bound pattern) = number_line op.Bound pattern
plain_line names texts stmt.UniqPatt = blank op.UniqPatt
plain_line names texts (stmt.OnExit x) = exit_line names texts x
plain_line names texts stmt.Agents = blank op.Agents
plain_line names texts (stmt.Trap event) = number_line op.Trap event
plain_line names texts (stmt.Say t) = text_line op.Say (text_at texts t)
plain_line names texts (stmt.Skip test) = record (blank op.Skip) { test = test }
plain_line names texts _ = blank op.Again

-- a statement of `plain_line`, or one that names a monitor or a condition
abbrev pub lock_line : Names → List (List ℕ) → Stmt → Phrase
lock_line names texts (stmt.MonCreate m) = mon_line op.MonCreate (name_at names.mons m)
lock_line names texts (stmt.CvCreate c m) = record (blank op.CvCreate) {
  condition = name_at names.conds c;
  monitor = name_at names.mons m;
}
lock_line names texts (stmt.MonDestroy m) = mon_line op.MonDestroy (name_at names.mons m)
lock_line names texts (stmt.Enter m) = mon_line op.Enter (name_at names.mons m)
lock_line names texts (stmt.CondEnter m) = mon_line op.CondEnter (name_at names.mons m)
lock_line names texts (stmt.MonExit m) = mon_line op.MonExit (name_at names.mons m)
lock_line names texts (stmt.MonBreak m) = mon_line op.MonBreak (name_at names.mons m)
lock_line names texts (stmt.MonWaiters m) = mon_line op.MonWaiters (name_at names.mons m)
lock_line names texts (stmt.CvDestroy c) = cond_line op.CvDestroy (name_at names.conds c)
lock_line names texts (stmt.Wait c) = cond_line op.Wait (name_at names.conds c)
lock_line names texts (stmt.Notify c) = cond_line op.Notify (name_at names.conds c)
lock_line names texts (stmt.Broadcast c) = cond_line op.Broadcast (name_at names.conds c)
lock_line names texts (stmt.CvSend c w) = with_who names w (cond_line op.CvSend (name_at names.conds c))
lock_line names texts (stmt.CvWaiters c) = cond_line op.CvWaiters (name_at names.conds c)
lock_line names texts s = plain_line names texts s

-- the line of a statement
abbrev pub stmt_line : Names → List (List ℕ) → Stmt → Phrase
stmt_line names texts (stmt.Create n q prio flags) = record (blank op.Create) {
  thread = name_at names.threads n;
  procedure = name_at names.procs q;
  number = prio;
  flags = flags;
}
stmt_line names texts (stmt.Destroy w) = with_who names w (blank op.Destroy)
stmt_line names texts (stmt.Ping w) = with_who names w (blank op.Ping)
stmt_line names texts (stmt.Yield to) = with_who names to (blank op.Yield)
stmt_line names texts (stmt.Suspend w) = with_who names w (blank op.Suspend)
stmt_line names texts (stmt.Resume w) = with_who names w (blank op.Resume)
stmt_line names texts (stmt.Join w) = with_who names w (blank op.Join)
stmt_line names texts (stmt.SetPri w prio) = with_who names w (number_line op.SetPri prio)
stmt_line names texts (stmt.Send to room t) =
    with_who names to (record (blank op.Send) { room = room; text = text_at texts t })
stmt_line names texts (stmt.Recv from mode) = with_source names from (record (blank op.Recv) { mode = mode })
stmt_line names texts (stmt.Reply to t) = with_who names to (text_line op.Reply (text_at texts t))
stmt_line names texts (stmt.CallProc q) = proc_line op.CallProc (name_at names.procs q)
stmt_line names texts (stmt.Agent n event) = record (blank op.Agent) {
  thread = name_at names.threads n;
  number = event;
}
stmt_line names texts s = lock_line names texts s

-- ---- The other lines.

-- the limit on births, unless it is the one that a script without the line has
abbrev pub limit_lines : ℕ → List Phrase
limit_lines births = if births == 4294967295 then [] else number_line op.Limit births ∷ []

-- a client and its event
abbrev pub client_line : ℕ → ℕ → Phrase
client_line n event = record (blank op.Client) { client = n; event = event }

-- the clients' events, counted from n
abbrev pub client_lines : ℕ → List ℕ → List Phrase
client_lines n [] = []
client_lines n (e ∷ es) = client_line n e ∷ client_lines (suc n) es

-- a built-in procedure by its kind
abbrev pub native_as : Names → NativeKind → Phrase → Phrase
native_as names native.Store p = p
native_as names (native.Session event store) p = record p { event = event; thread = name_at names.threads store }

-- a built-in procedure
abbrev pub native_line : Names → Native → Phrase
native_line names n = native_as names n.kind (proc_line op.Native (name_at names.procs n.name))

-- a procedure and its statements
abbrev pub proc_lines : Names → List (List ℕ) → Proc → List Phrase
proc_lines names texts q = proc_line op.Proc (name_at names.procs q.name) ∷ map (stmt_line names texts) q.stmts

-- a line that a client posts
abbrev pub post_line : List (List ℕ) → Post → Phrase
post_line texts post = record (blank op.Post) { client = post.client; text = text_at texts post.text }

-- ---- A script.

-- the lines after those of the header, the pod and the limit
abbrev pub body_lines : Names → List (List ℕ) → List ℕ → List Native → List Proc → List Post → List Phrase
body_lines names texts clients natives procs posts =
    client_lines 0 clients
    ++ (map (native_line names) natives ++ (flat_map (proc_lines names texts) procs ++ map (post_line texts) posts))

-- all lines of a script
abbrev pub lines_of : Script → List Phrase
lines_of s = number_line op.Lwp 1 ∷ number_line op.Pod s.maxpri
    ∷ (limit_lines s.births ++ body_lines s.names s.texts s.clients s.natives s.procs s.posts)

-- the text of a script
unfoldable pub text_of_script : Script → List ℕ
text_of_script s = spelling (lines_of s)
