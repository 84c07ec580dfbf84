-- The script that lines say.
use Rattle.std.specs.Prelude.{ℕ, zero, suc, Bool, false, not, ◌&&◌, ◌==◌, List, [], ◌∷◌, ◌++◌, length, Option}
use Rattle.std.specs.Prelude.{Some, None, fold, if◌then◌else◌, option_map, option_to_list, slice_index_or}
use Rattle.std.specs.List.{list_any}
use Rattle.std.specs.Option.{option_or}
use Rattle.std.specs.Str.{bytes_eq}
use Rattle.lwp_types.specs.TextFields.{is_text}
use Rattle.script_lines.specs.Phrase.{Phrase}
use Rattle.script_lines.specs.Table.{role_of, says}
use Rattle.script_text.specs.declared.draft.Draft.{Draft}
use Rattle.script_text.specs.declared.draft.Places.{Places}
use Rattle.script_text.specs.declared.script.ExitStmt.{ExitStmt}
use Rattle.script_text.specs.declared.script.Names.{Names}
use Rattle.script_text.specs.declared.script.NativeKind.{NativeKind}
use Rattle.script_text.specs.declared.script.Proc.{Proc}
use Rattle.script_text.specs.declared.script.Script.{Script}
use Rattle.script_text.specs.declared.script.Stmt.{Stmt}
use Rattle.script_text.specs.declared.script.Who.{Who}
use Rattle.script_lines.specs.declared.table.Op.{Op}
use Rattle.script_lines.specs.declared.table.Role.{Role}
use Rattle.script_lines.specs.declared.table.Whom.{Whom}
use Rattle.script_text.specs.declared.script.ExitStmt.TheVariants as exit
use Rattle.script_text.specs.declared.script.NativeKind.TheVariants as native
use Rattle.script_text.specs.declared.script.Stmt.TheVariants as stmt
use Rattle.script_text.specs.declared.script.Who.TheVariants as who
use Rattle.script_lines.specs.declared.table.Op.TheVariants as op
use Rattle.script_lines.specs.declared.table.Role.TheVariants as role
use Rattle.script_lines.specs.declared.table.Whom.TheVariants as whom

-- ---- Names and their numbers.

-- whether the name is in the list
abbrev pub contains_name : List (List ℕ) → List ℕ → Bool
contains_name names w = list_any (λ n. bytes_eq n w) names

-- a name's number: the place at which it first stands
abbrev pub place : List (List ℕ) → List ℕ → ℕ
place [] w = 0
place (n ∷ ns) w = if bytes_eq n w then 0 else suc (place ns w)

-- a text that isn't empty
abbrev pub is_some_text : List ℕ → Bool
is_some_text [] = false
is_some_text (b ∷ bs) = is_text (b ∷ bs)

-- a name that is new goes to the end; the empty word is none
abbrev pub enter : List (List ℕ) → List ℕ → List (List ℕ)
enter names w = if is_some_text w && not (contains_name names w) then names ++ w ∷ [] else names

-- a name's number; that of the empty word is 0
abbrev pub place_of : List (List ℕ) → List ℕ → ℕ
place_of names [] = 0
place_of names (b ∷ bs) = place names (b ∷ bs)

-- the names, and those of one more line
abbrev pub after_name : Names → Phrase → Names
after_name names p = record {
  procs = enter names.procs p.procedure;
  threads = enter names.threads p.thread;
  mons = enter names.mons p.monitor;
  conds = enter names.conds p.condition;
}

-- the texts, and that of one more line
abbrev pub with_text_of : List (List ℕ) → Phrase → List (List ℕ)
with_text_of texts p = if says p.op then texts ++ p.text ∷ [] else texts

-- where the names of a line stand, once they are entered, and where its text will, after these
abbrev pub places_of : Names → List (List ℕ) → Phrase → Places
places_of names texts p = record {
  thread = place_of names.threads p.thread;
  procedure = place_of names.procs p.procedure;
  monitor = place_of names.mons p.monitor;
  condition = place_of names.conds p.condition;
  text = length texts;
}

-- ---- Statements.

-- whom a word means: a name has this number
abbrev pub who_of : Whom → ℕ → Who
who_of whom.Named n = who.Named n
who_of whom.Me n = who.Me
who_of whom.First n = who.First
who_of whom.Sender n = who.Sender
who_of whom.Nobody n = who.Nobody
who_of whom.Any n = who.Nobody

-- from whom a word says to receive; None is anybody
abbrev pub from_of : Whom → ℕ → Option Who
from_of whom.Named n = Some (who.Named n)
from_of whom.Me n = Some who.Me
from_of whom.First n = Some who.First
from_of whom.Sender n = Some who.Sender
from_of whom.Nobody n = Some who.Nobody
from_of whom.Any n = None

-- what an exit procedure is to do
abbrev pub exit_statement : Op → Places → Phrase → Option ExitStmt
exit_statement op.ExitMonExit at p = Some (exit.MonExit at.monitor)
exit_statement op.ExitMonBreak at p = Some (exit.MonBreak at.monitor)
exit_statement op.ExitNotify at p = Some (exit.Notify at.condition)
exit_statement op.ExitBroadcast at p = Some (exit.Broadcast at.condition)
exit_statement op.ExitReply at p = Some (exit.Reply (who_of p.who at.thread) at.text)
exit_statement op.ExitResume at p = Some (exit.Resume (who_of p.who at.thread))
exit_statement op.ExitSetExit at p = Some (exit.SetExit p.number)
exit_statement op.ExitNote at p = Some (exit.Note at.text)
exit_statement _ at p = None

-- a statement that names nothing
abbrev pub plain_statement : Op → Phrase → Option Stmt
plain_statement op.Resched p = Some (stmt.Resched p.number)
plain_statement op.Sleep p = Some (stmt.Sleep p.number)
plain_statement op.SetMaxPri p = Some (stmt.SetMaxPri p.number)
plain_statement op.Me p = Some stmt.Me
plain_statement op.SetExit p = Some (stmt.SetExit p.number)
plain_statement op.GetExit p = Some stmt.GetExit
plain_statement op.PodExit p = Some (stmt.PodExit p.number)
plain_statement op.Threads p = Some stmt.Threads
plain_statement op.Senders p = Some stmt.Senders
plain_statement op.Receivers p = Some stmt.Receivers
plain_statement op.Monitors p = Some stmt.Monitors
plain_statement op.Conditions p = Some stmt.Conds
plain_statement op.Return p = Some stmt.Return
plain_statement op.Handle p = Some (stmt.Handle p.pattern p.func p.number)
plain_statement op.Unhandle p = Some stmt.Unhandle
plain_statement op.Raise p = Some (stmt.Raise p.number)
plain_statement op.ExcNotify p = Some (stmt.ExcNotify p.number)
plain_statement op.Bound p = Some (stmt.Bound p.number)
plain_statement op.UniqPatt p = Some stmt.UniqPatt
plain_statement op.Agents p = Some stmt.Agents
plain_statement op.Trap p = Some (stmt.Trap p.number)
plain_statement op.Skip p = Some (stmt.Skip p.test)
plain_statement op.Again p = Some stmt.Again
plain_statement _ p = None

-- a statement that names a monitor or a condition
abbrev pub lock_statement : Op → Places → Phrase → Option Stmt
lock_statement op.MonCreate at p = Some (stmt.MonCreate at.monitor)
lock_statement op.CvCreate at p = Some (stmt.CvCreate at.condition at.monitor)
lock_statement op.MonDestroy at p = Some (stmt.MonDestroy at.monitor)
lock_statement op.Enter at p = Some (stmt.Enter at.monitor)
lock_statement op.CondEnter at p = Some (stmt.CondEnter at.monitor)
lock_statement op.MonExit at p = Some (stmt.MonExit at.monitor)
lock_statement op.MonBreak at p = Some (stmt.MonBreak at.monitor)
lock_statement op.MonWaiters at p = Some (stmt.MonWaiters at.monitor)
lock_statement op.CvDestroy at p = Some (stmt.CvDestroy at.condition)
lock_statement op.Wait at p = Some (stmt.Wait at.condition)
lock_statement op.Notify at p = Some (stmt.Notify at.condition)
lock_statement op.Broadcast at p = Some (stmt.Broadcast at.condition)
lock_statement op.CvSend at p = Some (stmt.CvSend at.condition (who_of p.who at.thread))
lock_statement op.CvWaiters at p = Some (stmt.CvWaiters at.condition)
lock_statement _ at p = None

-- a statement that speaks of a thread, starts a procedure or has a text
abbrev pub thread_statement : Op → Places → Phrase → Option Stmt
thread_statement op.Create at p = Some (stmt.Create at.thread at.procedure p.number p.flags)
thread_statement op.Destroy at p = Some (stmt.Destroy (who_of p.who at.thread))
thread_statement op.Ping at p = Some (stmt.Ping (who_of p.who at.thread))
thread_statement op.Yield at p = Some (stmt.Yield (who_of p.who at.thread))
thread_statement op.Suspend at p = Some (stmt.Suspend (who_of p.who at.thread))
thread_statement op.Resume at p = Some (stmt.Resume (who_of p.who at.thread))
thread_statement op.Join at p = Some (stmt.Join (who_of p.who at.thread))
thread_statement op.SetPri at p = Some (stmt.SetPri (who_of p.who at.thread) p.number)
thread_statement op.Send at p = Some (stmt.Send (who_of p.who at.thread) p.room at.text)
thread_statement op.Recv at p = Some (stmt.Recv (from_of p.who at.thread) p.mode)
thread_statement op.Reply at p = Some (stmt.Reply (who_of p.who at.thread) at.text)
thread_statement op.Say at p = Some (stmt.Say at.text)
thread_statement op.CallProc at p = Some (stmt.CallProc at.procedure)
thread_statement op.Agent at p = Some (stmt.Agent at.thread p.number)
thread_statement _ at p = None

-- the statement of a line whose names and text stand so, if its row is one of a statement
abbrev pub statement_of : Op → Places → Phrase → Option Stmt
statement_of o at p = option_or (thread_statement o at p) (option_or (lock_statement o at p)
    (option_or (plain_statement o p) (option_map (λ x. stmt.OnExit x) (exit_statement o at p))))

-- the procedure with one more statement
abbrev pub with_statement : Option Stmt → Option Proc → Option Proc
with_statement None current = current
with_statement (Some s) None = None
with_statement (Some s) (Some p) = Some (record p { stmts = p.stmts ++ s ∷ [] })

-- ---- Lines.

-- no names of any kind
abbrev pub empty_names : Names
empty_names = record { procs = []; threads = []; mons = []; conds = [] }

-- the script of no lines; the limit on births is the greatest, unless a line says another
abbrev pub empty_draft : Draft
empty_draft = record {
  script = record {
    maxpri = 0;
    births = 4294967295;
    clients = [];
    natives = [];
    procs = [];
    posts = [];
    names = empty_names;
    texts = [];
  };
  current = None;
  posted = [];
}

-- the script, with the last procedure at its end
abbrev pub with_last_procedure : Draft → Script
with_last_procedure d = record d.script { procs = d.script.procs ++ option_to_list d.current }

-- the names and the text of a line are entered before it is added
abbrev pub after_enter : Draft → Phrase → Draft
after_enter d p = record d {
  script = record d.script { names = after_name d.script.names p; texts = with_text_of d.script.texts p };
}

-- one more statement of the procedure
abbrev pub after_push : Places → Draft → Phrase → Draft
after_push at d p = record d { current = with_statement (statement_of p.op at p) d.current }

-- what a built-in procedure is: a session has an event, and its store is the thread of this number
abbrev pub native_kind : ℕ → ℕ → NativeKind
native_kind event store = if event == 0 then native.Store else native.Session event store

-- one line more of this client
abbrev pub after_raise : ℕ → List ℕ → List ℕ
after_raise c [] = []
after_raise zero (n ∷ ns) = suc n ∷ ns
after_raise (suc c) (n ∷ ns) = n ∷ after_raise c ns

-- one more text
abbrev pub with_text : Draft → List ℕ → Draft
with_text d text = record d { script = record d.script { texts = d.script.texts ++ text ∷ [] } }

-- one more line of this client, whose text stands there
abbrev pub with_post : ℕ → ℕ → Draft → Draft
with_post client text d = record d {
  script = record d.script {
    posts = d.script.posts ++ record { client = client; seq = slice_index_or d.posted client 0; text = text } ∷ [];
  };
  posted = after_raise client d.posted;
}

-- a line by the part it plays: a procedure ends where the next one begins
abbrev pub after_add_at : Role → Places → Draft → Phrase → Draft
after_add_at role.Header at d p = d
after_add_at role.Pod at d p = record d { script = record d.script { maxpri = p.number } }
after_add_at role.Limit at d p = record d { script = record d.script { births = p.number } }
after_add_at role.Client at d p = record d {
  script = record d.script { clients = d.script.clients ++ p.event ∷ [] };
  posted = d.posted ++ 0 ∷ [];
}
after_add_at role.Native at d p = record d {
  script = record d.script {
    natives = d.script.natives ++ record { name = at.procedure; kind = native_kind p.event at.thread } ∷ [];
  };
}
after_add_at role.Proc at d p = record d {
  script = with_last_procedure d;
  current = Some (record { name = at.procedure; stmts = [] });
}
after_add_at role.Post at d p = with_post p.client at.text d
after_add_at role.Statement at d p = after_push at d p
after_add_at role.Skip at d p = after_push at d p
after_add_at role.Again at d p = after_push at d p

-- one more line
abbrev pub after_add : Draft → Phrase → Draft
after_add d p = after_add_at (role_of p.op)
    (places_of (after_name d.script.names p) d.script.texts p) (after_enter d p) p

-- what these lines have made
abbrev pub draft_of : List Phrase → Draft
draft_of lines = fold after_add empty_draft lines

-- the script that these lines say
abbrev pub script_of : List Phrase → Script
script_of lines = with_last_procedure (draft_of lines)
