-- What the statements of a script call: a name means its id, and a text is the one at its place.
use Rattle.lwp_types.specs.Names.{Names, id_at, null_id}
use Rattle.lwp_types.specs.declared.call.Call.{Call}
use Rattle.lwp_types.specs.declared.call.ExitCall.{ExitCall}
use Rattle.script_text.specs.Script.{proc_number}
use Rattle.lists.specs.Texts.{text_at}
use Rattle.script_text.specs.declared.script.ExitStmt.{ExitStmt}
use Rattle.script_text.specs.declared.script.Script.{Script}
use Rattle.script_text.specs.declared.script.Stmt.{Stmt}
use Rattle.script_text.specs.declared.script.Who.{Who}
use Rattle.std.specs.Prelude.{List, option_map, ℕ}
use Rattle.lwp_types.specs.declared.call.Call.TheVariants as call
use Rattle.lwp_types.specs.declared.call.ExitCall.TheVariants as exit
use Rattle.script_text.specs.declared.script.ExitStmt.TheVariants as exit_stmt
use Rattle.script_text.specs.declared.script.Stmt.TheVariants as stmt
use Rattle.script_text.specs.declared.script.Who.TheVariants as who

-- whom a word means, where the last letter came from this sender
abbrev pub who_id : ℕ → Names → Who → ℕ
who_id sender names (who.Named i) = id_at names.threads i
who_id sender names who.Me = names.me
who_id sender names who.First = 0
who_id sender names who.Sender = sender
who_id sender names who.Nobody = null_id

-- what an exit procedure is to do: names mean what they mean as it is set
abbrev pub exit_call_of : List (List ℕ) → ℕ → Names → ExitStmt → ExitCall
exit_call_of texts sender names (exit_stmt.MonExit m) = exit.MonExit (id_at names.monitors m)
exit_call_of texts sender names (exit_stmt.MonBreak m) = exit.MonBreak (id_at names.monitors m)
exit_call_of texts sender names (exit_stmt.Notify c) = exit.Notify (id_at names.conditions c)
exit_call_of texts sender names (exit_stmt.Broadcast c) = exit.Broadcast (id_at names.conditions c)
exit_call_of texts sender names (exit_stmt.Reply to n) = exit.Reply (who_id sender names to) (text_at texts n)
exit_call_of texts sender names (exit_stmt.Resume w) = exit.Resume (who_id sender names w)
exit_call_of texts sender names (exit_stmt.SetExit code) = exit.SetExit code
exit_call_of texts sender names (exit_stmt.Note n) = exit.Note (text_at texts n)

-- what a statement calls that names nothing; a skip or an again makes no call, and nobody asks for it
abbrev pub plain_call : List (List ℕ) → Stmt → Call
plain_call texts (stmt.Resched p) = call.Resched p
plain_call texts (stmt.Sleep ticks) = call.Sleep ticks
plain_call texts (stmt.SetMaxPri p) = call.SetMaxPri p
plain_call texts stmt.Me = call.Me
plain_call texts (stmt.SetExit code) = call.SetExit code
plain_call texts stmt.GetExit = call.GetExit
plain_call texts (stmt.PodExit code) = call.PodExit code
plain_call texts stmt.Threads = call.Threads
plain_call texts stmt.Senders = call.Senders
plain_call texts stmt.Receivers = call.Receivers
plain_call texts (stmt.MonCreate m) = call.MonCreate
plain_call texts stmt.Monitors = call.Monitors
plain_call texts stmt.Conds = call.Conds
plain_call texts (stmt.Handle pat func arg) = call.Handle pat func arg
plain_call texts stmt.Unhandle = call.Unhandle
plain_call texts (stmt.Raise p) = call.Raise p
plain_call texts (stmt.ExcNotify p) = call.ExcNotify p
plain_call texts (stmt.Bound p) = call.Bound p
plain_call texts stmt.UniqPatt = call.UniqPatt
plain_call texts (stmt.Agent name e) = call.Agent e
plain_call texts stmt.Agents = call.Agents
plain_call texts (stmt.Trap e) = call.Trap e
plain_call texts (stmt.Say n) = call.Say (text_at texts n)
plain_call texts stmt.Return = call.Return
plain_call texts _ = call.Return

-- a statement that names monitors or conditions, or nothing
abbrev pub lock_call : List (List ℕ) → ℕ → Names → Stmt → Call
lock_call texts sender names (stmt.CvCreate c m) = call.CvCreate (id_at names.monitors m)
lock_call texts sender names (stmt.MonDestroy m) = call.MonDestroy (id_at names.monitors m)
lock_call texts sender names (stmt.Enter m) = call.Enter (id_at names.monitors m)
lock_call texts sender names (stmt.CondEnter m) = call.CondEnter (id_at names.monitors m)
lock_call texts sender names (stmt.MonExit m) = call.MonExit (id_at names.monitors m)
lock_call texts sender names (stmt.MonBreak m) = call.MonBreak (id_at names.monitors m)
lock_call texts sender names (stmt.MonWaiters m) = call.MonWaiters (id_at names.monitors m)
lock_call texts sender names (stmt.CvDestroy c) = call.CvDestroy (id_at names.conditions c)
lock_call texts sender names (stmt.Wait c) = call.Wait (id_at names.conditions c)
lock_call texts sender names (stmt.Notify c) = call.Notify (id_at names.conditions c)
lock_call texts sender names (stmt.Broadcast c) = call.Broadcast (id_at names.conditions c)
lock_call texts sender names (stmt.CvSend c w) = call.CvSend (id_at names.conditions c) (who_id sender names w)
lock_call texts sender names (stmt.CvWaiters c) = call.CvWaiters (id_at names.conditions c)
lock_call texts sender names s = plain_call texts s

-- a statement that names threads, or anything but procedures
abbrev pub thread_call : List (List ℕ) → ℕ → Names → Stmt → Call
thread_call texts sender names (stmt.Destroy w) = call.Destroy (who_id sender names w)
thread_call texts sender names (stmt.Ping w) = call.Ping (who_id sender names w)
thread_call texts sender names (stmt.Yield w) = call.Yield (who_id sender names w)
thread_call texts sender names (stmt.Suspend w) = call.Suspend (who_id sender names w)
thread_call texts sender names (stmt.Resume w) = call.Resume (who_id sender names w)
thread_call texts sender names (stmt.Join w) = call.Join (who_id sender names w)
thread_call texts sender names (stmt.SetPri w p) = call.SetPri (who_id sender names w) p
thread_call texts sender names (stmt.Send w room n) = call.Send (who_id sender names w) room (text_at texts n)
thread_call texts sender names (stmt.Recv from mode) = call.Recv (option_map (who_id sender names) from) mode
thread_call texts sender names (stmt.Reply w n) = call.Reply (who_id sender names w) (text_at texts n)
thread_call texts sender names (stmt.OnExit x) = call.OnExit (exit_call_of texts sender names x)
thread_call texts sender names s = lock_call texts sender names s

-- what any statement calls, one that names a procedure among them
abbrev pub call_of : Script → ℕ → Names → Stmt → Call
call_of script sender names (stmt.Create name number prio flags) = call.Create (proc_number script number) prio flags
call_of script sender names (stmt.CallProc number) = call.CallProc (proc_number script number)
call_of script sender names s = thread_call script.texts sender names s
