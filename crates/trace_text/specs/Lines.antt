-- The lines of a trace: one for each effect, and the lines after the last step.
use Rattle.lwp_types.specs.State.{passes}
use Rattle.lwp_types.specs.declared.call.Answer.{Answer}
use Rattle.lwp_types.specs.declared.call.Call.{Call}
use Rattle.lwp_types.specs.declared.call.Effect.{Effect}
use Rattle.lwp_types.specs.declared.call.ExitCall.{ExitCall}
use Rattle.lwp_types.specs.declared.call.Flags.{Flags}
use Rattle.lwp_types.specs.declared.call.Func.{Func}
use Rattle.lwp_types.specs.declared.call.IdKind.{IdKind}
use Rattle.lwp_types.specs.declared.call.Line.{Line}
use Rattle.lwp_types.specs.declared.call.LwpErr.{LwpErr}
use Rattle.lwp_types.specs.declared.call.Mode.{Mode}
use Rattle.lwp_types.specs.declared.call.Pattern.{Pattern}
use Rattle.lwp_types.specs.Names.{null_id}
use Rattle.trace_text.specs.declared.ends.Halt.{Halt}
use Rattle.trace_text.specs.declared.ends.Halt.TheVariants.{Ended, Spent, Stuck}
use Rattle.std.specs.Fmt.{decimal, signed_decimal}
use Rattle.std.specs.List.{flat_map}
use Rattle.std.specs.Prelude.{Bool, List, None, Option, Some, [], codes, false, if◌then◌else◌, slice_index_or, true, ℕ, ◌++◌, ◌+◌, ◌==◌, ◌||◌, ◌∷◌}
use Rattle.lwp_types.specs.declared.call.LwpErr.TheVariants as error
use Rattle.lwp_types.specs.declared.call.Mode.TheVariants as mode
use Rattle.lwp_types.specs.declared.call.Pattern.TheVariants as pattern
use Rattle.lwp_types.specs.declared.call.Func.TheVariants as func
use Rattle.lwp_types.specs.declared.call.IdKind.TheVariants as kind
use Rattle.lwp_types.specs.declared.call.Answer.TheVariants as answer
use Rattle.lwp_types.specs.declared.call.ExitCall.TheVariants as exit
use Rattle.lwp_types.specs.declared.call.Call.TheVariants as call
use Rattle.lwp_types.specs.declared.call.Effect.TheVariants as effect

-- a text with a space before it; the empty text isn't printed, and neither is the space
abbrev pub with_space : List ℕ → List ℕ
with_space [] = []
with_space (b ∷ bs) = 32 ∷ b ∷ bs

-- a number after the letter of its kind, or `none`
abbrev pub id_text : List ℕ → ℕ → List ℕ
id_text letter n = if n == null_id then codes "none" else letter ++ decimal n

-- a thread or agent
abbrev pub thread_text : ℕ → List ℕ
thread_text t = id_text (codes "t") t

-- a monitor
abbrev pub monitor_text : ℕ → List ℕ
monitor_text m = id_text (codes "m") m

-- a condition
abbrev pub condition_text : ℕ → List ℕ
condition_text c = id_text (codes "c") c

-- in what a thread calls, its own number is `self`
abbrev pub who_text : Option ℕ → ℕ → List ℕ
who_text me t = if passes (λ u. u == t) me then codes "self" else thread_text t

-- a procedure by its name; `none` where there is no such procedure
abbrev pub proc_text : List (List ℕ) → ℕ → List ℕ
proc_text procs number = slice_index_or procs number (codes "none")

-- the letter of a flag that is set
abbrev pub letter_if : Bool → List ℕ → List ℕ
letter_if true letter = letter
letter_if false letter = []

-- the flags of a new thread
abbrev pub flags_text : Flags → List ℕ
flags_text flags = if flags.suspended || (flags.nolastrites || flags.server)
    then letter_if flags.suspended (codes "s")
    ++ (letter_if flags.nolastrites (codes "n") ++ letter_if flags.server (codes "v"))
    else codes "-"

abbrev pub mode_text : Mode → List ℕ
mode_text mode.Poll = codes "poll"
mode_text mode.Block = codes "wait"
mode_text (mode.Until ticks) = decimal ticks

-- a handler's pattern
abbrev pub pattern_text : Pattern → List ℕ
pattern_text pattern.All = codes "all"
pattern_text (pattern.Num p) = decimal p

-- the function of a handler
abbrev pub func_text : Func → List ℕ
func_text func.Nothing = codes "-"
func_text func.Give = codes "give"
func_text func.Sum = codes "sum"

-- whom a receive names, if anybody
abbrev pub source_text : Option ℕ → Option ℕ → List ℕ
source_text me None = codes "any"
source_text me (Some t) = who_text me t

-- what an exit procedure does
abbrev pub exit_text : Option ℕ → ExitCall → List ℕ
exit_text me (exit.MonExit m) = codes "monexit " ++ monitor_text m
exit_text me (exit.MonBreak m) = codes "monbreak " ++ monitor_text m
exit_text me (exit.Notify c) = codes "notify " ++ condition_text c
exit_text me (exit.Broadcast c) = codes "broadcast " ++ condition_text c
exit_text me (exit.Reply to text) = codes "reply " ++ (who_text me to ++ with_space text)
exit_text me (exit.Resume t) = codes "resume " ++ who_text me t
exit_text me (exit.SetExit code) = codes "setexit " ++ decimal code
exit_text me (exit.Note text) = codes "note" ++ with_space text

-- a call, written like its statement, but with numbers for names and without the name that it sets
abbrev pub call_text : List (List ℕ) → Option ℕ → Call → List ℕ
call_text procs me (call.Create number prio flags) = codes "create "
    ++ (proc_text procs number ++ (codes " " ++ (decimal prio ++ (codes " " ++ flags_text flags))))
call_text procs me (call.Destroy t) = codes "destroy " ++ who_text me t
call_text procs me (call.Ping t) = codes "ping " ++ who_text me t
call_text procs me (call.Yield t) = codes "yield " ++ who_text me t
call_text procs me (call.Resched p) = codes "resched " ++ decimal p
call_text procs me (call.SetPri t p) = codes "setpri " ++ (who_text me t ++ (codes " " ++ decimal p))
call_text procs me (call.Suspend t) = codes "suspend " ++ who_text me t
call_text procs me (call.Resume t) = codes "resume " ++ who_text me t
call_text procs me (call.Join t) = codes "join " ++ who_text me t
call_text procs me (call.Sleep ticks) = codes "sleep " ++ decimal ticks
call_text procs me call.Me = codes "self"
call_text procs me (call.SetMaxPri p) = codes "setmaxpri " ++ decimal p
call_text procs me (call.SetExit code) = codes "setexit " ++ decimal code
call_text procs me call.GetExit = codes "getexit"
call_text procs me (call.PodExit code) = codes "podexit " ++ decimal code
call_text procs me call.Threads = codes "threads"
call_text procs me (call.Send t room text) = codes "send "
    ++ (who_text me t ++ (codes " " ++ (decimal room ++ with_space text)))
call_text procs me (call.Recv from mode) = codes "recv " ++ (source_text me from ++ (codes " " ++ mode_text mode))
call_text procs me (call.Reply t text) = codes "reply " ++ (who_text me t ++ with_space text)
call_text procs me call.Senders = codes "senders"
call_text procs me call.Receivers = codes "receivers"
call_text procs me call.MonCreate = codes "moncreate"
call_text procs me (call.MonDestroy m) = codes "mondestroy " ++ monitor_text m
call_text procs me (call.Enter m) = codes "enter " ++ monitor_text m
call_text procs me (call.CondEnter m) = codes "condenter " ++ monitor_text m
call_text procs me (call.MonExit m) = codes "monexit " ++ monitor_text m
call_text procs me (call.MonBreak m) = codes "monbreak " ++ monitor_text m
call_text procs me call.Monitors = codes "monitors"
call_text procs me (call.MonWaiters m) = codes "monwaiters " ++ monitor_text m
call_text procs me (call.CvCreate m) = codes "cvcreate " ++ monitor_text m
call_text procs me (call.CvDestroy c) = codes "cvdestroy " ++ condition_text c
call_text procs me (call.Wait c) = codes "wait " ++ condition_text c
call_text procs me (call.Notify c) = codes "notify " ++ condition_text c
call_text procs me (call.Broadcast c) = codes "broadcast " ++ condition_text c
call_text procs me (call.CvSend c t) = codes "cvsend " ++ (condition_text c ++ (codes " " ++ who_text me t))
call_text procs me call.Conds = codes "conditions"
call_text procs me (call.CvWaiters c) = codes "cvwaiters " ++ condition_text c
call_text procs me (call.CallProc number) = codes "call " ++ proc_text procs number
call_text procs me call.Return = codes "return"
call_text procs me (call.Handle pat func arg) = codes "handle "
    ++ (pattern_text pat ++ (codes " " ++ (func_text func ++ (codes " " ++ decimal arg))))
call_text procs me call.Unhandle = codes "unhandle"
call_text procs me (call.OnExit x) = codes "onexit " ++ exit_text me x
call_text procs me (call.Raise p) = codes "raise " ++ decimal p
call_text procs me (call.ExcNotify p) = codes "excnotify " ++ decimal p
call_text procs me (call.Bound p) = codes "bound " ++ decimal p
call_text procs me call.UniqPatt = codes "uniqpatt"
call_text procs me (call.Agent e) = codes "agent " ++ decimal e
call_text procs me call.Agents = codes "agents"
call_text procs me (call.Trap e) = codes "trap " ++ decimal e
call_text procs me (call.Say text) = codes "say" ++ with_space text

-- an error by its name
abbrev pub error_text : LwpErr → List ℕ
error_text error.NoError = codes "LE_NOERROR"
error_text error.NonExist = codes "LE_NONEXIST"
error_text error.Timeout = codes "LE_TIMEOUT"
error_text error.InUse = codes "LE_INUSE"
error_text error.InvalidArg = codes "LE_INVALIDARG"
error_text error.NoRoom = codes "LE_NOROOM"
error_text error.NotOwned = codes "LE_NOTOWNED"
error_text error.IllPrio = codes "LE_ILLPRIO"
error_text error.NoWait = codes "LE_NOWAIT"

-- each number after a space
abbrev pub ids_text : IdKind → List ℕ → List ℕ
ids_text kind.Thread ids = flat_map (λ n. 32 ∷ thread_text n) ids
ids_text kind.Monitor ids = flat_map (λ n. 32 ∷ monitor_text n) ids
ids_text kind.Cond ids = flat_map (λ n. 32 ∷ condition_text n) ids

-- an answer, as it is printed after the thread
abbrev pub answer_text : Answer → List ℕ
answer_text (answer.Value v) = codes " = " ++ signed_decimal v
answer_text (answer.Thread t) = codes " = " ++ thread_text t
answer_text (answer.Monitor m) = codes " = " ++ monitor_text m
answer_text (answer.Cond c) = codes " = " ++ condition_text c
answer_text (answer.Letter from text room) = codes " = letter "
    ++ (thread_text from ++ (codes " " ++ (decimal room ++ with_space text)))
answer_text (answer.Reply text) = codes " = reply" ++ with_space text
answer_text (answer.Bound func arg) = codes " = bound " ++ (func_text func ++ (codes " " ++ decimal arg))
answer_text (answer.Caught depth mark p) = codes " caught " ++ decimal p
answer_text (answer.Ids kind ids) = codes " = ids" ++ ids_text kind ids
answer_text (answer.Refused e) = codes " ! " ++ error_text e

-- a line that a client has posted
abbrev pub posted_text : Line → List ℕ
posted_text line = codes " client "
    ++ (decimal line.client ++ (codes " seq " ++ (decimal line.seq ++ with_space line.text)))

-- a posted line that an event has taken
abbrev pub taken_text : ℕ → Line → List ℕ
taken_text e line = codes "event " ++ (decimal e ++ posted_text line)

-- a posted line that the clock has taken, which has ticked so often
abbrev pub ticked_text : ℕ → Line → List ℕ
ticked_text now line = codes "tick " ++ (decimal now ++ posted_text line)

-- the first delivery of a step prints the line that was taken for it, and a later one the agent that has the same text
abbrev pub delivered_text : ℕ → ℕ → Option Line → List ℕ
delivered_text agent e None = codes "also " ++ thread_text agent
delivered_text agent e (Some line) = taken_text e line

-- a tick prints the line that was taken for it
abbrev pub tick_text : ℕ → Option Line → List ℕ
tick_text now None = []
tick_text now (Some line) = ticked_text now line

-- a trap is raised in a thread
abbrev pub trapped_text : ℕ → ℕ → List ℕ
trapped_text t e = thread_text t ++ (codes " trap " ++ decimal e)

-- an agent hears of a death
abbrev pub rites_text : ℕ → ℕ → List ℕ
rites_text agent dead = codes "rites " ++ (thread_text dead ++ (codes " to " ++ thread_text agent))

-- the line of an effect, without its newline
abbrev pub line_text : List (List ℕ) → Option Line → Effect → List ℕ
line_text procs took (effect.Called t c) = thread_text t ++ (codes ": " ++ call_text procs (Some t) c)
line_text procs took (effect.Answered t a) = thread_text t ++ answer_text a
line_text procs took (effect.Exited t reg x a) = codes "exit x"
    ++ (decimal reg ++ (codes " " ++ (exit_text None x ++ answer_text a)))
line_text procs took (effect.Died t) = thread_text t ++ codes " dies"
line_text procs took (effect.Delivered agent e) = delivered_text agent e took
line_text procs took (effect.Ticked now) = tick_text now took
line_text procs took (effect.Ended status) = codes "pod ends " ++ decimal status
line_text procs took (effect.Trapped t e) = trapped_text t e
line_text procs took (effect.Rites agent dead) = rites_text agent dead

-- a text with a newline at its end
abbrev pub ended_line : List ℕ → List ℕ
ended_line text = text ++ 10 ∷ []

-- a line for each of these effects, of which none is the first of a take
abbrev pub later_lines : List (List ℕ) → List Effect → List ℕ
later_lines procs effects = flat_map (λ e. ended_line (line_text procs None e)) effects

-- a line for each effect of a step, in which this line was taken, if any: the first effect prints it
abbrev pub step_lines : List (List ℕ) → Option Line → List Effect → List ℕ
step_lines procs took [] = []
step_lines procs took (e ∷ es) = ended_line (line_text procs took e) ++ later_lines procs es

-- how a session ended, where the pod itself didn't
abbrev pub halt_text : ℕ → Halt → List ℕ
halt_text turns (Ended status) = []
halt_text turns Stuck = codes "stuck\n"
halt_text turns Spent = codes "spent " ++ (decimal turns ++ codes "\n")

-- the line of a client that has lines left
abbrev pub left_text : ℕ → ℕ → List ℕ
left_text c count = if count == 0 then []
    else codes "left client " ++ (decimal c ++ (codes " " ++ (decimal count ++ codes "\n")))

-- the lines of all clients that have lines left, counted from c
abbrev pub left_texts : ℕ → List ℕ → List ℕ
left_texts c [] = []
left_texts c (count ∷ counts) = left_text c count ++ left_texts (c + 1) counts

-- after the last step: the end, and how many lines of each client are left
abbrev pub end_text : ℕ → List ℕ → Halt → List ℕ
end_text turns left halt = halt_text turns halt ++ left_texts 0 left
