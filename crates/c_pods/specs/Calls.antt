-- The calls that records mean.
use Rattle.lwp_types.specs.declared.call.Call.{Call}
use Rattle.lwp_types.specs.declared.call.Call.TheVariants as call
use Rattle.lwp_types.specs.declared.call.ExitCall.{ExitCall}
use Rattle.lwp_types.specs.declared.call.ExitCall.TheVariants as exit
use Rattle.lwp_types.specs.declared.call.Flags.{Flags}
use Rattle.lwp_types.specs.declared.call.Func.{Func}
use Rattle.lwp_types.specs.declared.call.Func.TheVariants as func
use Rattle.lwp_types.specs.declared.call.Mode.{Mode}
use Rattle.lwp_types.specs.declared.call.Mode.TheVariants as mode
use Rattle.lwp_types.specs.declared.call.Pattern.{Pattern}
use Rattle.lwp_types.specs.declared.call.Pattern.TheVariants as pattern
use Rattle.c_pods.specs.declared.calls.CallRecord.{CallRecord}
use Rattle.std.specs.Prelude.{Bool, List, None, Option, Some, if◌then◌else◌, nat_lt, option_map, ℕ, ◌==◌}

abbrev pub func_of : ℕ → Option Func
func_of n = if n == 0 then Some func.Nothing else if n == 1 then Some func.Give else if n == 2 then Some func.Sum else None

abbrev pub mode_of : ℕ → ℕ → Option Mode
mode_of n ticks = if n == 0 then Some mode.Poll else if n == 1 then Some mode.Block else if n == 2 then Some (mode.Until ticks) else None

abbrev pub pattern_of : Bool → ℕ → Pattern
pattern_of any n = if any then pattern.All else pattern.Num n

abbrev pub flags_of : CallRecord → Flags
flags_of w = record { suspended = w.suspended; nolastrites = w.nolastrites; server = w.server }

-- calls on threads, on the pod and of letters
abbrev pub plain_call : CallRecord → List ℕ → Option Call
plain_call w text = if w.kind == 0 then Some (call.Create w.number w.prio (flags_of w))
    else if w.kind == 1 then Some (call.Destroy w.target) else if w.kind == 2 then Some (call.Ping w.target)
    else if w.kind == 3 then Some (call.Yield w.target) else if w.kind == 4 then Some (call.Resched w.prio)
    else if w.kind == 5 then Some (call.SetPri w.target w.prio) else if w.kind == 6 then Some (call.Suspend w.target)
    else if w.kind == 7 then Some (call.Resume w.target) else if w.kind == 8 then Some (call.Join w.target)
    else if w.kind == 9 then Some (call.Sleep w.number) else if w.kind == 10 then Some call.Me
    else if w.kind == 11 then Some (call.SetMaxPri w.prio) else if w.kind == 12 then Some (call.SetExit w.number)
    else if w.kind == 13 then Some call.GetExit else if w.kind == 14 then Some (call.PodExit w.number)
    else if w.kind == 15 then Some call.Threads else if w.kind == 16 then Some (call.Say text)
    else if w.kind == 17 then Some (call.Send w.target w.room text)
    else if w.kind == 18 then option_map (λ m. call.Recv (if w.any then None else Some w.target) m) (mode_of w.mode w.number)
    else if w.kind == 19 then Some (call.Reply w.target text) else if w.kind == 20 then Some call.Senders
    else if w.kind == 21 then Some call.Receivers else if w.kind == 22 then Some (call.Agent w.number)
    else if w.kind == 23 then Some call.Agents else if w.kind == 24 then Some (call.Trap w.number) else None

-- calls on monitors and conditions, by kind and target
abbrev pub lock_call : ℕ → ℕ → ℕ → Option Call
lock_call kind target other = if kind == 32 then Some call.MonCreate else if kind == 33 then Some (call.MonDestroy target)
    else if kind == 34 then Some (call.Enter target) else if kind == 35 then Some (call.CondEnter target)
    else if kind == 36 then Some (call.MonExit target) else if kind == 37 then Some (call.MonBreak target)
    else if kind == 38 then Some call.Monitors else if kind == 39 then Some (call.MonWaiters target)
    else if kind == 40 then Some (call.CvCreate target) else if kind == 41 then Some (call.CvDestroy target)
    else if kind == 42 then Some (call.Wait target) else if kind == 43 then Some (call.Notify target)
    else if kind == 44 then Some (call.Broadcast target) else if kind == 45 then Some (call.CvSend target other)
    else if kind == 46 then Some call.Conds else if kind == 47 then Some (call.CvWaiters target) else None

-- the call that an exit procedure makes
abbrev pub exit_call : CallRecord → List ℕ → Option ExitCall
exit_call w text = if w.exit == 36 then Some (exit.MonExit w.target) else if w.exit == 37 then Some (exit.MonBreak w.target)
    else if w.exit == 43 then Some (exit.Notify w.target) else if w.exit == 44 then Some (exit.Broadcast w.target)
    else if w.exit == 19 then Some (exit.Reply w.target text) else if w.exit == 7 then Some (exit.Resume w.target)
    else if w.exit == 12 then Some (exit.SetExit w.number) else if w.exit == 16 then Some (exit.Note text) else None

-- calls on the caller's stack
abbrev pub stack_call : CallRecord → List ℕ → Option Call
stack_call w text = if w.kind == 48 then Some (call.CallProc w.number) else if w.kind == 49 then Some call.Return
    else if w.kind == 50 then option_map (λ f. call.Handle (pattern_of w.any w.number) f w.arg) (func_of w.func)
    else if w.kind == 51 then Some call.Unhandle else if w.kind == 52 then option_map call.OnExit (exit_call w text)
    else if w.kind == 53 then Some (call.Raise w.number) else if w.kind == 54 then Some (call.ExcNotify w.number)
    else if w.kind == 55 then Some (call.Bound w.number) else if w.kind == 56 then Some call.UniqPatt else None

-- the call that a record and a text mean, if they mean one
unfoldable pub call_of : CallRecord → List ℕ → Option Call
call_of w text = if nat_lt w.kind 32 then plain_call w text
    else if nat_lt w.kind 48 then lock_call w.kind w.target w.other else stack_call w text
