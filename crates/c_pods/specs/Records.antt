-- Calls as records.
use Rattle.c_pods.specs.declared.calls.CallRecord.{CallRecord}
use Rattle.lwp_types.specs.declared.call.Call.{Call}
use Rattle.lwp_types.specs.declared.call.Call.TheVariants as call
use Rattle.lwp_types.specs.declared.call.ExitCall.{ExitCall}
use Rattle.lwp_types.specs.declared.call.ExitCall.TheVariants as exit
use Rattle.lwp_types.specs.declared.call.Func.{Func}
use Rattle.lwp_types.specs.declared.call.Func.TheVariants as func
use Rattle.lwp_types.specs.declared.call.Mode.{Mode}
use Rattle.lwp_types.specs.declared.call.Mode.TheVariants as mode
use Rattle.lwp_types.specs.declared.call.Pattern.{Pattern}
use Rattle.lwp_types.specs.declared.call.Pattern.TheVariants as pattern
use Rattle.std.specs.Prelude.{List, None, Option, Some, [], false, true, ℕ}

-- no call, with nothing in it
abbrev pub no_call : CallRecord
no_call = record {
  kind = 4294967295;
  number = 0;
  arg = 0;
  prio = 0;
  exit = 0;
  target = 0;
  other = 0;
  room = 0;
  mode = 0;
  func = 0;
  any = false;
  suspended = false;
  nolastrites = false;
  server = false;
}

-- a call that is only its kind
abbrev pub of_kind : ℕ → CallRecord
of_kind kind = record no_call { kind = kind }

-- a call on a thread, a monitor or a condition
abbrev pub on_target : ℕ → ℕ → CallRecord
on_target kind target = record no_call { kind = kind; target = target }

-- a call with a number
abbrev pub of_number : ℕ → ℕ → CallRecord
of_number kind number = record no_call { kind = kind; number = number }

-- a call with a priority
abbrev pub of_prio : ℕ → ℕ → CallRecord
of_prio kind prio = record no_call { kind = kind; prio = prio }

-- the number of a handler's function
abbrev pub func_number : Func → ℕ
func_number func.Nothing = 0
func_number func.Give = 1
func_number func.Sum = 2

-- whom a receive names
abbrev pub with_source : Option ℕ → CallRecord → CallRecord
with_source None w = record w { any = true }
with_source (Some t) w = record w { target = t }

-- how a receive waits
abbrev pub with_mode : Mode → CallRecord → CallRecord
with_mode mode.Poll w = w
with_mode mode.Block w = record w { mode = 1 }
with_mode (mode.Until ticks) w = record w { mode = 2; number = ticks }

-- what a handler catches
abbrev pub with_pattern : Pattern → CallRecord → CallRecord
with_pattern pattern.All w = record w { any = true }
with_pattern (pattern.Num p) w = record w { number = p }

-- an exit procedure's call, on a thread, a monitor or a condition
abbrev pub exit_on : ℕ → ℕ → CallRecord
exit_on kind target = record no_call { kind = 52; exit = kind; target = target }

-- an exit procedure, as the call that sets it
abbrev pub exit_record : ExitCall → CallRecord
exit_record (exit.MonExit m) = exit_on 36 m
exit_record (exit.MonBreak m) = exit_on 37 m
exit_record (exit.Notify c) = exit_on 43 c
exit_record (exit.Broadcast c) = exit_on 44 c
exit_record (exit.Reply t text) = exit_on 19 t
exit_record (exit.Resume t) = exit_on 7 t
exit_record (exit.SetExit code) = record (exit_on 12 0) { number = code }
exit_record (exit.Note text) = exit_on 16 0

-- a call
abbrev pub call_record : Call → CallRecord
call_record (call.Create number prio flags) = record no_call {
  kind = 0;
  number = number;
  prio = prio;
  suspended = flags.suspended;
  nolastrites = flags.nolastrites;
  server = flags.server;
}
call_record (call.Destroy t) = on_target 1 t
call_record (call.Ping t) = on_target 2 t
call_record (call.Yield t) = on_target 3 t
call_record (call.Resched p) = of_prio 4 p
call_record (call.SetPri t p) = record (on_target 5 t) { prio = p }
call_record (call.Suspend t) = on_target 6 t
call_record (call.Resume t) = on_target 7 t
call_record (call.Join t) = on_target 8 t
call_record (call.Sleep ticks) = of_number 9 ticks
call_record call.Me = of_kind 10
call_record (call.SetMaxPri p) = of_prio 11 p
call_record (call.SetExit code) = of_number 12 code
call_record call.GetExit = of_kind 13
call_record (call.PodExit code) = of_number 14 code
call_record call.Threads = of_kind 15
call_record (call.Say text) = of_kind 16
call_record (call.Send t room text) = record (on_target 17 t) { room = room }
call_record (call.Recv from m) = with_mode m (with_source from (of_kind 18))
call_record (call.Reply t text) = on_target 19 t
call_record call.Senders = of_kind 20
call_record call.Receivers = of_kind 21
call_record (call.Agent e) = of_number 22 e
call_record call.Agents = of_kind 23
call_record (call.Trap e) = of_number 24 e
call_record call.MonCreate = of_kind 32
call_record (call.MonDestroy m) = on_target 33 m
call_record (call.Enter m) = on_target 34 m
call_record (call.CondEnter m) = on_target 35 m
call_record (call.MonExit m) = on_target 36 m
call_record (call.MonBreak m) = on_target 37 m
call_record call.Monitors = of_kind 38
call_record (call.MonWaiters m) = on_target 39 m
call_record (call.CvCreate m) = on_target 40 m
call_record (call.CvDestroy c) = on_target 41 c
call_record (call.Wait c) = on_target 42 c
call_record (call.Notify c) = on_target 43 c
call_record (call.Broadcast c) = on_target 44 c
call_record (call.CvSend c t) = record (on_target 45 c) { other = t }
call_record call.Conds = of_kind 46
call_record (call.CvWaiters c) = on_target 47 c
call_record (call.CallProc number) = of_number 48 number
call_record call.Return = of_kind 49
call_record (call.Handle p f arg) = with_pattern p (record (of_kind 50) { func = func_number f; arg = arg })
call_record call.Unhandle = of_kind 51
call_record (call.OnExit x) = exit_record x
call_record (call.Raise p) = of_number 53 p
call_record (call.ExcNotify p) = of_number 54 p
call_record (call.Bound p) = of_number 55 p
call_record call.UniqPatt = of_kind 56

-- the text of an exit procedure's call; the empty one, where it has none
abbrev pub exit_text : ExitCall → List ℕ
exit_text (exit.Reply t text) = text
exit_text (exit.Note text) = text
exit_text _ = []

-- the text of a call; the empty one, where it has none
abbrev pub call_text : Call → List ℕ
call_text (call.Say text) = text
call_text (call.Send t room text) = text
call_text (call.Reply t text) = text
call_text (call.OnExit x) = exit_text x
call_text _ = []
