-- Which calls end what another thread waits for, and which of them break a deadlock.
use Rattle.lwp_types.specs.declared.call.Call.{Call}
use Rattle.std.specs.Prelude.{Bool, false, true}
use Rattle.lwp_types.specs.declared.call.Call.TheVariants as call

-- the call can break a deadlock that its caller isn't in
abbrev pub can_break : Call → Bool
-- a thread of the deadlock dies, and who waits for it goes on
can_break (call.Destroy t) = true
-- who waits to enter the monitor has it
can_break (call.MonBreak m) = true
-- an exit procedure of a frame that goes does what one of these does
can_break call.Return = true
can_break (call.Raise p) = true
can_break (call.ExcNotify p) = true
can_break _ = false

-- the call can end the wait of another thread
abbrev pub can_free : Call → Bool
-- who waits for a letter, of anybody or of the caller
can_free (call.Send t room text) = true
-- who waits for the caller's reply
can_free (call.Reply t text) = true
-- who waits to enter the monitor
can_free (call.MonExit m) = true
-- who waits to enter the monitor that the caller leaves
can_free (call.Wait c) = true
-- who waits on the condition: it waits to enter the monitor from then on
can_free (call.Notify c) = true
can_free (call.Broadcast c) = true
can_free (call.CvSend c t) = true
can_free c = can_break c
