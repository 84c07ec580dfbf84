-- Who is blocked stays so, and a deadlock lasts, but for the calls that can end it.
use Rattle.deadlock_laws.specs.Freeing.{can_break, can_free}
use Rattle.lwp_types.specs.Agents.{deliver}
use Rattle.lwp_types.specs.Lawful.{Lawful}
use Rattle.lwp_types.specs.State.{State, is_blocked_in, member, thread_of}
use Rattle.lwp_types.specs.Step.{step}
use Rattle.lwp_types.specs.Time.{after_tick, due_threads}
use Rattle.lwp_types.specs.declared.call.Call.{Call}
use Rattle.lwp_types.specs.declared.call.Effect.{Effect}
use Rattle.lwp_types.specs.declared.call.ExitCall.{ExitCall}
use Rattle.lwp_types.specs.declared.rows.Block.{Block}
use Rattle.state_text.specs.Waiting.{cycle_from, next_of}
use Rattle.std.specs.List.{list_any}
use Rattle.std.specs.Prelude.{Bool, IsTrue, List, None, Option, Some, false, option_map, true, ℕ, ◌&&◌, ◌==◌, ◌≡◌}
use Rattle.lwp_types.specs.declared.call.Call.TheVariants as call
use Rattle.lwp_types.specs.declared.call.Effect.TheVariants as effect
use Rattle.lwp_types.specs.declared.call.ExitCall.TheVariants as exit

-- what a live thread waits for
abbrev pub block_in : State → ℕ → Option Block
block_in s t = option_map (λ row. row.block) (thread_of s t)

-- who is blocked waits for the same after each call that can't end the wait of another
abbrev pub TheBlockedStay : Type 0
TheBlockedStay = (s : State) → Lawful s None → (c : Call) → can_free c ≡ false
    → (t : ℕ) → IsTrue (is_blocked_in s t) → block_in (step s c).after t ≡ block_in s t

-- who waits for one that is blocked itself waits for it still after each call that can't break a deadlock
abbrev pub TheirWaitersStay : Type 0
TheirWaitersStay = (s : State) → Lawful s None → (c : Call) → can_break c ≡ false
    → (t u : ℕ) → next_of s t ≡ Some u → IsTrue (is_blocked_in s u) → next_of (step s c).after t ≡ Some u

-- so each cycle is a cycle still
abbrev pub CyclesLast : Type 0
CyclesLast = (s : State) → Lawful s None → (c : Call) → can_break c ≡ false
    → (t : ℕ) (us : List ℕ) → cycle_from s t ≡ Some us → cycle_from (step s c).after t ≡ Some us

-- the delivery is a tick that makes the timer of t due
abbrev pub is_timed_out : State → ℕ → ℕ → Bool
is_timed_out s e t = (e == 0) && member t (due_threads (after_tick s))

-- who waits for one that is blocked itself waits for it still after each delivery that doesn't make its timer due
abbrev pub TheirWaitersStayInDeliveries : Type 0
TheirWaitersStayInDeliveries = (s : State) → Lawful s None → (e : ℕ) (text : List ℕ)
    → (t u : ℕ) → next_of s t ≡ Some u → IsTrue (is_blocked_in s u) → is_timed_out s e t ≡ false
    → next_of (deliver s e text).after t ≡ Some u

-- so each cycle is a cycle still, where no timer of its threads is due
abbrev pub CyclesLastInDeliveries : Type 0
CyclesLastInDeliveries = (s : State) → Lawful s None → (e : ℕ) (text : List ℕ)
    → (t : ℕ) (us : List ℕ) → cycle_from s t ≡ Some us → list_any (is_timed_out s e) us ≡ false
    → cycle_from (deliver s e text).after t ≡ Some us

-- the call breaks a monitor
abbrev pub is_break : Call → Bool
is_break (call.MonBreak m) = true
is_break _ = false

-- so does the exit procedure
abbrev pub is_exit_break : ExitCall → Bool
is_exit_break (exit.MonBreak m) = true
is_exit_break _ = false

-- the effect tells of a death, or of a MonBreak, as a call or as an exit procedure
abbrev pub is_breach : Effect → Bool
is_breach (effect.Died t) = true
is_breach (effect.Called t c) = is_break c
is_breach (effect.Exited t reg x a) = is_exit_break x
is_breach _ = false

-- each cycle is a cycle still after a step in which nobody dies and no monitor is broken
abbrev pub OnlyBreachesBreak : Type 0
OnlyBreachesBreak = (s : State) → Lawful s None → (c : Call) → list_any is_breach (step s c).effects ≡ false
    → (t : ℕ) (us : List ℕ) → cycle_from s t ≡ Some us → cycle_from (step s c).after t ≡ Some us
