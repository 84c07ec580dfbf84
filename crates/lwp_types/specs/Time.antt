-- The clock: it ticks, and whose timer falls due waits no longer.
use Rattle.lwp_types.specs.State.{Outcome, State, and_then, for_each, passes, thread_of}
use Rattle.lwp_types.specs.Unblock.{timeout_answer, unblock, zero_answer}
use Rattle.lwp_types.specs.declared.rows.Block.{Block}
use Rattle.lwp_types.specs.declared.rows.TimerRow.{TimerRow}
use Rattle.std.specs.List.{filter}
use Rattle.std.specs.Prelude.{Bool, List, [], false, if◌then◌else◌, map, nat_le, nat_lt, true, ℕ, ◌+◌, ◌∷◌}
use Rattle.lwp_types.specs.declared.call.Effect.TheVariants as effect
use Rattle.lwp_types.specs.declared.rows.Block.TheVariants as block

-- who waits so waits for nothing but the clock
abbrev pub is_sleeping : Block → Bool
is_sleeping block.Sleeping = true
is_sleeping _ = false

-- this thread sleeps
abbrev pub is_asleep_in : State → ℕ → Bool
is_asleep_in s t = passes (λ row. is_sleeping row.block) (thread_of s t)

-- its timer falls due: who sleeps goes on with 0, and who waits for a letter learns that none has come in time
abbrev pub time_out : ℕ → State → Outcome
time_out t s = unblock (if is_asleep_in s t then zero_answer else timeout_answer) t s

-- the tick of this timer has come
abbrev pub is_due : ℕ → TimerRow → Bool
is_due now row = nat_le row.due now

-- the threads whose timers are due, in the order in which the timers arrived
abbrev pub due_threads : State → List ℕ
due_threads s = map (λ row. row.tid) (filter (is_due s.now) s.timers)

-- the clock can tick
abbrev pub may_tick : State → Bool
may_tick s = nat_lt s.now 4294967295

-- the clock has ticked once more
abbrev pub after_tick : State → State
after_tick s = record s { now = s.now + 1 }

-- a tick; the threads whose timers it makes due go on, one after the other
abbrev pub tick : State → Outcome
tick s = and_then (record { after = after_tick s; effects = effect.Ticked (s.now + 1) ∷ [] })
    (λ now. for_each time_out (due_threads now) now)
