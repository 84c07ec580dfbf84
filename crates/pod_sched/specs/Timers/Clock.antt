-- The clock and the timers as plain lists, and what each call makes of them.
use Rattle.lwp_types.specs.Time.{is_due}
use Rattle.lwp_types.specs.Unblock.{is_timer_of, without_timer}
use Rattle.lwp_types.specs.declared.rows.TimerRow.{TimerRow}
use Rattle.std.specs.List.{find, fold, list_any}
use Rattle.std.specs.Prelude.{Bool, List, None, Option, Some, [], max, min, ℕ, ◌++◌, ◌+◌, ◌∷◌}

-- all that is kept of the time
pub record Clock : Type 0 where
  -- in the order in which they were set
  pub timers : List TimerRow
  -- how often the clock has ticked
  pub now : ℕ
  -- how many timers there can be without asking for memory
  pub places : ℕ

-- of the timers whose tick has come, the first to have been set
abbrev pub first_due : List TimerRow → ℕ → Option TimerRow
first_due timers now = find (is_due now) timers

-- the tick at which the first of these timers falls due; without one, the greatest u64
abbrev pub next_due : List TimerRow → ℕ
next_due timers = fold (λ n row. min n row.due) 18446744073709551615 timers

-- the timer that was found is gone
abbrev pub without_found : Option TimerRow → List TimerRow → List TimerRow
without_found None timers = timers
without_found (Some row) timers = without_timer row.tid timers

-- thread t has a timer
abbrev pub has_timer : Clock → ℕ → Bool
has_timer c t = list_any (is_timer_of t) c.timers

-- the clock after each call

-- no timers, no places, before the first tick
abbrev pub first_clock : Clock
first_clock = record { timers = []; now = 0; places = 0 }

-- places for n timers at least
abbrev pub after_reserve : Clock → ℕ → Clock
after_reserve c n = record c { places = max c.places n }

-- it has ticked once more
abbrev pub after_tick : Clock → Clock
after_tick c = record c { now = c.now + 1 }

-- it has ticked so many times more
abbrev pub after_pass : Clock → ℕ → Clock
after_pass c n = record c { now = c.now + n }

-- one timer more
abbrev pub after_set : Clock → ℕ → ℕ → Clock
after_set c t due = record c { timers = c.timers ++ record { tid = t; due = due } ∷ [] }

-- the thread's timer is gone, if it has one
abbrev pub after_drop : Clock → ℕ → Clock
after_drop c t = record c { timers = without_timer t c.timers }

-- the first timer that is due is gone
abbrev pub after_pop : Clock → Clock
after_pop c = record c { timers = without_found (first_due c.timers c.now) c.timers }
