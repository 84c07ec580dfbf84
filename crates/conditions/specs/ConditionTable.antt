-- The conditions of a pod as plain lists, and what each call on them makes of the lists.
use Rattle.conditions.specs.declared.waits.WaitRec.{WaitRec}
use Rattle.lwp_types.specs.Choice.{best_by}
use Rattle.lwp_types.specs.Conditions.{condition_of, without_condition}
use Rattle.lwp_types.specs.Monitors.{is_of_monitor, without_conditions_of}
use Rattle.lwp_types.specs.declared.rows.CondRow.{CondRow}
use Rattle.lwp_types.specs.declared.rows.WaitRow.{WaitRow}
use Rattle.std.specs.List.{filter, find, list_any}
use Rattle.std.specs.Prelude.{Bool, List, None, Option, Some, [], if◌then◌else◌, is_some, length, map}
use Rattle.std.specs.Prelude.{max, nat_le, not, option_map, ℕ, ◌&&◌, ◌++◌, ◌+◌, ◌==◌, ◌||◌, ◌∷◌}

-- all that there is of conditions
pub record ConditionTable : Type 0 where
  -- the live conditions, each of one monitor, in birth order
  pub conditions : List CondRow
  -- how many were ever born, and how many may be
  pub births : ℕ
  pub limit : ℕ
  -- who waits on a condition, in FIFO order
  pub waits : List WaitRec
  -- how many may wait without asking for memory
  pub places : ℕ

-- waits

-- the machine's row of a wait; the machine looks the priority up instead of keeping it
abbrev pub machine_row : WaitRec → WaitRow
machine_row w = record { cond = w.cond; tid = w.tid; depth = w.depth }

-- the wait is on condition c
abbrev pub is_on : ℕ → WaitRec → Bool
is_on c w = w.cond == c

-- the wait is that of thread t
abbrev pub is_wait_of : ℕ → WaitRec → Bool
is_wait_of t w = w.tid == t

-- the waits of all threads but t
abbrev pub without_wait : ℕ → List WaitRec → List WaitRec
without_wait t ws = filter (λ w. not (is_wait_of t w)) ws

-- a wait, with another priority where it is that of t
abbrev pub wait_with_priority : ℕ → ℕ → WaitRec → WaitRec
wait_with_priority t p w = record w { prio = if is_wait_of t w then p else w.prio }

-- the priority of t becomes p; the wait keeps its place
abbrev pub with_priority : ℕ → ℕ → List WaitRec → List WaitRec
with_priority t p ws = map (wait_with_priority t p) ws

-- questions

-- no condition can be born: so many are live, or the births are at their limit
abbrev pub is_full : ConditionTable → Bool
is_full s = nat_le 256 (length s.conditions) || nat_le s.limit s.births

-- the condition is live
abbrev pub is_live : ConditionTable → ℕ → Bool
is_live s c = is_some (condition_of s.conditions c)

-- the monitor of a live condition
abbrev pub monitor_of : ConditionTable → ℕ → Option ℕ
monitor_of s c = option_map (λ row. row.mon) (condition_of s.conditions c)

-- somebody waits on this condition
abbrev pub is_waited_in : List WaitRec → ℕ → Bool
is_waited_in ws c = list_any (is_on c) ws

-- somebody waits on a condition of this monitor
abbrev pub has_waits : ConditionTable → ℕ → Bool
has_waits s m = list_any (λ row. is_of_monitor m row && is_waited_in s.waits row.number) s.conditions

-- t waits on a condition
abbrev pub is_waiting : ConditionTable → ℕ → Bool
is_waiting s t = list_any (is_wait_of t) s.waits

-- who waits on a condition, in FIFO order
abbrev pub waits_on : ConditionTable → ℕ → List WaitRec
waits_on s c = filter (is_on c) s.waits

-- of those the one to notify: by the priorities of this moment, the first of the greatest
abbrev pub next_notified : ConditionTable → ℕ → Option WaitRec
next_notified s c = best_by (λ w. w.prio) (waits_on s c)

-- of those the one that came first
abbrev pub first_wait : ConditionTable → ℕ → Option WaitRec
first_wait s c = find (is_on c) s.waits

-- of those the one of thread t
abbrev pub wait_of : ConditionTable → ℕ → ℕ → Option WaitRec
wait_of s c t = find (λ w. is_on c w && is_wait_of t w) s.waits

-- the table after each call

-- no condition was ever born, and there is room for no wait
abbrev pub empty_table : ℕ → ConditionTable
empty_table limit = record { conditions = []; births = 0; limit = limit; waits = []; places = 0 }

-- places for n waits at least
abbrev pub after_reserve : ConditionTable → ℕ → ConditionTable
after_reserve s n = record s { places = max s.places n }

-- the number of a condition that is born now
abbrev pub newborn : ConditionTable → Option ℕ
newborn s = if is_full s then None else Some s.births

-- one condition of monitor m more, if one may be born
abbrev pub after_create : ConditionTable → ℕ → ConditionTable
after_create s m = if is_full s then s
    else record s { conditions = s.conditions ++ record { number = s.births; mon = m } ∷ []; births = s.births + 1 }

-- the condition is gone
abbrev pub after_destroy : ConditionTable → ℕ → ConditionTable
after_destroy s c = record s { conditions = without_condition c s.conditions }

-- all conditions of the monitor are gone
abbrev pub after_destroy_of : ConditionTable → ℕ → ConditionTable
after_destroy_of s m = record s { conditions = without_conditions_of m s.conditions }

-- one more waits, after all others
abbrev pub after_wait : ConditionTable → WaitRec → ConditionTable
after_wait s w = record s { waits = s.waits ++ w ∷ [] }

-- the thread that was chosen waits no more
abbrev pub after_wake : ConditionTable → Option WaitRec → ConditionTable
after_wake s None = s
after_wake s (Some w) = record s { waits = without_wait w.tid s.waits }

-- the priority of t is another from now on
abbrev pub after_requeue : ConditionTable → ℕ → ℕ → ConditionTable
after_requeue s t p = record s { waits = with_priority t p s.waits }

-- t waits no more
abbrev pub after_forget : ConditionTable → ℕ → ConditionTable
after_forget s t = record s { waits = without_wait t s.waits }
