-- Calls on conditions, each of one monitor.
use Rattle.lwp_types.specs.Case.{Case, Check, answer_case, is_at_limit, is_full, is_no_monitor, is_no_thread, list_case, silent_case, unless, value_case}
use Rattle.lwp_types.specs.Choice.{best_by}
use Rattle.lwp_types.specs.MonitorRelease.{last_lock, release}
use Rattle.lwp_types.specs.Monitors.{is_waited_in}
use Rattle.lwp_types.specs.State.{Outcome, State, is_empty, passes, priority_in, still, with_block}
use Rattle.lwp_types.specs.Unblock.{after_block}
use Rattle.lwp_types.specs.declared.rows.CondRow.{CondRow}
use Rattle.lwp_types.specs.declared.rows.Lock.{Lock}
use Rattle.lwp_types.specs.declared.rows.WaitRow.{WaitRow}
use Rattle.std.specs.List.{filter, find, fold}
use Rattle.std.specs.Prelude.{Bool, List, None, Option, Some, [], is_none, map, not, option_to_list, ℕ, ◌++◌, ◌+◌, ◌==◌, ◌∷◌}
use Rattle.lwp_types.specs.declared.call.Answer.TheVariants as answer
use Rattle.lwp_types.specs.declared.call.IdKind.TheVariants as kind
use Rattle.lwp_types.specs.declared.call.LwpErr.TheVariants as error
use Rattle.lwp_types.specs.declared.rows.Block.TheVariants as block

-- the row is that of condition c
abbrev pub is_condition : ℕ → CondRow → Bool
is_condition c row = row.number == c

-- the row of a live condition
abbrev pub condition_of : List CondRow → ℕ → Option CondRow
condition_of rows c = find (is_condition c) rows

-- all conditions but this one
abbrev pub without_condition : ℕ → List CondRow → List CondRow
without_condition c rows = filter (λ row. not (is_condition c row)) rows

-- the numbers of the conditions, in the rows' order
abbrev pub condition_numbers : List CondRow → List ℕ
condition_numbers rows = map (λ row. row.number) rows

-- there is no such condition
abbrev pub is_no_condition : State → ℕ → Check
is_no_condition s c = (is_none (condition_of s.conditions c), error.NonExist)

-- the lock is that of the condition's monitor
abbrev pub is_lock_of : Lock → Option CondRow → Bool
is_lock_of lock row = passes (λ r. r.mon == lock.mon) row

-- t may use a condition only of the monitor that it acquired last
abbrev pub is_not_last : State → ℕ → ℕ → Check
is_not_last s t c = (
  not (passes (λ lock. is_lock_of lock (condition_of s.conditions c)) (last_lock s.locks t)),
  error.NotOwned,
)

-- CvCreate: a condition of a monitor
abbrev pub condition_create : State → ℕ → Case
condition_create s m = unless s (is_no_monitor s m ∷ is_full 256 s.conditions ∷ is_at_limit s.condition_births s ∷ [])
    (answer_case (record s {
      conditions = s.conditions ++ record { number = s.condition_births; mon = m } ∷ [];
      condition_births = s.condition_births + 1;
    }) (answer.Cond s.condition_births))

-- CvDestroy: of a condition that nobody waits on
abbrev pub condition_destroy : State → ℕ → Case
condition_destroy s c = unless s (is_no_condition s c ∷ (is_waited_in s.waits c, error.InUse) ∷ [])
    (value_case (record s { conditions = without_condition c s.conditions }) 0)

-- who waits on a condition, in FIFO order
abbrev pub waits_on : List WaitRow → ℕ → List WaitRow
waits_on ws c = filter (λ w. w.cond == c) ws

-- the waits of all but one thread
abbrev pub without_wait : ℕ → List WaitRow → List WaitRow
without_wait t ws = filter (λ w. not (w.tid == t)) ws

-- the caller waits, and leaves the monitor altogether: the depth is kept for its return
abbrev pub after_wait : ℕ → ℕ → Option Lock → State → Outcome
after_wait t c None s = still s
after_wait t c (Some lock) s = release lock.mon (after_block
    (record s { waits = s.waits ++ record { cond = c; tid = t; depth = lock.depth } ∷ [] }) t (block.Waiting c))

-- Wait: until somebody wakes the caller
abbrev pub wait : State → ℕ → ℕ → Case
wait s t c = unless s (is_no_condition s c ∷ is_not_last s t c ∷ [])
    (silent_case (after_wait t c (last_lock s.locks t) s))

-- a woken thread waits to enter its monitor again, at the depth that it left, after those who wait for that already
abbrev pub after_wake : ℕ → WaitRow → State → State
after_wake m w s = record s {
  waits = without_wait w.tid s.waits;
  requests = s.requests ++ record { mon = m; tid = w.tid; depth = w.depth } ∷ [];
  threads = with_block w.tid (block.Entering m) s.threads;
}

-- all of these are woken, in order
abbrev pub after_wake_all : Option CondRow → List WaitRow → State → State
after_wake_all None ws s = s
after_wake_all (Some row) ws s = fold (λ now w. after_wake row.mon w now) s ws

-- what the three calls that wake have in common
abbrev pub waking : State → ℕ → ℕ → List Check → List WaitRow → Case
waking s t c more ws = unless s (is_no_condition s c ∷ is_not_last s t c ∷ more)
    (value_case (after_wake_all (condition_of s.conditions c) ws s) 0)

-- Notify: by the priorities of this moment, the first of the greatest is woken, if anybody waits
abbrev pub notify : State → ℕ → ℕ → Case
notify s t c = waking s t c [] (option_to_list (best_by (λ w. priority_in s w.tid) (waits_on s.waits c)))

-- Broadcast: all are woken
abbrev pub broadcast : State → ℕ → ℕ → Case
broadcast s t c = waking s t c [] (waits_on s.waits c)

-- that of one thread
abbrev pub wait_of : List WaitRow → ℕ → ℕ → List WaitRow
wait_of ws c to = filter (λ w. w.tid == to) (waits_on ws c)

-- CvSend: one thread is woken
abbrev pub cond_send : State → ℕ → ℕ → ℕ → Case
cond_send s t c to = waking s t c
    (is_no_thread s to ∷ (is_empty (wait_of s.waits c to), error.NoWait) ∷ []) (wait_of s.waits c to)

-- CvWaiters: who waits on the condition
abbrev pub condition_waiters : State → ℕ → Case
condition_waiters s c = unless s (is_no_condition s c ∷ [])
    (list_case s kind.Thread (map (λ w. w.tid) (waits_on s.waits c)))
