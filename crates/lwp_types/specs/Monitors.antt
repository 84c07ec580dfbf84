-- Calls on monitors, which their owners may enter again.
use Rattle.lwp_types.specs.Case.{Case, Check, answer_case, is_at_limit, is_full, is_no_monitor, list_case, silent_case, unless, value_case, with_zero}
use Rattle.lwp_types.specs.MonitorRelease.{is_lock, is_owned_by, lock_of, release, requests_of}
use Rattle.lwp_types.specs.State.{Outcome, State, passes, still, without}
use Rattle.lwp_types.specs.Unblock.{after_block}
use Rattle.lwp_types.specs.declared.rows.CondRow.{CondRow}
use Rattle.lwp_types.specs.declared.rows.Lock.{Lock}
use Rattle.lwp_types.specs.declared.rows.WaitRow.{WaitRow}
use Rattle.std.specs.List.{filter, list_any}
use Rattle.std.specs.Prelude.{Bool, List, None, Option, Some, [], if◌then◌else◌, is_none, is_some, map, nat_le, not, option_map, unwrap_or, ℕ, ◌&&◌}
use Rattle.std.specs.Prelude.{◌++◌, ◌+◌, ◌-◌, ◌==◌, ◌∷◌}
use Rattle.lwp_types.specs.declared.call.Answer.TheVariants as answer
use Rattle.lwp_types.specs.declared.call.IdKind.TheVariants as kind
use Rattle.lwp_types.specs.declared.call.LwpErr.TheVariants as error
use Rattle.lwp_types.specs.declared.rows.Block.TheVariants as block

-- MonCreate: a monitor that nobody holds
abbrev pub monitor_create : State → Case
monitor_create s = unless s (is_full 256 s.monitors ∷ is_at_limit s.monitor_births s ∷ [])
    (answer_case
    (record s { monitors = s.monitors ++ s.monitor_births ∷ []; monitor_births = s.monitor_births + 1 })
    (answer.Monitor s.monitor_births))

-- the condition is one of monitor m
abbrev pub is_of_monitor : ℕ → CondRow → Bool
is_of_monitor m row = row.mon == m

-- the conditions of all monitors but m
abbrev pub without_conditions_of : ℕ → List CondRow → List CondRow
without_conditions_of m rows = filter (λ row. not (is_of_monitor m row)) rows

-- somebody waits on this condition
abbrev pub is_waited_in : List WaitRow → ℕ → Bool
is_waited_in ws c = list_any (λ w. w.cond == c) ws

-- somebody waits on a condition of this monitor
abbrev pub has_waits : State → ℕ → Bool
has_waits s m = list_any (λ row. is_of_monitor m row && is_waited_in s.waits row.number) s.conditions

-- the monitor is gone, and its conditions with it
abbrev pub after_monitor_destroy : State → ℕ → State
after_monitor_destroy s m = record s {
  monitors = without m s.monitors;
  conditions = without_conditions_of m s.conditions;
}

-- MonDestroy: of a monitor that is in nobody's use
abbrev pub monitor_destroy : State → ℕ → Case
monitor_destroy s m = unless s
    (is_no_monitor s m ∷ (is_some (lock_of s.locks m), error.InUse) ∷ (has_waits s m, error.InUse) ∷ [])
    (value_case (after_monitor_destroy s m) 0)

-- t has entered the monitor as often as is allowed
abbrev pub is_deepest : State → ℕ → ℕ → Check
is_deepest s t m = (passes (λ lock. is_owned_by t lock && nat_le 65535 lock.depth) (lock_of s.locks m), error.NoRoom)

-- another than t holds the monitor
abbrev pub is_owned_by_other : List Lock → ℕ → ℕ → Bool
is_owned_by_other locks t m = passes (λ lock. not (is_owned_by t lock)) (lock_of locks m)

-- t holds the monitor
abbrev pub is_owner : List Lock → ℕ → ℕ → Bool
is_owner locks t m = passes (is_owned_by t) (lock_of locks m)

-- how often the owner of a monitor has entered it, and 0 where nobody holds it
abbrev pub depth_in : List Lock → ℕ → ℕ
depth_in locks m = unwrap_or (option_map (λ lock. lock.depth) (lock_of locks m)) 0

-- a lock, at this depth if it is that of m
abbrev pub lock_with_depth : ℕ → ℕ → Lock → Lock
lock_with_depth m depth lock = record lock { depth = if is_lock m lock then depth else lock.depth }

-- of all locks, that of m is at this depth
abbrev pub with_depth : ℕ → ℕ → List Lock → List Lock
with_depth m depth locks = map (lock_with_depth m depth) locks

-- a free monitor is held from now on, and one that has this lock is held one deeper
abbrev pub with_entry : ℕ → ℕ → Option Lock → List Lock → List Lock
with_entry t m None locks = locks ++ record { mon = m; owner = t; depth = 1 } ∷ []
with_entry t m (Some lock) locks = with_depth m (lock.depth + 1) locks

-- t enters a free monitor, or its own once more; the answer is how often it had entered it before
abbrev pub enter_case : State → ℕ → ℕ → Case
enter_case s t m = value_case (record s { locks = with_entry t m (lock_of s.locks m) s.locks }) (depth_in s.locks m)

-- the caller waits to enter
abbrev pub after_request : State → ℕ → ℕ → State
after_request s t m = after_block
    (record s { requests = s.requests ++ record { mon = m; tid = t; depth = 1 } ∷ [] }) t (block.Entering m)

-- a monitor that another holds has to be waited for
abbrev pub entering : State → ℕ → ℕ → Case
entering s t m = if is_owned_by_other s.locks t m then silent_case (still (after_request s t m)) else enter_case s t m

-- Enter: waits where it must
abbrev pub enter : State → ℕ → ℕ → Case
enter s t m = unless s (is_no_monitor s m ∷ is_deepest s t m ∷ []) (entering s t m)

-- CondEnter: is refused where Enter would wait
abbrev pub cond_enter : State → ℕ → ℕ → Case
cond_enter s t m = unless s (is_no_monitor s m ∷ (is_owned_by_other s.locks t m, error.InUse) ∷ is_deepest s t m ∷ [])
    (enter_case s t m)

-- the owner leaves once; the last time the monitor becomes free
abbrev pub after_exit : ℕ → State → Outcome
after_exit m s = if nat_le (depth_in s.locks m) 1 then release m s
    else still (record s { locks = with_depth m (depth_in s.locks m - 1) s.locks })

-- MonExit: the owner leaves once
abbrev pub monitor_exit : State → ℕ → ℕ → Case
monitor_exit s t m =
    unless s (is_no_monitor s m ∷ (not (is_owner s.locks t m), error.InvalidArg) ∷ []) (with_zero (after_exit m s))

-- MonBreak: its owner, if there is any, loses it at any depth
abbrev pub monitor_break : State → ℕ → Case
monitor_break s m =
    unless s (is_no_monitor s m ∷ (is_none (lock_of s.locks m), error.NotOwned) ∷ []) (with_zero (release m s))

-- MonWaiters: who waits to enter
abbrev pub monitor_waiters : State → ℕ → Case
monitor_waiters s m = unless s (is_no_monitor s m ∷ [])
    (list_case s kind.Thread (map (λ r. r.tid) (requests_of s.requests m)))
