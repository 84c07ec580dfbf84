-- The monitors of a pod as plain lists, and what each call on them makes of the lists.
use Rattle.lwp_types.specs.Choice.{best_by}
use Rattle.lwp_types.specs.MonitorRelease.{is_owned_by, last_lock, lock_of, without_lock}
use Rattle.lwp_types.specs.Monitors.{depth_in, with_depth, with_entry}
use Rattle.lwp_types.specs.State.{member, without}
use Rattle.lwp_types.specs.declared.rows.Lock.{Lock}
use Rattle.lwp_types.specs.declared.rows.Request.{Request}
use Rattle.monitors.specs.declared.requests.EntryRequest.{EntryRequest}
use Rattle.std.specs.List.{filter, list_any}
use Rattle.std.specs.Prelude.{Bool, List, None, Option, Some, [], if◌then◌else◌, is_none, length, map, max, nat_le}
use Rattle.std.specs.Prelude.{nat_lt, not, option_map, true, ℕ, ◌&&◌, ◌++◌, ◌+◌, ◌-◌, ◌==◌, ◌||◌, ◌∷◌}

-- all that there is of monitors
pub record MonitorTable : Type 0 where
  -- the live monitors, in birth order
  pub monitors : List ℕ
  -- how many were ever born, and how many may be
  pub births : ℕ
  pub limit : ℕ
  -- the held monitors, in the order in which they were acquired
  pub locks : List Lock
  -- who waits to enter, in FIFO order
  pub requests : List EntryRequest
  -- how many may wait without asking for memory
  pub places : ℕ

-- requests

-- the machine's row of a request; the machine looks the priority up instead of keeping it
abbrev pub machine_row : EntryRequest → Request
machine_row r = record { mon = r.mon; tid = r.tid; depth = r.depth }

-- the request is that of thread t
abbrev pub is_request_of : ℕ → EntryRequest → Bool
is_request_of t r = r.tid == t

-- the requests of all threads but t
abbrev pub without_request : ℕ → List EntryRequest → List EntryRequest
without_request t rs = filter (λ r. not (is_request_of t r)) rs

-- a request, with another priority where it is that of t
abbrev pub request_with_priority : ℕ → ℕ → EntryRequest → EntryRequest
request_with_priority t p r = record r { prio = if is_request_of t r then p else r.prio }

-- the priority of t becomes p; the request keeps its place
abbrev pub with_priority : ℕ → ℕ → List EntryRequest → List EntryRequest
with_priority t p rs = map (request_with_priority t p) rs

-- questions

-- the monitor is live
abbrev pub is_live : MonitorTable → ℕ → Bool
is_live s m = member m s.monitors

-- no monitor can be born: so many are live, or the births are at their limit
abbrev pub is_full : MonitorTable → Bool
is_full s = nat_le 256 (length s.monitors) || nat_le s.limit s.births

-- who holds the monitor
abbrev pub owner_of : MonitorTable → ℕ → Option ℕ
owner_of s m = option_map (λ lock. lock.owner) (lock_of s.locks m)

-- nobody holds the monitor
abbrev pub is_free : MonitorTable → ℕ → Bool
is_free s m = is_none (lock_of s.locks m)

-- t need not wait for a monitor of this lock: there is none, or it is t's own and may be one deeper
abbrev pub may_enter : ℕ → Option Lock → Bool
may_enter t None = true
may_enter t (Some lock) = is_owned_by t lock && nat_lt lock.depth 65535

-- t waits to enter a monitor
abbrev pub has_request : MonitorTable → ℕ → Bool
has_request s t = list_any (is_request_of t) s.requests

-- nobody waits to enter this monitor
abbrev pub is_unwanted : MonitorTable → ℕ → Bool
is_unwanted s m = not (list_any (λ r. r.mon == m) s.requests)

-- who waits to enter a monitor, in FIFO order
abbrev pub requests_of : MonitorTable → ℕ → List EntryRequest
requests_of s m = filter (λ r. r.mon == m) s.requests

-- who enters next: by the priorities of this moment, the first of the greatest
abbrev pub next_request : MonitorTable → ℕ → Option EntryRequest
next_request s m = best_by (λ r. r.prio) (requests_of s m)

-- that one's thread
abbrev pub next_owner : MonitorTable → ℕ → Option ℕ
next_owner s m = option_map (λ r. r.tid) (next_request s m)

-- the table after each call

-- no monitor was ever born, and there is room for no request
abbrev pub empty_table : ℕ → MonitorTable
empty_table limit = record { monitors = []; births = 0; limit = limit; locks = []; requests = []; places = 0 }

-- places for n requests at least
abbrev pub after_reserve : MonitorTable → ℕ → MonitorTable
after_reserve s n = record s { places = max s.places n }

-- the number of a monitor that is born now
abbrev pub newborn : MonitorTable → Option ℕ
newborn s = if is_full s then None else Some s.births

-- one monitor more, if one may be born
abbrev pub after_create : MonitorTable → MonitorTable
after_create s = if is_full s then s else record s { monitors = s.monitors ++ s.births ∷ []; births = s.births + 1 }

-- the monitor is gone
abbrev pub after_destroy : MonitorTable → ℕ → MonitorTable
after_destroy s m = record s { monitors = without m s.monitors }

-- t enters
abbrev pub after_enter : MonitorTable → ℕ → ℕ → MonitorTable
after_enter s t m = record s { locks = with_entry t m (lock_of s.locks m) s.locks }

-- one more waits to enter, after all others
abbrev pub after_request : MonitorTable → EntryRequest → MonitorTable
after_request s r = record s { requests = s.requests ++ r ∷ [] }

-- nobody holds the monitor
abbrev pub after_give_up : MonitorTable → ℕ → MonitorTable
after_give_up s m = record s { locks = without_lock m s.locks }

-- a request is met: its thread holds the monitor at the depth that it asked for
abbrev pub with_grant : MonitorTable → Option EntryRequest → MonitorTable
with_grant s None = s
with_grant s (Some r) = record s {
  requests = without_request r.tid s.requests;
  locks = s.locks ++ record { mon = r.mon; owner = r.tid; depth = r.depth } ∷ [];
}

-- the thread that enters next holds the monitor
abbrev pub after_grant : MonitorTable → ℕ → MonitorTable
after_grant s m = with_grant s (next_request s m)

-- the owner holds the monitor no more, and then the thread that enters next holds it
abbrev pub after_release : MonitorTable → ℕ → MonitorTable
after_release s m = after_grant (after_give_up s m) m

-- the monitor of this lock, and who holds it after its release
abbrev pub release_of : MonitorTable → Lock → ℕ × Option ℕ
release_of s lock = (lock.mon, next_owner s lock.mon)

-- of the lock that t acquired last: which monitor is released, and who holds it then; t may hold none
abbrev pub released_last : MonitorTable → ℕ → Option (ℕ × Option ℕ)
released_last s t = option_map (release_of s) (last_lock s.locks t)

-- the monitor of a lock is released, if there is such a lock
abbrev pub with_release : MonitorTable → Option Lock → MonitorTable
with_release s None = s
with_release s (Some lock) = after_release s lock.mon

-- the lock that t acquired last is released, if t holds any
abbrev pub after_release_last : MonitorTable → ℕ → MonitorTable
after_release_last s t = with_release s (last_lock s.locks t)

-- leaving once leaves the monitor altogether
abbrev pub is_outermost : MonitorTable → ℕ → Bool
is_outermost s m = nat_le (depth_in s.locks m) 1

-- the owner leaves once; the last time the monitor is released
abbrev pub after_exit : MonitorTable → ℕ → MonitorTable
after_exit s m = if is_outermost s m then after_release s m
    else record s { locks = with_depth m (depth_in s.locks m - 1) s.locks }

-- who holds the monitor because its owner has left once
abbrev pub owner_after : MonitorTable → ℕ → Option ℕ
owner_after s m = if is_outermost s m then next_owner s m else None

-- the priority of t is another from now on
abbrev pub after_requeue : MonitorTable → ℕ → ℕ → MonitorTable
after_requeue s t p = record s { requests = with_priority t p s.requests }

-- t waits no more
abbrev pub after_forget : MonitorTable → ℕ → MonitorTable
after_forget s t = record s { requests = without_request t s.requests }
