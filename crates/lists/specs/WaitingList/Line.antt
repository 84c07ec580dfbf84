-- Those that wait as a plain list, and what each call makes of it.
use Rattle.lwp_types.specs.Choice.{best_by}
use Rattle.std.specs.List.{filter, find, list_any}
use Rattle.std.specs.Prelude.{Bool, List, Option, [], if◌then◌else◌, map, max, not, ℕ, ◌&&◌, ◌++◌, ◌==◌, ◌∷◌}
use Rattle.lists.specs.declared.waiting_list.rows.Waiting.{Waiting}

-- all that there is of a line
pub record Line : Type 0 where
  -- who waits, in FIFO order
  pub waiting : List Waiting
  -- how many may wait without asking for memory
  pub places : ℕ

-- who waits there is thread t
abbrev pub is_thread : ℕ → Waiting → Bool
is_thread t w = w.tid == t

-- it waits for this
abbrev pub is_for : ℕ → Waiting → Bool
is_for n w = w.what == n

-- those that wait for this, in FIFO order
abbrev pub waiting_for : Line → ℕ → List Waiting
waiting_for s n = filter (is_for n) s.waiting

-- of those the first of the greatest priority
abbrev pub best_for : Line → ℕ → Option Waiting
best_for s n = best_by (λ w. w.prio) (waiting_for s n)

-- of those the one that came first
abbrev pub first_for : Line → ℕ → Option Waiting
first_for s n = find (is_for n) s.waiting

-- of those the one of thread t
abbrev pub thread_waiting_for : Line → ℕ → ℕ → Option Waiting
thread_waiting_for s n t = find (λ w. is_for n w && is_thread t w) s.waiting

-- thread t waits
abbrev pub has_thread : Line → ℕ → Bool
has_thread s t = list_any (is_thread t) s.waiting

-- one that waits, with another priority where it is thread t
abbrev pub waiting_with_priority : ℕ → ℕ → Waiting → Waiting
waiting_with_priority t p w = record w { prio = if is_thread t w then p else w.prio }

-- the line after each call

-- nobody waits, and there is room for nobody
abbrev pub empty_line : Line
empty_line = record { waiting = []; places = 0 }

-- places for n at least
abbrev pub after_reserve : Line → ℕ → Line
after_reserve s n = record s { places = max s.places n }

-- one more, after all others
abbrev pub after_join : Line → Waiting → Line
after_join s w = record s { waiting = s.waiting ++ w ∷ [] }

-- thread t waits no more
abbrev pub after_leave : Line → ℕ → Line
after_leave s t = record s { waiting = filter (λ w. not (is_thread t w)) s.waiting }

-- the priority of thread t is p from now on; it keeps its place
abbrev pub after_set_priority : Line → ℕ → ℕ → Line
after_set_priority s t p = record s { waiting = map (waiting_with_priority t p) s.waiting }
