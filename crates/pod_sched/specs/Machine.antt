-- The scheduler and the machine: what it is to know the machine's threads, and that each change of the one is the
-- other's.
use Rattle.lwp_types.specs.Choice as choice
use Rattle.lwp_types.specs.Death as death
use Rattle.lwp_types.specs.Lawful.{is_same_option}
use Rattle.lwp_types.specs.State as machine
use Rattle.lwp_types.specs.State.{State, ThreadRow, is_not_blocked}
use Rattle.lwp_types.specs.Threads as threads
use Rattle.lwp_types.specs.Unblock as unblock
use Rattle.lwp_types.specs.declared.call.Flags.{Flags}
use Rattle.lwp_types.specs.declared.rows.Block.{Block}
use Rattle.lwp_types.specs.declared.rows.Mark.{Mark}
use Rattle.pod_sched.specs.Schedule as sched
use Rattle.pod_sched.specs.Schedule.{Schedule}
use Rattle.pod_sched.specs.declared.rows.Known.{Known}
use Rattle.std.specs.Prelude.{List, None, Option, Some, false, if◌then◌else◌, not, option_map, ℕ, ◌≡◌}

-- what a scheduler knows of a thread of the machine
abbrev pub known_of : ThreadRow → Known
known_of row = record {
  tid = row.number;
  prio = row.priority;
  suspended = row.suspended;
  blocked = not (is_not_blocked row.block);
}

-- what it knows of thread t: the dying one has left it
abbrev pub known_unless_dying : Option ℕ → State → ℕ → Option Known
known_unless_dying dying s t = if is_same_option dying t then None else option_map known_of (machine.thread_of s t)

-- the scheduler knows the machine's threads but the dying one, and has their order, their timers and the clock
pub record Shows (dying : Option ℕ) (v : Schedule) (s : State) : Type 0 where
  pub threads : (t : ℕ) → sched.thread_of v t ≡ known_unless_dying dying s t
  pub order : v.order ≡ s.order
  pub timers : v.timers ≡ s.timers
  pub now : v.now ≡ s.now
  pub maxpri : v.maxpri ≡ s.maxpri

-- thread t isn't the dying one
abbrev pub IsNotDying : Option ℕ → ℕ → Type 0
IsNotDying dying t = is_same_option dying t ≡ false

-- what is asked of a thread that isn't dying is answered alike
pub record AnswersAlike (v : Schedule) (s : State) (t : ℕ) : Type 0 where
  pub knows : sched.knows v t ≡ machine.is_thread s t
  pub priority : sched.priority_in v t ≡ machine.priority_in s t
  pub suspended : sched.is_suspended_in v t ≡ machine.is_suspended_in s t
  pub blocked : sched.is_blocked_in v t ≡ machine.is_blocked_in s t
  pub eligible : sched.is_eligible_in v t ≡ choice.is_eligible_in s t

-- one and the same change of both leaves them alike
abbrev pub KeepsShown : Option ℕ → (Schedule → Schedule) → (State → State) → Type 0
KeepsShown dying change move = (v : Schedule) (s : State) → Shows dying v s → Shows dying (change v) (move s)

-- a thread dies: the scheduler forgets it as the machine withdraws it, and has nothing to do as it is buried
pub record DeathsAreShown : Type 0 where
  pub begins : (v : Schedule) (s : State) (t : ℕ) → Shows None v s
      → Shows (Some t) (sched.after_leave v t) (death.withdraw t s).after
  pub ends : (v : Schedule) (s : State) (t : ℕ) → Shows (Some t) v s → Shows None v (death.bury t s).after

-- threads begin to wait, and go on
pub record WaitsAreShown (dying : Option ℕ) (t : ℕ) : Type 0 where
  pub blocked : (b : Block) → is_not_blocked b ≡ false
      → KeepsShown dying (λ v. sched.after_block v t) (λ s. unblock.after_block s t b)
  pub unblocked : KeepsShown dying (λ v. sched.after_unblock v t) (λ s. unblock.after_unblock s t)

-- threads are suspended, resumed and given priorities
pub record FlagsAreShown (dying : Option ℕ) (t : ℕ) : Type 0 where
  pub suspended : KeepsShown dying (λ v. sched.after_suspend v t) (λ s. threads.after_suspend s t)
  pub resumed : KeepsShown dying (λ v. sched.after_resume v t) (λ s. threads.after_resume s t)
  pub prioritized : (p : ℕ)
      → KeepsShown dying (λ v. sched.after_set_priority v t p) (λ s. threads.after_set_priority s t p)
  pub raised : (p : ℕ) → KeepsShown dying (λ v. sched.with_maxpri v p) (λ (s : State). record s { maxpri = p })

-- threads take turns
pub record TurnsAreShown : Type 0 where
  pub chosen : (v : Schedule) (s : State) → Shows None v s → sched.choice v ≡ choice.choice s
  pub yielded : (t to : ℕ) → KeepsShown None (λ v. sched.after_yield v t to) (λ s. threads.after_yield s t to)
  pub rescheduled : (p : ℕ) → KeepsShown None (λ v. sched.after_resched v p) (λ s. threads.after_resched s p)

-- a thread is born, where nobody is dying
abbrev pub BirthsAreShown : Type 0
BirthsAreShown = (v : Schedule) (s : State) (prio : ℕ) (flags : Flags) → Shows None v s
    → Shows None (sched.after_admit v s.births prio flags.suspended) (threads.after_create s prio flags)

-- the marks of a thread are no concern of a scheduler
abbrev pub MarksAreHidden : Type 0
MarksAreHidden = (dying : Option ℕ) (t : ℕ) (ms : List Mark) (v : Schedule) (s : State)
    → Shows dying v s → Shows dying v (machine.with_marks_of s t ms)
