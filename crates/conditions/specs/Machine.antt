-- The conditions of a pod as the machine has them. The machine looks up the priorities that waits keep here, and says
-- not only what becomes of the conditions but also what becomes of the threads and of those that ask for monitors.
use Rattle.conditions.specs.ConditionTable as table
use Rattle.conditions.specs.ConditionTable.{ConditionTable, is_on, is_wait_of, machine_row}
use Rattle.conditions.specs.declared.waits.WaitRec.{WaitRec}
use Rattle.lwp_types.specs.Choice.{best_by}
use Rattle.lwp_types.specs.Conditions as machine
use Rattle.lwp_types.specs.Monitors as locks
use Rattle.lwp_types.specs.State.{State, priority_in}
use Rattle.std.specs.List.{AllByRecursion, count_by}
use Rattle.std.specs.Prelude.{List, None, Option, Some, [], length, map, option_map, option_to_list, ℕ, suc, zero, ◌&&◌, ◌++◌, ◌∷◌, ◌≡◌, ◌≢◌, ◌≤◌}

-- the machine's state with these conditions
abbrev pub with_conditions : ConditionTable → State → State
with_conditions t s = record s {
  conditions = t.conditions;
  condition_births = t.births;
  waits = map machine_row t.waits;
}

-- each wait keeps the priority that its thread has by this account
abbrev pub AreRanked : (ℕ → ℕ) → List WaitRec → Type 0
AreRanked priority ws = AllByRecursion (λ w. w.prio ≡ priority w.tid) ws

-- nobody waits twice on condition c
abbrev pub IsWaitedOnce : ConditionTable → ℕ → Type 0
IsWaitedOnce t c = (u : ℕ) → count_by (λ w. is_on c w && is_wait_of u w) t.waits ≤ 1

-- The conditions answer each question as the machine does.

-- somebody waits on a condition, or on one of a monitor, if somebody does there
abbrev pub WaitedAgrees : Type 0
WaitedAgrees = (t : ConditionTable) (s : State) (c : ℕ)
    → locks.is_waited_in (with_conditions t s).waits c ≡ table.is_waited_in t.waits c

abbrev pub HasWaitsAgrees : Type 0
HasWaitsAgrees = (t : ConditionTable) (s : State) (m : ℕ)
    → locks.has_waits (with_conditions t s) m ≡ table.has_waits t m

-- who waits on a condition is who waits on it there, and these are their threads
abbrev pub WaitsAgree : Type 0
WaitsAgree = (t : ConditionTable) (s : State) (c : ℕ)
    → machine.waits_on (with_conditions t s).waits c ≡ map machine_row (table.waits_on t c)

abbrev pub WaitersAgree : Type 0
WaitersAgree = (t : ConditionTable) (s : State) (c : ℕ)
    → map (λ w. w.tid) (machine.waits_on (with_conditions t s).waits c) ≡ map (λ w. w.tid) (table.waits_on t c)

-- who is notified is who is notified there
abbrev pub NextAgrees : Type 0
NextAgrees = (t : ConditionTable) (s : State) → AreRanked (priority_in s) t.waits → (c : ℕ)
    → best_by (λ w. priority_in s w.tid) (machine.waits_on (with_conditions t s).waits c)
    ≡ option_map machine_row (table.next_notified t c)

-- the wait of a thread is its wait there
abbrev pub WaitOfAgrees : Type 0
WaitOfAgrees = (t : ConditionTable) (s : State) (c u : ℕ) → IsWaitedOnce t c
    → machine.wait_of (with_conditions t s).waits c u ≡ option_to_list (option_map machine_row (table.wait_of t c u))

-- What is done to the conditions is what the machine does to them.

-- a thread that is woken waits no more, as there
abbrev pub WakingAgrees : Type 0
WakingAgrees = (t : ConditionTable) (s : State) (w : WaitRec)
    → with_conditions (table.after_wake t (Some w)) s
    ≡ record (with_conditions t s) { waits = machine.without_wait w.tid (with_conditions t s).waits }

-- what a thread waited for is forgotten as there
abbrev pub ForgettingAgrees : Type 0
ForgettingAgrees = (t : ConditionTable) (s : State) (u : ℕ)
    → with_conditions (table.after_forget t u) s
    ≡ record (with_conditions t s) { waits = machine.without_wait u (with_conditions t s).waits }

-- one more waits after all others, as there
abbrev pub WaitingAgrees : Type 0
WaitingAgrees = (t : ConditionTable) (s : State) (w : WaitRec)
    → with_conditions (table.after_wait t w) s
    ≡ record (with_conditions t s) { waits = map machine_row t.waits ++ machine_row w ∷ [] }

-- a priority that is given changes nothing there
abbrev pub RequeuesAgree : Type 0
RequeuesAgree = (t : ConditionTable) (s : State) (u p : ℕ)
    → with_conditions (table.after_requeue t u p) s ≡ with_conditions t s

-- To broadcast is to wake the first until nobody waits.

-- the first, and then others; without a first there are no others
abbrev pub first_and : Option WaitRec → List WaitRec → List WaitRec
first_and None ws = []
first_and (Some w) ws = w ∷ ws

-- whom n broadcasts wake, one after the other
abbrev pub woken_by : ℕ → ConditionTable → ℕ → List WaitRec
woken_by zero t c = []
woken_by (suc n) t c = first_and (table.first_wait t c) (woken_by n (table.after_wake t (table.first_wait t c)) c)

-- the first that is woken is the first that waits, and then the others wait
abbrev pub FirstIsWoken : Type 0
FirstIsWoken = (t : ConditionTable) (c : ℕ) → IsWaitedOnce t c → (w : WaitRec) → table.first_wait t c ≡ Some w
    → table.waits_on t c ≡ w ∷ table.waits_on (table.after_wake t (Some w)) c

-- nobody is woken only where nobody waits
abbrev pub NoneIsWoken : Type 0
NoneIsWoken = (t : ConditionTable) (c : ℕ) → table.first_wait t c ≡ None → table.waits_on t c ≡ []

-- as many broadcasts as there are waits wake all that wait on the condition, in the order of their arrival
abbrev pub AllAreWoken : Type 0
AllAreWoken = (t : ConditionTable) (c n : ℕ) → IsWaitedOnce t c → length (table.waits_on t c) ≤ n
    → woken_by n t c ≡ table.waits_on t c

-- Waits go on keeping the priorities of their threads.

-- also where some are gone, where one came that has its thread's, and where a thread has another priority
pub record RanksLast : Type 0 where
  pub forgotten : (priority : ℕ → ℕ) (t : ConditionTable) → AreRanked priority t.waits → (u : ℕ)
      → AreRanked priority (table.after_forget t u).waits
  pub waited : (priority : ℕ → ℕ) (t : ConditionTable) → AreRanked priority t.waits → (w : WaitRec)
      → w.prio ≡ priority w.tid → AreRanked priority (table.after_wait t w).waits
  pub requeued : (before after : ℕ → ℕ) (t : ConditionTable) (u p : ℕ) → AreRanked before t.waits
      → after u ≡ p → ((v : ℕ) → v ≢ u → after v ≡ before v) → AreRanked after (table.after_requeue t u p).waits
  pub same : (before after : ℕ → ℕ) (t : ConditionTable) → AreRanked before t.waits
      → ((v : ℕ) → after v ≡ before v) → AreRanked after t.waits
