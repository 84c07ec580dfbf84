-- The monitors of a pod as the machine has them. The machine looks up the priorities that requests keep here, and says
-- not only what becomes of the monitors but also what becomes of the threads.
use Rattle.lwp_types.specs.Case.{Case, answer_case, refusal_case}
use Rattle.lwp_types.specs.MonitorRelease.{next_owner, release, requests_of, without_request}
use Rattle.lwp_types.specs.Monitors as machine
use Rattle.lwp_types.specs.State.{Outcome, State, priority_in, still}
use Rattle.lwp_types.specs.Unblock.{after_block, unblock, zero_answer}
use Rattle.monitors.specs.MonitorTable as table
use Rattle.monitors.specs.MonitorTable.{MonitorTable, machine_row}
use Rattle.monitors.specs.declared.requests.EntryRequest.{EntryRequest}
use Rattle.std.specs.List.{AllByRecursion}
use Rattle.std.specs.Prelude.{List, None, Option, Some, map, option_map, ℕ, ◌≡◌, ◌≢◌}
use Rattle.lwp_types.specs.declared.call.Answer.TheVariants as answer
use Rattle.lwp_types.specs.declared.call.LwpErr.TheVariants as error
use Rattle.lwp_types.specs.declared.rows.Block.TheVariants as block

-- the machine's state with these monitors
abbrev pub with_monitors : MonitorTable → State → State
with_monitors t s = record s {
  monitors = t.monitors;
  monitor_births = t.births;
  locks = t.locks;
  requests = map machine_row t.requests;
}

-- each request keeps the priority that its thread has by this account
abbrev pub AreRanked : (ℕ → ℕ) → List EntryRequest → Type 0
AreRanked priority rs = AllByRecursion (λ r. r.prio ≡ priority r.tid) rs

-- the thread that holds a monitor from now on goes on
abbrev pub with_owner : Option ℕ → State → Outcome
with_owner None s = still s
with_owner (Some u) s = unblock zero_answer u s

-- a monitor is born, or none may be
abbrev pub birth_case : Option ℕ → State → State → Case
birth_case None before after = refusal_case before error.NoRoom
birth_case (Some m) before after = answer_case after (answer.Monitor m)

-- The monitors answer each question as the machine does.

-- who waits to enter is who waits there
abbrev pub RequestsAgree : Type 0
RequestsAgree = (t : MonitorTable) (s : State) (m : ℕ)
    → requests_of (with_monitors t s).requests m ≡ map machine_row (table.requests_of t m)

-- who enters next is who enters next there
abbrev pub NextAgrees : Type 0
NextAgrees = (t : MonitorTable) (s : State) → AreRanked (priority_in s) t.requests → (m : ℕ)
    → next_owner (with_monitors t s) m ≡ option_map machine_row (table.next_request t m)

-- the threads that wait to enter are those that wait there
abbrev pub WaitersAgree : Type 0
WaitersAgree = (t : MonitorTable) (s : State) (m : ℕ)
    → map (λ r. r.tid) (requests_of (with_monitors t s).requests m) ≡ map (λ r. r.tid) (table.requests_of t m)

-- What is done to the monitors is what the machine does to them.

-- a monitor is born as there, where as many may be
abbrev pub BirthsAgree : Type 0
BirthsAgree = (t : MonitorTable) (s : State) → t.limit ≡ s.limit
    → machine.monitor_create (with_monitors t s)
    ≡ birth_case (table.newborn t) (with_monitors t s) (with_monitors (table.after_create t) s)

-- a thread enters as there
abbrev pub EntriesAgree : Type 0
EntriesAgree = (t : MonitorTable) (s : State) (u m : ℕ)
    → (machine.enter_case (with_monitors t s) u m).after ≡ with_monitors (table.after_enter t u m) s

-- a thread that has to wait comes after all others, as there
abbrev pub WaitsAgree : Type 0
WaitsAgree = (t : MonitorTable) (s : State) (u m p : ℕ)
    → machine.after_request (with_monitors t s) u m
    ≡ after_block (with_monitors (table.after_request t (record { mon = m; tid = u; prio = p; depth = 1 })) s)
    u (block.Entering m)

-- a monitor is released as there, and the thread that was next goes on
abbrev pub ReleasesAgree : Type 0
ReleasesAgree = (t : MonitorTable) (s : State) → AreRanked (priority_in s) t.requests → (m : ℕ)
    → release m (with_monitors t s) ≡ with_owner (table.next_owner t m) (with_monitors (table.after_release t m) s)

-- a thread leaves once as there, and the thread that holds the monitor then goes on
abbrev pub LeavesAgree : Type 0
LeavesAgree = (t : MonitorTable) (s : State) → AreRanked (priority_in s) t.requests → (m : ℕ)
    → machine.after_exit m (with_monitors t s)
    ≡ with_owner (table.owner_after t m) (with_monitors (table.after_exit t m) s)

-- what a thread asked for is forgotten as there
abbrev pub ForgettingAgrees : Type 0
ForgettingAgrees = (t : MonitorTable) (s : State) (u : ℕ)
    → with_monitors (table.after_forget t u) s
    ≡ record (with_monitors t s) { requests = without_request u (with_monitors t s).requests }

-- a priority that is given changes nothing there
abbrev pub RequeuesAgree : Type 0
RequeuesAgree = (t : MonitorTable) (s : State) (u p : ℕ)
    → with_monitors (table.after_requeue t u p) s ≡ with_monitors t s

-- Requests go on keeping the priorities of their threads.

-- also where some are gone, where one came that has its thread's, and where a thread has another priority
pub record RanksLast : Type 0 where
  pub forgotten : (priority : ℕ → ℕ) (t : MonitorTable) → AreRanked priority t.requests → (u : ℕ)
      → AreRanked priority (table.after_forget t u).requests
  pub released : (priority : ℕ → ℕ) (t : MonitorTable) → AreRanked priority t.requests → (m : ℕ)
      → AreRanked priority (table.after_release t m).requests
  pub exited : (priority : ℕ → ℕ) (t : MonitorTable) → AreRanked priority t.requests → (m : ℕ)
      → AreRanked priority (table.after_exit t m).requests
  pub requested : (priority : ℕ → ℕ) (t : MonitorTable) → AreRanked priority t.requests
      → (r : EntryRequest) → r.prio ≡ priority r.tid → AreRanked priority (table.after_request t r).requests
  pub requeued : (before after : ℕ → ℕ) (t : MonitorTable) (u p : ℕ) → AreRanked before t.requests
      → after u ≡ p → ((v : ℕ) → v ≢ u → after v ≡ before v) → AreRanked after (table.after_requeue t u p).requests
  pub same : (before after : ℕ → ℕ) (t : MonitorTable) → AreRanked before t.requests
      → ((v : ℕ) → after v ≡ before v) → AreRanked after t.requests
