-- The invariant between the parts, and which parts are lawful.
use Rattle.death_cleanup.specs.Named.{IsNoteOf}
use Rattle.death_cleanup.specs.View.{state_of}
use Rattle.death_cleanup.specs.declared.parts.Parts.{Parts}
use Rattle.lwp_types.specs.Lawful.{NineParts, is_same_option}
use Rattle.lwp_types.specs.State.{State, is_blocked_in, is_thread, priority_in}
use Rattle.pod_sched.specs.Schedule as sched
use Rattle.std.specs.List.{AllByRecursion}
use Rattle.std.specs.Prelude.{Option, length, not, ℕ, ◌&&◌, ◌+◌, ◌≡◌, ◌≤◌}

-- the scheduler knows the threads but the dying one, and agrees who waits
pub record IsTied (parts : Parts) : Type 0 where
  pub known : (t : ℕ) → sched.knows parts.sched t ≡ (is_thread (state_of parts) t && not (is_same_option parts.dying t))
  pub waits : (t : ℕ) → sched.is_blocked_in parts.sched t ≡ is_blocked_in (state_of parts) t

-- requests and waits have their threads' priorities
pub record IsRanked (parts : Parts) : Type 0 where
  pub requests : AllByRecursion (λ r. r.prio ≡ priority_in (state_of parts) r.tid) parts.mons.requests
  pub waits : AllByRecursion (λ w. w.prio ≡ priority_in (state_of parts) w.tid) parts.conds.waits

-- each thread and agent may wait with no more memory
pub record IsRoomy (parts : Parts) : Type 0 where
  pub letters : length (state_of parts).threads + length parts.agents.agents ≤ parts.mail.places
  pub threads : length (state_of parts).threads ≤ parts.sched.places
  pub requests : length (state_of parts).threads ≤ parts.mons.places
  pub waits : length (state_of parts).threads ≤ parts.conds.places

-- the invariant between the parts, which holds after each change of the machine's state
pub record InStep (parts : Parts) : Type 0 where
  pub tied : IsTied parts
  pub ranked : IsRanked parts
  pub roomy : IsRoomy parts
  pub monitors : parts.mons.limit ≡ parts.ids.limit
  pub conditions : parts.conds.limit ≡ parts.ids.limit
  pub noted : IsNoteOf parts.named parts.ids.live

-- lawful parts: their invariant holds, and they are a lawful state
pub record LawfulParts (parts : Parts) : Type 0 where
  pub nine : NineParts (state_of parts) parts.dying
  pub step : InStep parts

-- the threads are those of a lawful state
pub record HasLawfulThreads (s : State) : Type 0 where
  pub lawful : State
  pub dying : Option ℕ
  pub nine : NineParts lawful dying
  pub threads : lawful.threads ≡ s.threads
