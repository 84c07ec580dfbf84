-- What is asked of the living, and of a call.
use Rattle.death_cleanup.specs.View.{state_of}
use Rattle.death_cleanup.specs.declared.parts.Parts.{Parts}
use Rattle.death_cleanup.specs.declared.rows.Kind.{Kind}
use Rattle.death_cleanup.specs.declared.rows.Kind.TheVariants as kind
use Rattle.lwp_types.specs.Case.{Check}
use Rattle.lwp_types.specs.declared.call.LwpErr.{LwpErr}
pub use Rattle.pod_events.specs.Machine.{asks_memory}
use Rattle.std.specs.Prelude.{Bool, List, None, Option, Some, [], if◌then◌else◌, length, true, ◌*◌, ◌+◌, ◌∷◌, ◌≤◌}

-- the error of the first check that strikes
abbrev pub first_refusal : List Check → Option LwpErr
first_refusal [] = None
first_refusal (check ∷ checks) = if check.0 then Some check.1 else first_refusal checks

-- one thread more may live, and wait for whatever it may, with no more memory
pub record HasPlaces (parts : Parts) : Type 0 where
  pub living : length parts.ids.live + 1 ≤ parts.ids.places
  pub letters : length (state_of parts).threads + 1 + length parts.agents.agents ≤ parts.mail.places
  pub threads : length (state_of parts).threads + 1 ≤ parts.sched.places
  pub known : length parts.sched.threads + 1 ≤ parts.sched.places
  pub requests : length (state_of parts).threads + 1 ≤ parts.mons.places
  pub waits : length (state_of parts).threads + 1 ≤ parts.conds.places
  pub names : 2 * (length (state_of parts).threads + 1) ≤ parts.named.places

-- one agent more may live, and hold a letter, with no more memory
pub record HasAgentPlaces (parts : Parts) : Type 0 where
  pub living : length parts.ids.live + 1 ≤ parts.ids.places
  pub agents : length parts.agents.agents + 1 ≤ parts.agents.places
  pub letters : length (state_of parts).threads + (length parts.agents.agents + 1) ≤ parts.mail.places

-- the pod may end while it lives: an agent, or a thread that is a server
abbrev pub serves : Kind → Bool
serves (kind.Thread rec) = rec.flags.server
serves kind.Agent = true
