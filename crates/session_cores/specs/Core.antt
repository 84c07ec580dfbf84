-- The core of a session: all of it that counts for how it goes on.
use Rattle.lwp_types.specs.Names.{Names, names_for_poll, null_id}
use Rattle.lwp_types.specs.declared.call.Answer.{Answer}
use Rattle.pod_events.specs.Events.{EventState}
use Rattle.pod_runner.specs.Session.{Live}
use Rattle.pod_runner.specs.declared.session.Row.{Row}
use Rattle.std.specs.List.{AllByRecursion}
use Rattle.std.specs.Prelude.{List, map, ℕ, ◌≡◌}

-- a live thread: its number, its body, and the answer that the body is polled with next
pub record Mind (B : Type 0) : Type 0 where
  pub number : ℕ
  pub body : B
  pub answer : Answer

-- what a core is made of. How many calls were made, when lines were taken and what was written is no part of it
pub record Core (B : Type 0) : Type 0 where
  -- the pod with its own events
  pub pod : EventState
  -- the live threads, in birth order
  pub minds : List (Mind B)
  -- what the names mean, and nobody is polled
  pub names : Names
  -- how many lines of each client were taken
  pub taken : List ℕ

-- what counts of a thread: neither the procedure that it began in nor the call that it gave last
abbrev pub mind_of : {B : Type 0} → Row B → Mind B
mind_of row = record { number = row.tid; body = row.body; answer = row.answer }

-- the core of a session that stands so, where so many lines of each client were taken
abbrev pub core_of : {B : Type 0} → Live B → List ℕ → Core B
core_of live taken = record {
  pod = live.pod;
  minds = map mind_of live.rows;
  names = names_for_poll null_id live.names;
  taken = taken;
}

-- the bodies are all of this home: threads of one script, say; and nobody is polled
pub record IsCoreOf {Home B : Type 0} (is_of : Home → B → Type 0) (home : Home) (core : Core B) : Type 0 where
  pub bodies : AllByRecursion (λ mind. is_of home mind.body) core.minds
  pub nobody : core.names.me ≡ null_id
