-- That a core is all of a session that counts.
use Rattle.event_gate.specs.Clients.{IsNumbered, of}
use Rattle.lwp_explore.specs.Cores.{World, after, first_core}
use Rattle.lwp_explore.specs.Sessions.{IsSession, core_at}
use Rattle.lwp_types.specs.Poll.{Next}
use Rattle.lwp_explore.specs.Ways.{way, way_text}
use Rattle.pod_runner.specs.Play.{play}
use Rattle.pod_runner.specs.Session.{Live, move, take_move}
use Rattle.pod_runner.specs.Trace.{lines}
use Rattle.pod_runner.specs.declared.session.Took.{Took}
use Rattle.search.specs.Moves.{walk}
use Rattle.session_cores.specs.Core.{Core, core_of}
use Rattle.std.specs.Prelude.{List, Some, length, ℕ, ◌+◌, ◌≡◌}

-- two sessions with the same core make the same call, which leads to the same core
pub record CallsAlike (B : Type 0) : Type 0 where
  pub to : (next : Next B) (bodies : List B) (a b : Live B) (taken others : List ℕ) → core_of a taken ≡ core_of b others
      → core_of (move next bodies a).live taken ≡ core_of (move next bodies b).live others
  pub effects : (next : Next B) (bodies : List B) (a b : Live B) (taken others : List ℕ) → core_of a taken ≡ core_of b others
      → (move next bodies a).effects ≡ (move next bodies b).effects

-- and the take of a line leads both to the same core, and does the same
pub record TakesAlike (B : Type 0) : Type 0 where
  pub to : (bodies : List B) (took : Took) (a b : Live B) (taken others more : List ℕ) → core_of a taken ≡ core_of b others
      → core_of (take_move bodies took a).live more ≡ core_of (take_move bodies took b).live more
  pub effects : (bodies : List B) (took : Took) (a b : Live B) (taken others : List ℕ) → core_of a taken ≡ core_of b others
      → (take_move bodies took a).effects ≡ (take_move bodies took b).effects

-- steps lead to the core of each session whose takes are what its clients post, in order
abbrev pub SessionsHaveCores : Type 0 → Type 0
SessionsHaveCores B = (world : World B) (takes : List Took) (n : ℕ) → IsSession world takes n
    → (path : List ℕ) × (walk (after world) (first_core world) path ≡ Some (core_at world takes n))

-- and each core that steps lead to is that of such a session, with a call or a take for each step
pub record IsOfSession {B : Type 0} (world : World B) (path : List ℕ) (core : Core B) : Type 0 where
  pub takes : List Took
  pub calls : ℕ
  pub session : IsSession world takes calls
  pub same : core ≡ core_at world takes calls
  pub steps : length path ≡ calls + length takes

-- so it is where the lines that each client posts are numbered from 0
abbrev pub CoresHaveSessions : Type 0 → Type 0
CoresHaveSessions B = (world : World B) → ((c : ℕ) → IsNumbered 0 (of c world.posts)) → (path : List ℕ) (core : Core B)
    → walk (after world) (first_core world) path ≡ Some core → IsOfSession world path core

-- a path leads to the core of a session, and the session's trace is what the steps along it write
pub record HasPath {B : Type 0} (world : World B) (procs : List (List ℕ)) (takes : List Took) (n : ℕ) : Type 0 where
  pub path : List ℕ
  pub leads : walk (after world) (first_core world) path ≡ Some (core_at world takes n)
  pub trace : lines procs (play world.setting takes n).steps ≡ way_text procs (way world path)

-- so it is with each session, whatever the procedures are named
abbrev pub SessionsHavePaths : Type 0 → Type 0
SessionsHavePaths B = (world : World B) (procs : List (List ℕ)) (takes : List Took) (n : ℕ) → IsSession world takes n → HasPath world procs takes n
