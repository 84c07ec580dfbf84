-- The sessions of a program whose clients post.
use Rattle.event_gate.specs.Clients.{of}
use Rattle.event_gate.specs.History.{IsClientHistory}
use Rattle.lwp_explore.specs.Cores.{World}
use Rattle.lwp_types.specs.declared.call.Line.{Line}
use Rattle.pod_runner.specs.Due.{IsDefined}
use Rattle.pod_runner.specs.Play.{play}
use Rattle.pod_runner.specs.Snapshots.{taken_by}
use Rattle.pod_runner.specs.declared.session.Took.{Took}
use Rattle.script_session.specs.History.{pairs_of}
use Rattle.script_session.specs.SoFar.{setting_of}
use Rattle.script_body.specs.declared.thread_body.ThreadBody.{ThreadBody}
use Rattle.script_text.specs.Script.{lines_posted}
use Rattle.script_text.specs.declared.script.Script.{Script}
use Rattle.session_cores.specs.Core.{Core, core_of}
use Rattle.std.specs.Prelude.{List, length, ℕ, ◌<◌}
use Rattle.std.specs.List.{All}

-- a script, as a program whose clients post
abbrev pub world_of : Script → World ThreadBody
world_of script = record { setting = setting_of script; events = script.clients; posts = lines_posted script }

-- there is such a session: each call and each take could be made, and of each client the lines taken are its first, in order
pub record IsSession {B : Type 0} (world : World B) (takes : List Took) (n : ℕ) : Type 0 where
  pub made : IsDefined world.setting takes n
  pub left : List Line
  pub history : IsClientHistory world.events world.posts (pairs_of takes) left
  pub clients : All (λ took. took.line.client < length world.events) takes

-- its core after these takes and so many calls
abbrev pub core_at : {B : Type 0} → World B → List Took → ℕ → Core B
core_at world takes n = core_of (play world.setting takes n).live (taken_by (length world.events) takes)
