-- What a run is before a step: what the private functions of a run need of it, over gates and over inlets. Anyone who calls
-- a run from without sees the session alone.
use Rattle.lwp_types.specs.Poll.{Next}
use Rattle.pod_runner.specs.Due.{IsDefined}
use Rattle.pod_runner.specs.Run.{Played, setting_of}
use Rattle.std.specs.Prelude.{List, false, ◌≡◌, ◌≤◌}

-- the run hasn't failed, its session is one that there is, and no more calls were made than are allowed
pub record IsReady {B P : Type 0} (next : Next B) (bodies : P → List B) (run : Played P) : Type 0 where
  pub sound : run.failed ≡ false
  pub made : IsDefined (setting_of next bodies run) run.takes run.calls
  pub room : run.calls ≤ run.turns
