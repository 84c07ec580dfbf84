-- The invariant of a run. Callers see the session alone.
use Rattle.lwp_types.specs.declared.call.Effect.{Effect}
use Rattle.pod_runner.specs.Calls.{last_effects}
use Rattle.pod_runner.specs.Due.{IsDefined}
use Rattle.pod_runner.specs.Play.{play}
use Rattle.pod_runner.specs.Session.{Live, Setting}
use Rattle.pod_runner.specs.declared.session.Took.{Took}
use Rattle.std.specs.Prelude.{Bool, List, false, ℕ, ◌<◌, ◌^◌, ◌≡◌, ◌≤◌}

-- the procedures have their names, there is such a session, with no more calls than are allowed, which a u64 can count,
-- and unless the run has failed the parts stand as it does, and have the effects of its last step
pub record Keeps {B : Type 0} (setting : Setting B) (names procs : List (List ℕ)) (live : Live B)
    (told : List Effect) (takes : List Took) (calls turns : ℕ) (failed : Bool) : Type 0 where
  pub named : procs ≡ names
  pub made : IsDefined setting takes calls
  pub room : calls ≤ turns
  pub few : turns < 2 ^ 64
  pub now : failed ≡ false → live ≡ (play setting takes calls).live
  pub last : failed ≡ false → told ≡ last_effects (play setting takes calls).steps
