-- The invariant of a run in virtual time. Callers see the session alone.
use Rattle.pod_runner.specs.Session.{Live, Setting}
use Rattle.pod_runner.specs.Virtual.{TurnsCame, is_tick_due, live_after}
use Rattle.std.specs.Prelude.{Bool, false, ℕ, ◌<◌, ◌^◌, ◌≡◌, ◌≤◌}

-- each call was somebody's turn, no more calls were made than are allowed, which a u64 can count, and unless the run has failed
-- the parts stand as its session does, in which no tick is due
pub record KeepsTime {B : Type 0} (setting : Setting B) (live : Live B) (calls turns : ℕ) (failed : Bool) : Type 0 where
  pub came : TurnsCame setting calls
  pub room : calls ≤ turns
  pub few : turns < 2 ^ 64
  pub now : failed ≡ false → live ≡ live_after setting calls
  pub still : is_tick_due (live_after setting calls) ≡ false
