-- A session moves its pod by calls and takes alone, so what holds of these holds of sessions.
use Rattle.pod_runner.specs.Due.{IsDefined}
use Rattle.pod_runner.specs.Play.{play}
use Rattle.pod_runner.specs.Session.{Made, Setting}
use Rattle.pod_runner.specs.declared.session.Took.{Took}
use Rattle.lwp_types.specs.State.{opening}
use Rattle.lwp_types.specs.declared.call.Effect.{Effect}
use Rattle.pod_events.specs.Events.{EventState, quiet_events}
use Rattle.pod_events.specs.Laws.{CanMove}
use Rattle.pod_events.specs.Moves.{EventMove, after_moves, effects_of}
use Rattle.std.specs.List.{flat_map}
use Rattle.std.specs.Prelude.{List, ℕ, ◌≡◌}

-- the effects of all steps
abbrev pub effects_in : List Made → List Effect
effects_in steps = flat_map (λ made. made.effects) steps

-- by these moves, each of which could be made, the pod came from its start to here, with the effects of these steps
pub record IsMoved (start pod : EventState) (steps : List Made) : Type 0 where
  pub moves : List EventMove
  pub can : CanMove moves start
  pub pod_is : pod ≡ after_moves moves start
  pub effects_are : effects_in steps ≡ effects_of moves start

abbrev pub SessionsAreMoves : Type 0 → Type 0
SessionsAreMoves B = (setting : Setting B) (takes : List Took) (n : ℕ) → IsDefined setting takes n
    → IsMoved (quiet_events (opening setting.params)) (play setting takes n).live.pod (play setting takes n).steps
