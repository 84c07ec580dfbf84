-- The moving parts of a run, as a session stands. Callers see the session alone.
use Rattle.lwp_types.specs.declared.call.Effect.{Effect}
use Rattle.lwp_types.specs.declared.call.Line.{Line}
use Rattle.pod_runner.specs.Calls.{with_call_by}
use Rattle.pod_runner.specs.Session.{Live, Move}
use Rattle.pod_runner.specs.declared.parts.RunParts.{RunParts}
use Rattle.trace_text.specs.Lines.{step_lines}
use Rattle.std.specs.Prelude.{List, Option, ℕ, ◌≡◌}

-- how the session stands that these are
abbrev pub live_of : {B : Type 0} → RunParts B → Live B
live_of parts = record { pod = parts.pod; rows = parts.rows.rows; names = parts.env }

-- the effects of the last step
abbrev pub last_step_effects : {B : Type 0} → RunParts B → List Effect
last_step_effects parts = with_call_by parts.caller parts.rows.call parts.effects

-- a step was made, in which this line was taken, if any, and these are its lines; the procedures are named so
pub record Moves {B : Type 0} (procs : List (List ℕ)) (line : Option Line) (move : Move B)
    (new : Live B) (told : List Effect) (out : List ℕ) : Type 0 where
  pub live : new ≡ move.live
  pub effects : told ≡ move.effects
  pub lines : out ≡ step_lines procs line move.effects
