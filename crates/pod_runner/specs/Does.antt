-- What a run, a gate and a sink come to together.
use Rattle.event_gate.specs.Shelves.{Shelves}
use Rattle.lwp_types.specs.Poll.{Next}
use Rattle.pod_runner.specs.Due.{IsDefined}
use Rattle.pod_runner.specs.Eager.{IsFirstPart, Plan, Planned}
use Rattle.pod_runner.specs.Run.{GoesOn, Played, Tells, plan_now, planned_of, setting_of, trace_before, trace_of}
use Rattle.streams.specs.Streams.{Stream}
use Rattle.pod_runner.specs.declared.phase.RunErr.{RunErr}
use Rattle.std.specs.Prelude.{List, OnErr, OnOk, Result, false, ℕ, ◌≡◌, ◌≤◌}

-- the run went on, and told the lines of its steps, wherever the lines that it took came from
pub record RunsOn {B P T : Type 0} (next : Next B) (bodies : P → List B)
    (proc_names : P → List (List ℕ)) (stream : Stream) (old new : Played P) (result : Result T RunErr) : Type 0 where
  -- its program, its parameters, its names and the calls allowed are as before
  pub same : GoesOn old new
  -- its session is one that there is: each call was somebody's turn, and each event could be delivered when its line
  -- was taken
  pub made : IsDefined (setting_of next bodies new) new.takes new.calls
  -- no more calls were made than are allowed
  pub room : new.calls ≤ new.turns
  -- what was written is the trace of its steps: whole, or after a write that failed without some last bytes of the last
  -- step
  pub told : Tells stream (trace_of next bodies proc_names old)
      (trace_before next bodies proc_names new) (trace_of next bodies proc_names new) result
  -- without an error it can go on
  pub sound : OnOk result (new.failed ≡ false)

-- the run did what `by` says, with the lines that the gate has left; or it failed in the midst of that
pub record Does {B P T : Type 0} (next : Next B) (bodies : P → List B)
    (proc_names : P → List (List ℕ)) (stream : Stream) (by : Planned B → Plan B → Plan B)
    (old new : Played P) (stock left : Shelves) (result : Result T RunErr) : Type 0 where
  -- it went on, and told its steps
  pub ran : RunsOn next bodies proc_names stream old new result
  -- without an error it came to what `by` makes of where it stood
  pub comes : OnOk result (plan_now next bodies new left
      ≡ by (planned_of next bodies old) (plan_now next bodies old stock))
  -- after an error it came a first part of that way
  pub part : OnErr result (IsFirstPart (plan_now next bodies new left)
      (by (planned_of next bodies old) (plan_now next bodies old stock)))
