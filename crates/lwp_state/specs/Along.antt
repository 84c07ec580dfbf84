-- How far a session has come by some line of its trace.
use Rattle.lwp_state.specs.declared.along.Reach.{Reach}
use Rattle.lwp_types.specs.Poll.{Next}
use Rattle.pod_events.specs.Events.{is_takeable}
use Rattle.pod_runner.specs.Due.{is_call_due}
use Rattle.pod_runner.specs.Run as run
use Rattle.pod_runner.specs.Run.{GoesOn, Played, Writes}
use Rattle.pod_runner.specs.Session.{Setting}
use Rattle.pod_runner.specs.declared.session.Took.{Took}
use Rattle.replay.specs.Recorded.{line_count}
use Rattle.replay.specs.Walk.{Due, IsAt, Moment, Move, Reaches, after_move, lines_until, session_of}
use Rattle.std.specs.Prelude.{IsTrue, List, None, Some, false, take, ℕ, ◌<◌, ◌≡◌, ◌≤◌, ◌⊎◌}
use Rattle.streams.specs.Streams.{Stream}

-- the moment after these takes and so many calls
abbrev pub moment_of : List Took → ℕ → Moment
moment_of takes calls = record { takes = takes; calls = calls }

-- that after the first so many of these takes, and so many calls
abbrev pub moment_at : List Took → Reach → Moment
moment_at takes reach = moment_of (take reach.takes takes) reach.calls

-- that to which a run has come
abbrev pub moment_now : {P : Type 0} → Played P → Moment
moment_now run = moment_of run.takes run.calls

module _ {B : Type 0} (setting : Setting B) (procs : List (List ℕ)) where
  -- how many lines were written by then
  abbrev pub lines_by : Moment → ℕ
  lines_by at = line_count (lines_until setting procs at)

  -- a step leads on, and by its end more than n lines are written
  pub record GoesPast (n : ℕ) (to at : Moment) : Type 0 where
    pub step : Move
    pub due : Due setting at step
    pub on : Reaches setting (after_move at step) to
    pub more : n < lines_by (after_move at step)

  -- on the way to a moment, the last one by which no more than n lines are written
  pub record IsLastWithin (n : ℕ) (to at : Moment) : Type 0 where
    pub made : IsAt setting at
    pub way : Reaches setting at to
    pub few : lines_by at ≤ n
    pub last : (at ≡ to) ⊎ GoesPast n to at

module _ {B : Type 0} (setting : Setting B) where
  -- the next step to a moment is this take
  pub record TakesNext (to at : Moment) (took : Took) : Type 0 where
    pub due : IsTrue (is_takeable (session_of setting at).live.pod took.event)
    pub way : Reaches setting (after_move at (Some (took.event, took.line))) to

  -- it is a call
  pub record CallsNext (to at : Moment) : Type 0 where
    pub due : IsTrue (is_call_due (session_of setting at))
    pub way : Reaches setting (after_move at None) to
    pub more : at.calls < to.calls

module _ {B P : Type 0} (next : Next B) (bodies : P → List B) where
  -- a run that can go on is on its way to a moment
  pub record IsOnWay (to : Moment) (now : Played P) : Type 0 where
    pub sound : now.failed ≡ false
    pub made : IsAt (run.setting_of next bodies now) (moment_now now)
    pub way : Reaches (run.setting_of next bodies now) (moment_now now) to
    pub room : to.calls ≤ now.turns

  -- it made one step of that way, and wrote its lines
  pub record IsStep (proc_names : P → List (List ℕ)) (to : Moment) (sink : Stream) (old new : Played P) : Type 0 where
    pub on : IsOnWay to new
    pub same : GoesOn old new
    pub step : Move
    pub due : Due (run.setting_of next bodies old) (moment_now old) step
    pub comes : moment_now new ≡ after_move (moment_now old) step
    pub told : Writes sink.old sink.new (run.trace_of next bodies proc_names old)
        (run.trace_of next bodies proc_names new)

-- a run has come to a moment, and can go on
pub record IsThere {P : Type 0} (to : Moment) (old new : Played P) : Type 0 where
  pub sound : new.failed ≡ false
  pub same : GoesOn old new
  pub there : moment_now new ≡ to
