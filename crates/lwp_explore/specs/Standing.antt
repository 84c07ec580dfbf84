-- A session of a script, as it is searched.
use Rattle.event_gate.specs.Clients.{of}
use Rattle.lwp_explore.specs.Cores.{Step, call_made, count_at, next_line, steps_at, take_made, takes_from}
use Rattle.lwp_explore.specs.Sessions.{IsSession, core_at, world_of}
use Rattle.lwp_explore.specs.Ways.{step_lines}
use Rattle.pod_runner.specs.Run.{GoesOn, Played}
use Rattle.pod_runner.specs.Snapshots.{taken_by}
use Rattle.pod_events.specs.Events.{is_takeable}
use Rattle.script_body.specs.Posted.{IsPosted}
use Rattle.script_body.specs.declared.thread_body.ThreadBody.{ThreadBody}
use Rattle.script_session.specs.SoFar.{lines_after, opening_run}
use Rattle.script_text.specs.Limits.{IsWithinLimits}
use Rattle.script_text.specs.Script.{lines_posted, proc_names}
use Rattle.script_text.specs.declared.script.Script.{Script}
use Rattle.session_cores.specs.Core.{Core}
use Rattle.std.specs.Prelude.{Bool, IfSome, List, Option, false, length, nat_lt, slice_get, slice_index, take, true, ℕ, ◌&&◌, ◌++◌, ◌<◌, ◌≡◌}

-- a run of a script, and the line that is looked for, if one is
pub record Standing : Type 0 where
  pub script : Script
  pub run : Played Script
  pub sought : Option (List ℕ)
  -- it ran out of memory, or a sink failed: it is of no more use
  pub failed : Bool

-- the core of its session
abbrev pub core_now : Standing → Core ThreadBody
core_now s = core_at (world_of s.script) s.run.takes s.run.calls

-- how many lines of each client it has taken
abbrev pub taken_now : Standing → List ℕ
taken_now s = taken_by (length s.script.clients) s.run.takes

-- client c has a line left
abbrev pub has_left_of : Standing → ℕ → Bool
has_left_of s c = nat_lt (count_at (taken_now s) c) (length (of c (lines_posted s.script)))

-- and it can be taken
abbrev pub is_takeable_of : Standing → ℕ → Bool
is_takeable_of s c = has_left_of s c && is_takeable (core_now s).pod (slice_index s.script.clients c)

-- the run is one of the script; unless it has failed, its session is one that the script has, and so many lines of each client were taken
pub record IsStanding (script : Script) (run : Played Script) (taken : List ℕ) (failed : Bool) : Type 0 where
  pub plays : GoesOn (opening_run script run.turns) run
  pub within : IsWithinLimits script
  pub posted : IsPosted script
  pub sound : failed ≡ false → run.failed ≡ false
  pub session : failed ≡ false → IsSession (world_of script) run.takes run.calls
  pub counted : failed ≡ false → taken ≡ taken_by (length script.clients) run.takes

-- unless the run has failed, this is its trace so far, if it is known
abbrev pub HasTold : Script → Played Script → Option (List ℕ) → Bool → Type 0
HasTold script run told failed = failed ≡ false → IfSome told (λ text. text ≡ lines_after script run.takes run.calls)

-- one session goes on from another, of the same script
pub record IsFurther (old new : Standing) : Type 0 where
  pub script : new.script ≡ old.script
  pub sought : new.sought ≡ old.sought
  pub turns : new.run.turns ≡ old.run.turns

-- the step of this number takes a line of client c, or is the call
pub record IsTakeOf (s : Standing) (number c : ℕ) : Type 0 where
  pub within : c < length s.script.clients
  pub may : is_takeable_of s c ≡ true
  -- so many clients before it have a line that can be taken
  pub before : length (takes_from (world_of s.script) (core_now s) 0 (take c s.script.clients)) ≡ number

-- the lines of its steps
abbrev pub trace_now : Standing → List ℕ
trace_now s = lines_after s.script s.run.takes s.run.calls

-- by this step one session comes to another, which has told its lines as well
pub record IsStep (old new : Standing) (step : Step ThreadBody) : Type 0 where
  pub to : step.to ≡ core_now new
  pub lines : trace_now new ≡ trace_now old ++ step_lines (proc_names old.script) step

-- the next line of client c is taken
abbrev pub IsTaken : Standing → ℕ → Standing → Type 0
IsTaken old c new = IfSome (next_line (world_of old.script) (core_now old) c)
    (λ line. IsStep old new (take_made (world_of old.script) (core_now old) c (record { turn = 0; event = slice_index old.script.clients c; line = line })))

-- the call is made
abbrev pub IsCalled : Standing → Standing → Type 0
IsCalled old new = IsStep old new (call_made (world_of old.script) (core_now old))

-- the step of this number is made
abbrev pub IsGone : Standing → ℕ → Standing → Type 0
IsGone old number new = IfSome (slice_get (steps_at (world_of old.script) (core_now old)) number) (IsStep old new)
