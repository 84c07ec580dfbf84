-- What a run is seen as, and what its calls say.
use Rattle.event_gate.specs.Shelves.{Shelves}
use Rattle.lwp_types.specs.Names.{Names, null_names}
use Rattle.lwp_types.specs.Poll.{Next}
use Rattle.lwp_types.specs.Streams.{AppendsPrefix, after_append}
use Rattle.lwp_types.specs.declared.call.Line.{Line}
use Rattle.lwp_types.specs.declared.call.PodParams.{PodParams}
use Rattle.pod_runner.specs.Eager.{Plan, Planned}
use Rattle.pod_runner.specs.Over.{over}
use Rattle.pod_runner.specs.Phase.{phase_of}
use Rattle.pod_runner.specs.Play.{play}
use Rattle.pod_runner.specs.Session.{Session, Setting}
use Rattle.pod_runner.specs.Trace.{lines}
use Rattle.pod_runner.specs.declared.phase.Phase.{Phase}
use Rattle.pod_runner.specs.declared.phase.RunErr.{RunErr}
use Rattle.pod_runner.specs.declared.session.Took.{Took}
use Rattle.trace_text.specs.declared.ends.Halt.{Halt}
use Rattle.streams.specs.Streams.{IsFaultless, IsFaulty, Stream}
use Rattle.std.specs.Prelude.{Bool, Err, List, Ok, Option, Result, Some, [], length, take, true, ℕ, ◌++◌, ◌+◌, ◌-◌, ◌<◌, ◌≡◌, ◌≤◌, ◌∷◌}
use Rattle.pod_runner.specs.declared.phase.RunErr.TheVariants as fails

-- a run: what it plays, and how far it is
pub record Played (P : Type 0) : Type 0 where
  pub program : P
  pub params : PodParams
  -- the names at the start
  pub names : Names
  -- how many calls are allowed
  pub turns : ℕ
  -- how many were made
  pub calls : ℕ
  -- the lines taken, the oldest first
  pub takes : List Took
  pub failed : Bool

-- what a run plays, by what bodies and programs mean
abbrev pub setting_of : {B P : Type 0} → Next B → (P → List B) → Played P → Setting B
setting_of next bodies run = record { next = next; bodies = bodies run.program; params = run.params; names = run.names }

-- its session so far
abbrev pub session_of : {B P : Type 0} → Next B → (P → List B) → Played P → Session B
session_of next bodies run = play (setting_of next bodies run) run.takes run.calls

-- all of a list but its last
abbrev pub but_last : {A : Type 0} → List A → List A
but_last xs = take (length xs - 1) xs

-- the lines of its steps so far
abbrev pub trace_of : {B P : Type 0} → Next B → (P → List B) → (P → List (List ℕ)) → Played P → List ℕ
trace_of next bodies proc_names run = lines (proc_names run.program) (session_of next bodies run).steps

-- the lines of its steps but the last
abbrev pub trace_before : {B P : Type 0} → Next B → (P → List B) → (P → List (List ℕ)) → Played P → List ℕ
trace_before next bodies proc_names run = lines (proc_names run.program) (but_last (session_of next bodies run).steps)

-- where it stands
abbrev pub phase_now : {B P : Type 0} → Next B → (P → List B) → Played P → Phase
phase_now next bodies run = phase_of (session_of next bodies run).live.pod.state run.turns run.calls

-- the session whose lines all are there from the start, of the same program and as many calls
abbrev pub planned_of : {B P : Type 0} → Next B → (P → List B) → Played P → Planned B
planned_of next bodies run = record { setting = setting_of next bodies run; turns = run.turns }

-- how far such a session is, if it is where the run is, and these lines are left
abbrev pub plan_now : {B P : Type 0} → Next B → (P → List B) → Played P → Shelves → Plan B
plan_now next bodies run stock = record {
  session = session_of next bodies run;
  calls = run.calls;
  left = stock;
  takes = run.takes;
}

-- with these lines left, the run has ended so
abbrev pub EndsAt : {B P : Type 0} → Next B → (P → List B) → Played P → Shelves → Halt → Type 0
EndsAt next bodies run stock halt = over run.turns (session_of next bodies run).live.pod run.calls stock ≡ Some halt

-- a run before its first step
abbrev pub IsNew : {P : Type 0} → Played P → Type 0
IsNew run = (run.calls ≡ 0) × (run.takes ≡ [])

-- ---- one step more

-- one call more
abbrev pub with_call : {P : Type 0} → Played P → Played P
with_call run = record run { calls = run.calls + 1 }

-- a line, as it is taken now
abbrev pub took_now : {P : Type 0} → Played P → ℕ → Line → Took
took_now run e line = record { turn = run.calls; event = e; line = line }

-- one take more, at the present number of calls
abbrev pub with_took : {P : Type 0} → Played P → ℕ → Line → Played P
with_took run e line = record run { takes = run.takes ++ took_now run e line ∷ [] }

-- after a step that would come to this: it does; or the run has failed, and the step counts unless it ran out of memory
abbrev pub after_step : {P T : Type 0} → Played P → Played P → Result T RunErr → Played P
after_step old next (Ok x) = next
after_step old next (Err fails.NoMemory) = record old { failed = true }
after_step old next (Err fails.WriteFault) = record next { failed = true }

-- ---- what is told

-- what is told, with the first of these bytes at its end: as many as `least` has, or more, and not all
pub record AppendsCut (old new : Option (List ℕ)) (least bytes : List ℕ) : Type 0 where
  pub kept : ℕ
  pub told : new ≡ after_append old (take kept bytes)
  pub some : length least ≤ kept
  pub not_all : kept < length bytes

-- a trace grew, and the bytes by which it did were told after all that was told before, whatever that was
pub record Writes (old new : Option (List ℕ)) (before after : List ℕ) : Type 0 where
  pub added : List ℕ
  pub longer : after ≡ before ++ added
  pub told : new ≡ after_append old added

-- a trace grew, and some first bytes of those by which it did were told
pub record WritesPart (old new : Option (List ℕ)) (before after : List ℕ) : Type 0 where
  pub added : List ℕ
  pub longer : after ≡ before ++ added
  pub first : AppendsPrefix old new added

-- a trace grew, and of the bytes by which it did not all were told, but at least those up to the end of `least`
pub record WritesCut (old new : Option (List ℕ)) (before least after : List ℕ) : Type 0 where
  pub added : List ℕ
  pub longer : after ≡ before ++ added
  pub kept : ℕ
  pub told : new ≡ after_append old (take kept added)
  pub some : length least ≤ length before + kept
  pub not_all : kept < length added

-- all was written, from one trace to another, and no fault came
abbrev pub Wrote : Stream → List ℕ → List ℕ → Type 0
Wrote stream before after = Writes stream.old stream.new before after × IsFaultless stream

-- it broke off after all of `least`, and a fault came
abbrev pub Broke : Stream → List ℕ → List ℕ → List ℕ → Type 0
Broke stream before least after = WritesCut stream.old stream.new before least after
    × IsFaulty stream × (stream.faults_old ≤ stream.faults_new)

-- by this result, all was written, or it broke off; where memory ran out, what was done until then was written
abbrev pub Tells : {T : Type 0} → Stream → List ℕ → List ℕ → List ℕ → Result T RunErr → Type 0
Tells stream before least after (Ok x) = Wrote stream before after
Tells stream before least after (Err fails.NoMemory) = Wrote stream before after
Tells stream before least after (Err fails.WriteFault) = Broke stream before least after

-- ---- a run goes on

-- the same run, further on
pub record GoesOn {P : Type 0} (old new : Played P) : Type 0 where
  pub program : new.program ≡ old.program
  pub params : new.params ≡ old.params
  pub names : new.names ≡ old.names
  pub turns : new.turns ≡ old.turns

-- names as a run begins with them: of each kind as many as these, and none means anything
abbrev pub names_like : Names → Names
names_like names = null_names (length names.threads) (length names.monitors) (length names.conditions)
