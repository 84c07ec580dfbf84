-- How a run goes on over inlets to which others post, and what it has taken from them.
use Rattle.event_gate.specs.Inlet.{HasEvent, Intake}
use Rattle.event_gate.specs.Port.{lines_in_pass}
use Rattle.event_gate.specs.Shelves.{event_of}
use Rattle.event_gate.specs.Texts.{lines_from}
use Rattle.script_run.specs.Served.{AreServed, texts_of}
use Rattle.script_body.specs.Bodies.{bodies_of, body_next}
use Rattle.pod_runner.specs.Does.{RunsOn}
use Rattle.pod_runner.specs.Live.{lines_of_takes, may_lose}
use Rattle.pod_runner.specs.Run.{Played}
use Rattle.streams.specs.Streams.{Stream}
use Rattle.pod_runner.specs.declared.phase.RunErr.{RunErr}
use Rattle.pod_runner.specs.declared.session.Took.{Took}
use Rattle.script_text.specs.Script.{proc_names}
use Rattle.script_text.specs.declared.script.Script.{Script}
use Rattle.std.specs.List.{All, slice_index_or}
use Rattle.std.specs.Prelude.{Bool, List, Result, length, ℕ, ◌++◌, ◌<◌, ◌≡◌, ◌≤◌}

-- The lines that an inlet gave are those that were taken of its event, in order, and then perhaps one that was lost.
-- Each take is of an inlet's event.
pub record IsFed (takes : List Took) (inlets : List Intake) (most : ℕ) : Type 0 where
  pub lost : List Took
  pub few : length lost ≤ most
  pub given : (k : ℕ) (d : Intake) → k < length inlets
      → (slice_index_or inlets k d).taken ≡ lines_of_takes (slice_index_or inlets k d).event (takes ++ lost)
  pub known : All (λ took. HasEvent inlets took.event) takes

-- a run has gone on, and has told its steps; what was fed to it before and now is what its inlets gave
pub record GoesBeside {T : Type 0} (stream : Stream) (old new : Played Script)
    (before after : List Intake) (result : Result T RunErr) : Type 0 where
  pub ran : RunsOn body_next bodies_of proc_names stream old new result
  pub fed : IsFed old.takes before 0 → IsFed new.takes after (may_lose result)

-- all threads have ended, whether or not they have posted all their lines
abbrev pub AreBack : List ℕ → List (List (List ℕ)) → List Intake → Type 0
AreBack events texts inlets = (all : Bool) × AreServed events texts all inlets

-- each inlet knows that each client of its event has posted all its lines
abbrev pub KnowAll : List ℕ → List (List (List ℕ)) → List Intake → Type 0
KnowAll events texts inlets = All
    (λ t. (c : ℕ) → c < length events → event_of events c ≡ t.event
    → lines_in_pass c t.known ≡ lines_from c 0 (texts_of texts c))
    inlets
