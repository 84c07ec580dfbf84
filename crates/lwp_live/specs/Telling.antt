-- How notes are kept while a session is played, and its answers written.
use Rattle.lists.specs.ThreadIndex.{place_of, width_of}
use Rattle.lwp_live.specs.Answers.{Known, answers_in, event_in, last_client, told_in}
use Rattle.lwp_live.specs.declared.notes.Notes.{Notes}
use Rattle.lwp_live.specs.declared.stop.Stop.{Stop}
use Rattle.lwp_live.specs.declared.stop.Stop.TheVariants as stop
use Rattle.lwp_types.specs.Poll.{Next}
use Rattle.pod_runner.specs.Run.{Played, Writes, WritesPart, session_of}
use Rattle.pod_runner.specs.Session.{Made}
use Rattle.pod_runner.specs.declared.phase.RunErr.{RunErr}
use Rattle.pod_runner.specs.declared.phase.RunErr.TheVariants as fails
use Rattle.streams.specs.Streams.{IsFaultless, IsFaulty, Stream}
use Rattle.std.specs.Prelude.{Err, List, None, Ok, OnErr, OnOk, Option, Result, length, slice_index_or, ℕ, ◌<◌, ◌≡◌, ◌≤◌}

-- the notes are of what is known
pub record AreNotes (notes : Notes) (known : Known) : Type 0 where
  pub agents_are : (t : ℕ) → place_of notes.agents t ≡ event_in known.agents t
  pub width : 1 ≤ width_of notes.agents
  pub lasts_are : (e : ℕ) → e < 256 → slice_index_or notes.lasts.items e None ≡ last_client known.takes e
  pub size : length notes.lasts.items ≡ 256
  pub low : (e : ℕ) → 256 ≤ e → last_client known.takes e ≡ None

-- the notes have room for the last take of each event, and a place for an agent
pub record CanNote (notes : Notes) : Type 0 where
  pub some : 1 ≤ width_of notes.agents
  pub size : length notes.lasts.items ≡ 256

-- the steps of a run so far
abbrev pub steps_of : {B P : Type 0} → Next B → (P → List B) → Played P → List Made
steps_of next bodies run = (session_of next bodies run).steps

-- the notes are of the steps of a run so far
abbrev pub AreNotesOf : {B P : Type 0} → Next B → (P → List B) → Played P → Notes → Type 0
AreNotesOf next bodies run notes = AreNotes notes (told_in (steps_of next bodies run)).known

-- a run's own error, as a reason to stop
abbrev pub IsStopOf : RunErr → Stop → Type 0
IsStopOf fails.NoMemory why = why ≡ stop.NoMemory
IsStopOf fails.WriteFault why = why ≡ stop.TraceFault

-- what a run's own part is where it stops so: a sink of answers that fails is none of its matters
abbrev pub as_run : {T : Type 0} → Result T Stop → Result (Unit {0}) RunErr
as_run (Ok x) = Ok tt
as_run (Err stop.NoMemory) = Err fails.NoMemory
as_run (Err stop.TraceFault) = Err fails.WriteFault
as_run (Err stop.AnswerFault) = Ok tt
as_run (Err stop.RecordFault) = Ok tt

-- a sink of answers fails only where that is what stops the run; a run by itself has no record that could fail
abbrev pub AnswersFail : {T : Type 0} → Stream → Result T Stop → Type 0
AnswersFail stream (Ok x) = IsFaultless stream
AnswersFail stream (Err stop.NoMemory) = IsFaultless stream
AnswersFail stream (Err stop.TraceFault) = IsFaultless stream
AnswersFail stream (Err stop.AnswerFault) = IsFaulty stream
AnswersFail stream (Err stop.RecordFault) = ⊥

-- what a sink of answers has taken as a run went on: the answers of the steps that came, or after an error the first part
pub record Answering {T : Type 0} (stream : Stream) (before after : List Made) (result : Result T Stop) : Type 0 where
  pub whole : OnOk result (Writes stream.old stream.new (answers_in before) (answers_in after))
  pub part : OnErr result (WritesPart stream.old stream.new (answers_in before) (answers_in after))
  pub cause : AnswersFail stream result

-- a part of a run that writes no answers: whatever the sink of answers has taken, these steps have told nothing, unless an
-- error came
abbrev pub Untold : {T : Type 0} → List Made → List Made → Result T Stop → Type 0
Untold before after result = (w : Option (List ℕ)) (f : ℕ)
    → Answering (record { old = w; new = w; faults_old = f; faults_new = f }) before after result
