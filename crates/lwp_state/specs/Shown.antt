-- That bytes are the text of a session's state.
use Rattle.lwp_state.specs.Clients.{clients_of}
use Rattle.lwp_types.specs.Streams.{after_append}
use Rattle.pod_runner.specs.Snapshots.{IsSnapshot}
use Rattle.pod_runner.specs.declared.session.Took.{Took}
use Rattle.script_session.specs.Outcome.{outcome_of}
use Rattle.script_session.specs.SoFar.{session_at}
use Rattle.script_session.specs.declared.session.Session.{Session}
use Rattle.script_session.specs.declared.session.SessionEnd.{SessionEnd}
use Rattle.script_session.specs.declared.session.SessionEnd.TheVariants as end
use Rattle.script_text.specs.Script.{proc_names}
use Rattle.script_text.specs.declared.script.Script.{Script}
use Rattle.snapshots.specs.declared.session.Snapshot.{Snapshot}
use Rattle.state_text.specs.Text.{state_text}
use Rattle.std.specs.Prelude.{Bool, List, length, ℕ, ◌≡◌, ◌⊎◌}
use Rattle.streams.specs.Streams.{IsFaultless, IsFaulty, Stream}
use Rattle.streams.specs.Writing.{AppendsPart}

-- they are that of a script's session after these takes and so many calls, whose trace is read to its end, or not
pub record IsStateOf (whole : Bool) (script : Script) (takes : List Took) (calls : ℕ) (text : List ℕ) : Type 0 where
  pub snap : Snapshot
  pub shows : IsSnapshot (length script.clients) takes calls (session_at script takes calls).live snap
  pub said : text ≡ state_text whole (proc_names script) (clients_of script) snap

-- bytes of which this holds were written, all of them
abbrev pub IsWritten : (List ℕ → Type 0) → Stream → Type 0
IsWritten says sink = IsFaultless sink × ((text : List ℕ) × says text × (sink.new ≡ after_append sink.old text))

-- a write failed, and not all of them were written
abbrev pub IsCut : (List ℕ → Type 0) → Stream → Type 0
IsCut says sink = IsFaulty sink × ((text : List ℕ) × says text × AppendsPart sink.old sink.new text)

-- a session that would end so after its text: all of the text was written, or a write failed
abbrev pub IsToldBy : SessionEnd → List Took → ℕ → List ℕ → Stream → Session → Type 0
IsToldBy e takes calls text sink session =
    (session ≡ outcome_of e takes calls) × IsFaultless sink × (sink.new ≡ after_append sink.old text)
    ⊎ (session ≡ outcome_of end.WriteFault takes calls) × IsFaulty sink × AppendsPart sink.old sink.new text
