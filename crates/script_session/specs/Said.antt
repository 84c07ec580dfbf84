-- What a session says of the source that it read, of the sink that it wrote to, and of the script.
use Rattle.script_session.specs.Outcome.{status_of}
use Rattle.script_session.specs.History.{taken_of}
use Rattle.script_body.specs.Posted.{IsPosted}
use Rattle.script_session.specs.declared.session.Session.{Session}
use Rattle.script_session.specs.declared.session.SessionEnd.{SessionEnd}
use Rattle.script_session.specs.declared.session.SessionEnd.TheVariants as end
use Rattle.streams.specs.Limited.{IsReadUp, IsReadWithin}
use Rattle.streams.specs.Streams.{IsFaultless, IsFaulty, IsQuiet, Stream}
use Rattle.script_text.specs.Grammar.{Spells}
use Rattle.script_text.specs.Spelling.{verdict}
use Rattle.script_text.specs.declared.reason.Reason.{Reason}
use Rattle.script_text.specs.declared.script.Script.{Script}
use Rattle.pod_runner.specs.declared.session.Took.{Took}
use Rattle.std.specs.Prelude.{List, Option, None, Some, Err, [], map, ℕ, ◌≡◌, ◌⊎◌}

-- what the source had left spells a script, and this holds of whatever script it spells; of a source that doesn't tell,
-- some script
abbrev pub Says : Option (List ℕ) → (Script → Type 0) → Type 0
Says None says = (script : Script) × says script
Says (Some told) says = ((script : Script) × Spells told script)
    × ((script : Script) → Spells told script → says script)

-- it spells no script, and these are its first bad line and the first reason that fits
abbrev pub Refuses : Option (List ℕ) → ℕ → Reason → Type 0
Refuses None line why = Unit {0}
Refuses (Some told) line why = verdict told ≡ Err (line, why)

-- a session tells of these lines that they were taken
abbrev pub Tells : Session → List Took → Type 0
Tells session takes = session.taken ≡ map taken_of takes

-- it ended before a script was read
pub record IsUnread (sink : Stream) (session : Session) : Type 0 where
  pub quiet : IsQuiet sink
  pub taken : session.taken ≡ []
  pub calls : session.turns ≡ 0

-- this holds of the script that the source held
abbrev pub SourceSays : Stream → (Script → Type 0) → Type 0
SourceSays source says = IsFaultless source × Says source.old says

-- what each end says: a script was read, and this holds of it; or else nothing was written, and there is a cause
abbrev pub EndsBy : (Script → SessionEnd → Type 0) → Stream → Stream → Session → SessionEnd → Type 0
EndsBy ran source sink session end.Usage = ⊥
EndsBy ran source sink session end.ReadFault = IsFaulty source × IsUnread sink session
EndsBy ran source sink session (end.Script line reason) = IsFaultless source
    × Refuses source.old line reason × IsUnread sink session
EndsBy ran source sink session end.NoMemory =
    IsFaultless source × IsUnread sink session ⊎ SourceSays source (λ script. ran script end.NoMemory)
EndsBy ran source sink session (end.Input part) = ⊥
EndsBy ran source sink session end.Reported = ⊥
EndsBy ran source sink session end.Same = ⊥
EndsBy ran source sink session (end.Differs line) = ⊥
EndsBy ran source sink session e = SourceSays source (λ script. ran script e)

-- a source is read to the byte that follows the most that a script may have, and no further
abbrev pub most_read : ℕ
most_read = 16777217

-- all were taken: where bytes are told, none is left
abbrev pub IsReadOut : Option (List ℕ) → Option (List ℕ) → Type 0
IsReadOut None new = new ≡ None
IsReadOut (Some told) new = new ≡ Some []

-- how far each end has read the source: to its end for a script that was run; for bytes that are none, to their end
-- too, unless they are too many; and never further than one byte past what a script may have
abbrev pub ReadSays : Stream → SessionEnd → Type 0
ReadSays source end.Usage = ⊥
ReadSays source end.ReadFault = IsReadWithin most_read source.old source.new
ReadSays source end.NoMemory = IsReadWithin most_read source.old source.new
ReadSays source (end.Script line reason) = IsReadUp most_read source.old source.new
ReadSays source (end.Input part) = ⊥
ReadSays source end.Reported = ⊥
ReadSays source end.Same = ⊥
ReadSays source (end.Differs line) = ⊥
ReadSays source e = IsReadOut source.old source.new

-- what a session says, where it says this of the script that was read
pub record IsOf (ran : Script → SessionEnd → Type 0) (source sink : Stream) (session : Session) : Type 0 where
  pub status : session.status ≡ status_of session.end
  pub read : ReadSays source session.end
  pub says : EndsBy ran source sink session session.end

-- what the source had left spells this script, if it tells
abbrev pub Holds : Option (List ℕ) → Script → Type 0
Holds None script = Unit {0}
Holds (Some told) script = Spells told script

-- a script was read
pub record IsRead (source : Stream) (script : Script) : Type 0 where
  pub holds : Holds source.old script
  pub faultless : IsFaultless source
  pub up : IsReadUp most_read source.old source.new
  pub posted : IsPosted script

-- none was read, and a session ends so
abbrev pub IsNotRead : Stream → SessionEnd → Type 0
IsNotRead source end.ReadFault = IsFaulty source × IsReadWithin most_read source.old source.new
IsNotRead source end.NoMemory = IsFaultless source × IsReadWithin most_read source.old source.new
IsNotRead source (end.Script line reason) = IsFaultless source × Refuses source.old line reason
    × IsReadUp most_read source.old source.new
IsNotRead source _ = ⊥
