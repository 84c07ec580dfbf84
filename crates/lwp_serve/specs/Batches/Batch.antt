-- What `batch` comes to, with all that it meets outside.
use Rattle.batch.specs.Parts.{parts_of}
use Rattle.batch.specs.declared.part.Part.{Part}
use Rattle.lwp_types.specs.Streams.{after_append}
use Rattle.lwp_serve.specs.Batches.Report.{report_of}
use Rattle.script_session.specs.Outcome.{outcome_of}
use Rattle.script_session.specs.declared.session.Session.{Session}
use Rattle.script_session.specs.declared.session.SessionEnd.{SessionEnd}
use Rattle.script_session.specs.declared.session.SessionEnd.TheVariants as end
use Rattle.std.specs.Prelude.{Err, List, None, Ok, Option, Some, [], ℕ, ◌≡◌}
use Rattle.streams.specs.Limited.{IsReadUp, IsReadWithin}
use Rattle.streams.specs.Streams.{IsFaultless, IsFaulty, IsQuiet, Stream}
use Rattle.streams.specs.Writing.{AppendsPart}

-- how many bytes of an input are read: all that it may have, and one more
abbrev pub most_read : ℕ
most_read = 33554433

-- this part of what the source had left is the first bad one
abbrev pub HasBad : Option (List ℕ) → ℕ → Type 0
HasBad None part = Unit {0}
HasBad (Some told) part = parts_of told ≡ Err part

-- what the source had left, if it tells, has these parts, and the report on them is this one
abbrev pub Reports : ℕ → Option (List ℕ) → List ℕ → Type 0
Reports turns None report = Unit {0}
Reports turns (Some told) report = (parts : List Part) × (parts_of told ≡ Ok parts)
    × (report ≡ report_of turns told parts)

-- this text was read, and has these parts; where the source tells, it is all that there was
abbrev pub IsInput : Option (List ℕ) → List ℕ → List Part → Type 0
IsInput None text parts = parts_of text ≡ Ok parts
IsInput (Some told) text parts = (told ≡ text) × (parts_of text ≡ Ok parts)

-- no input was read, and a session ends so
abbrev pub IsNoInput : Stream → SessionEnd → Type 0
IsNoInput source end.ReadFault = IsFaulty source × IsReadWithin most_read source.old source.new
IsNoInput source end.NoMemory = IsFaultless source × IsReadWithin most_read source.old source.new
IsNoInput source (end.Input part) = IsFaultless source × IsReadUp most_read source.old source.new
    × HasBad source.old part
IsNoInput source _ = ⊥

-- the whole report was written
abbrev pub IsReported : ℕ → Stream → Stream → Type 0
IsReported turns source sink =
    IsFaultless source × IsReadUp most_read source.old source.new × IsFaultless sink
    × ((report : List ℕ) × Reports turns source.old report × (sink.new ≡ after_append sink.old report))

-- a write failed, and not all of it was written
abbrev pub IsCut : ℕ → Stream → Stream → Type 0
IsCut turns source sink =
    IsFaultless source × IsReadUp most_read source.old source.new × IsFaulty sink
    × ((report : List ℕ) × Reports turns source.old report × AppendsPart sink.old sink.new report)

-- what each end says
abbrev pub BatchSays : ℕ → Stream → Stream → SessionEnd → Type 0
BatchSays turns source sink end.ReadFault = IsFaulty source
    × IsReadWithin most_read source.old source.new × IsQuiet sink
BatchSays turns source sink (end.Input part) = IsFaultless source
    × IsReadUp most_read source.old source.new × HasBad source.old part × IsQuiet sink
BatchSays turns source sink end.Reported = IsReported turns source sink
BatchSays turns source sink end.WriteFault = IsCut turns source sink
BatchSays turns source sink end.NoMemory = IsFaultless source
    × IsReadWithin most_read source.old source.new × IsQuiet sink
BatchSays turns source sink _ = ⊥

-- what a session of `batch` says: no line is told as taken and no call as made, since there are many sessions
pub record IsBatch (turns : ℕ) (source sink : Stream) (session : Session) : Type 0 where
  pub outcome : session ≡ outcome_of session.end [] 0
  pub says : BatchSays turns source sink session.end
