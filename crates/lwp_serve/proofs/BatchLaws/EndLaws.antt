-- What each end of a session says.
use Rattle.batch.specs.declared.part.Part.{Part}
use Rattle.lwp_types.specs.Streams.{after_append}
use Rattle.lwp_serve.proofs.BatchLaws.InputLaws.{reports-of}
use Rattle.lwp_serve.specs.Batches.Batch.{BatchSays, IsBatch, IsInput, IsNoInput}
use Rattle.lwp_serve.specs.Batches.Report.{report_of}
use Rattle.script_session.specs.Outcome.{outcome_of}
use Rattle.script_session.specs.declared.session.Session.{Session}
use Rattle.script_session.specs.declared.session.SessionEnd.{SessionEnd}
use Rattle.script_session.specs.declared.session.SessionEnd.TheVariants as end
use Rattle.std.proofs.Common.{List, Option, [], arith, refl, subst, sym, ℕ, ◌≡◌}
use Rattle.streams.specs.Limited.{IsReadUp, IsReadWithin}
use Rattle.streams.specs.Streams.{IsFaultless, IsFaulty, IsQuiet, Stream}
use Rattle.streams.specs.Writing.{AppendsPart}

-- what is read up to a limit is read within it
pub within-of : (old new : Option (List ℕ)) → IsReadUp 33554433 old new → IsReadWithin 33554433 old new
within-of old new up = (33554433, omega arith, up)

-- no input was read
pub says-none : (turns : ℕ) (source sink : Stream) (e : SessionEnd) → IsQuiet sink → IsNoInput source e → BatchSays turns source sink e
says-none turns source sink end.ReadFault quiet h = (h.0, h.1, quiet)
says-none turns source sink end.NoMemory quiet h = (h.0, h.1, quiet)
says-none turns source sink (end.Input part) quiet h = (h.0, h.1, h.2, quiet)
says-none turns source sink (end.Ended status) quiet h = absurd h
says-none turns source sink end.Usage quiet h = absurd h
says-none turns source sink end.WriteFault quiet h = absurd h
says-none turns source sink (end.Script line why) quiet h = absurd h
says-none turns source sink end.Stuck quiet h = absurd h
says-none turns source sink end.Spent quiet h = absurd h
says-none turns source sink end.Reported quiet h = absurd h
says-none turns source sink end.Same quiet h = absurd h
says-none turns source sink (end.Differs line) quiet h = absurd h

-- out of memory after the input was read
pub says-late : (turns : ℕ) (source sink : Stream) → IsQuiet sink → IsFaultless source → IsReadUp 33554433 source.old source.new
    → BatchSays turns source sink end.NoMemory
says-late turns source sink quiet same up = (same, within-of source.old source.new up, quiet)

-- all of the report was written
pub says-whole : (turns : ℕ) (source sink : Stream) (text : List ℕ) (parts : List Part) (report : List ℕ) → IsFaultless source
    → IsReadUp 33554433 source.old source.new
    → IsInput source.old text parts → report ≡ report_of turns text parts → IsFaultless sink → sink.new ≡ after_append sink.old report
    → BatchSays turns source sink end.Reported
says-whole turns source sink text parts report same up input is faultless written =
    (same, up, faultless, (report, reports-of turns source.old text parts report input is, written))

-- some of it was not
pub says-cut : (turns : ℕ) (source sink : Stream) (text : List ℕ) (parts : List Part) (report : List ℕ) → IsFaultless source
    → IsReadUp 33554433 source.old source.new
    → IsInput source.old text parts → report ≡ report_of turns text parts → IsFaulty sink → AppendsPart sink.old sink.new report
    → BatchSays turns source sink end.WriteFault
says-cut turns source sink text parts report same up input is faulty written =
    (same, up, faulty, (report, reports-of turns source.old text parts report input is, written))

-- a session that ends so
pub batch-of : (turns : ℕ) (source sink : Stream) (e : SessionEnd) (session : Session) → session ≡ outcome_of e [] 0
    → BatchSays turns source sink e → IsBatch turns source sink session
batch-of turns source sink e session is says = subst (λ (x : Session). IsBatch turns source sink x) (sym is) (record { outcome = refl; says = says })
