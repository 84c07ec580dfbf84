-- What a session says after a verdict.
use Rattle.batch.specs.declared.part.Part.{Part}
use Rattle.lwp_types.specs.Streams.{after_append}
use Rattle.pod_runner.specs.declared.session.Took.{Took}
use Rattle.replay.specs.declared.verdict.Verdict.{Verdict}
use Rattle.replay.specs.declared.verdict.Verdict.TheVariants as verdict
use Rattle.lwp_serve.proofs.ReplayingLaws.InputLaws.{holds-of}
use Rattle.lwp_serve.specs.Replaying.Found.{IsInput, IsToldOf}
use Rattle.lwp_serve.specs.Replaying.Input.{recorded_in}
use Rattle.lwp_serve.specs.Replaying.Replay.{IsFound, IsReplay, IsWritten, ReplaySays}
use Rattle.lwp_serve.specs.Replaying.Texts.{end_of}
use Rattle.script_session.specs.Outcome.{outcome_of}
use Rattle.script_session.specs.declared.session.Session.{Session}
use Rattle.script_session.specs.declared.session.SessionEnd.{SessionEnd}
use Rattle.script_session.specs.declared.session.SessionEnd.TheVariants as end
use Rattle.std.proofs.Common.{List, refl, subst, sym, ℕ, ◌≡◌}
use Rattle.streams.specs.Limited.{IsReadUp}
use Rattle.streams.specs.Streams.{IsFaultless, IsFaulty, Stream}
use Rattle.streams.specs.Writing.{AppendsPart}

-- a session that ends so
replay-of : (turns : ℕ) (source sink : Stream) (e : SessionEnd) (takes : List Took) (calls : ℕ) (session : Session) → session ≡ outcome_of e takes calls
    → ReplaySays turns source sink (outcome_of e takes calls) e → IsReplay turns source sink session
replay-of turns source sink e takes calls session is says =
    subst (λ (x : Session). IsReplay turns source sink x) (sym is) (record { status = refl; says = says })

found-of : (turns : ℕ) (source : Stream) (text : List ℕ) (part : Part) (ends e : SessionEnd) (said : List ℕ) (takes : List Took) (calls : ℕ)
    → IsFaultless source → IsReadUp 268435457 source.old source.new
    → IsInput source.old text part → IsToldOf turns text part e said takes calls → IsFound turns source (outcome_of ends takes calls) e said
found-of turns source text part ends e said takes calls same up input h = record {
  faultless = same;
  up = up;
  script = h.script;
  recorded = recorded_in text part;
  holds = holds-of source.old text part h.script input h.spelt;
  verdict = h.told.verdict;
  takes = takes;
  right = h.told.right;
  tells = refl;
  ended = h.told.ended;
  told = h.told.told;
}

written-by : (turns : ℕ) (source sink : Stream) (session : Session) (v : Verdict) → IsWritten turns source sink session (end_of v)
    → ReplaySays turns source sink session (end_of v)
written-by turns source sink session (verdict.Same lines) h = h
written-by turns source sink session (verdict.Differs line want got ended) h = h

-- all of it was written
pub says-whole : (turns : ℕ) (source sink : Stream) (text : List ℕ) (part : Part) (e : SessionEnd) (said : List ℕ) (takes : List Took)
    (calls : ℕ) (session : Session)
    → session ≡ outcome_of e takes calls
    → IsFaultless source → IsReadUp 268435457 source.old source.new → IsInput source.old text part
    → IsToldOf turns text part e said takes calls → IsFaultless sink → sink.new ≡ after_append sink.old said → IsReplay turns source sink session
says-whole turns source sink text part e said takes calls session is same up input h faultless written =
    let all : IsWritten turns source sink (outcome_of e takes calls) e =
    (faultless, (said, found-of turns source text part e e said takes calls same up input h, written)) in
    let so = written-by turns source sink (outcome_of e takes calls) h.told.verdict
    (subst (λ (x : SessionEnd). IsWritten turns source sink (outcome_of e takes calls) x) h.told.ended all) in
    replay-of turns source sink e takes calls session is
    (subst (λ (x : SessionEnd). ReplaySays turns source sink (outcome_of e takes calls) x) (sym h.told.ended) so)

-- some of it was not
pub says-cut : (turns : ℕ) (source sink : Stream) (text : List ℕ) (part : Part) (e : SessionEnd) (said : List ℕ) (takes : List Took)
    (calls : ℕ) (session : Session)
    → session ≡ outcome_of end.WriteFault takes calls
    → IsFaultless source → IsReadUp 268435457 source.old source.new → IsInput source.old text part
    → IsToldOf turns text part e said takes calls → IsFaulty sink → AppendsPart sink.old sink.new said → IsReplay turns source sink session
says-cut turns source sink text part e said takes calls session is same up input h faulty cut =
    replay-of turns source sink end.WriteFault takes calls session is
    (faulty, (e, said, found-of turns source text part end.WriteFault e said takes calls same up input h, cut))
