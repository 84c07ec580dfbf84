-- From what a run of a script says to what is told of it.
use Rattle.c_sessions.specs.Fronts.{Fronting}
use Rattle.c_sessions.specs.Planned.{TellsScript}
use Rattle.c_sessions.specs.Records.{reason_of, session_record}
use Rattle.c_sessions.specs.declared.outcome.SessionRecord.{SessionRecord}
use Rattle.lwp_serve.specs.Plan.Make.{is_over}
use Rattle.lwp_serve.specs.Plan.Plan.{IsPlayed, IsRun, IsWhole, RunSays}
use Rattle.lwp_serve.specs.Plan.Planned.{trace_of}
use Rattle.pod_runner.specs.declared.session.Took.{Took}
use Rattle.script_session.specs.History.{taken_of}
use Rattle.script_session.specs.Outcome.{end_of}
use Rattle.script_session.specs.Said.{Tells}
use Rattle.script_session.specs.declared.session.Session.{Session}
use Rattle.script_session.specs.declared.session.SessionEnd.{SessionEnd}
use Rattle.script_session.specs.declared.session.SessionEnd.TheVariants as end
use Rattle.script_text.specs.declared.reason.Reason.{Reason}
use Rattle.script_text.specs.declared.reason.Reason.TheVariants as reason
use Rattle.script_text.specs.declared.script.Script.{Script}
use Rattle.std.proofs.Common.{List, Some, [], ap, false, length, refl, subst, true, ℕ, ◌∙◌, ◌≡◌}
use Rattle.std.specs.Prelude.{◌==◌}
use Rattle.std.proofs.lemmas.List.{length-map}
use Rattle.streams.specs.Streams.{Stream}
use Rattle.trace_text.specs.declared.ends.Halt.{Halt}
use Rattle.trace_text.specs.declared.ends.Halt.TheVariants as halts

run_of : (calls : ℕ) (script : Script) (sink : Stream) (session : Session) (e : SessionEnd) → is_over e ≡ true → RunSays calls script sink session e
    → IsRun calls script sink session
run_of calls script sink session (end.Ended status) o s = s
run_of calls script sink session end.Stuck o s = s
run_of calls script sink session end.Spent o s = s
run_of calls script sink session end.Usage o s = absurd (cc o)
run_of calls script sink session end.ReadFault o s = absurd (cc o)
run_of calls script sink session end.WriteFault o s = absurd (cc o)
run_of calls script sink session (end.Script line reason) o s = absurd (cc o)
run_of calls script sink session end.NoMemory o s = absurd (cc o)
run_of calls script sink session (end.Input part) o s = absurd (cc o)
run_of calls script sink session end.Reported o s = absurd (cc o)
run_of calls script sink session end.Same o s = absurd (cc o)
run_of calls script sink session (end.Differs line) o s = absurd (cc o)

-- a sink that keeps the first bytes, before and after
abbrev pub fronted : Fronting → Fronting → Stream
fronted before after = record { old = Some before.bytes; new = Some after.bytes; faults_old = before.faults; faults_new = after.faults }

-- a sink that has taken nothing
abbrev pub untaken : ℕ → Fronting
untaken room = record { room = room; bytes = []; faults = 0 }

-- a session to its end, whose trace has these bytes
pub record Ended (calls : ℕ) (script : Script) (bytes : List ℕ) (session : Session) : Type 0 where
  pub trace : bytes ≡ trace_of script calls
  pub told : TellsScript script calls (session_record session.end session.turns (length session.taken))

ended_by : (calls : ℕ) (script : Script) (bytes : List ℕ) (session : Session) (halt : Halt) (takes : List Took) → session.end ≡ end_of halt
    → Tells session takes
    → IsWhole calls script (Some []) (Some bytes) takes session.turns halt → Ended calls script bytes session
ended_by calls script bytes session halt takes ended tells w =
    let trace : bytes ≡ trace_of script calls = cc w.trace in
    let count : length session.taken ≡ length takes = ap length tells ∙ length-map takes taken_of in
    record {
      trace = trace;
      told =
          record {
            halt = halt;
            takes = takes;
            whole = subst (λ (b : List ℕ). IsWhole calls script (Some []) (Some b) takes session.turns halt) trace w;
            numbers = rw (ended, count) refl;
          };
    }

pub ended_of : (calls room : ℕ) (script : Script) (before after : Fronting) (session : Session) → before ≡ untaken room → is_over session.end ≡ true
    → IsPlayed calls script (fronted before after) session → Ended calls script after.bytes session
ended_of calls room script before after session fresh o played =
    let w = run_of calls script (fronted (untaken room) after) session session.end o
    (subst (λ (x : Fronting). RunSays calls script (fronted x after) session session.end) fresh played.says) in
    ended_by calls script after.bytes session w.1.0 w.1.1 w.1.2 w.1.3 w.1.4

-- ---- the reason of a record

no_reason : (halt : Halt) → (reason_of (end_of halt) == 0) ≡ true
no_reason (halts.Ended status) = refl
no_reason halts.Stuck = refl
no_reason halts.Spent = refl

-- a session to its end has none
pub told_unrefused : (calls : ℕ) (script : Script) (told : SessionRecord) → TellsScript script calls told → (told.reason == 0) ≡ true
told_unrefused calls script told h = ap (λ (r : SessionRecord). r.reason == 0) h.numbers ∙ no_reason h.halt

pub some_reason : (line : ℕ) (why : Reason) → (reason_of (end.Script line why) == 0) ≡ false
some_reason line reason.TooLarge = refl
some_reason line reason.Unended = refl
some_reason line reason.Bytes = refl
some_reason line reason.Header = refl
some_reason line reason.Pod = refl
some_reason line reason.Limit = refl
some_reason line reason.Client = refl
some_reason line reason.Native = refl
some_reason line reason.Proc = refl
some_reason line reason.Post = refl
some_reason line reason.Again = refl
some_reason line reason.Statement = refl
some_reason line reason.Missing = refl
