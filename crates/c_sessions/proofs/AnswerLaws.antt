-- From what a session of `answers` says to what is told of it.
use Rattle.c_sessions.proofs.PlanLaws.{fronted, told_unrefused, untaken}
use Rattle.c_sessions.specs.Answered.{answers_text, answers_text_by}
use Rattle.c_sessions.specs.Fronts.{Fronting}
use Rattle.c_sessions.specs.Planned.{TellsPlan, TellsScript}
use Rattle.c_sessions.specs.Records.{session_record}
use Rattle.lwp_serve.specs.Answers.Answers.{AnswersSay, IsAnswers, IsToldWhole}
use Rattle.lwp_serve.specs.Plan.Make.{is_over}
use Rattle.lwp_serve.specs.Plan.Plan.{IsWhole}
use Rattle.lwp_serve.specs.Plan.Planned.{trace_of}
use Rattle.pod_runner.specs.declared.session.Took.{Took}
use Rattle.script_session.specs.History.{taken_of}
use Rattle.script_session.specs.Said.{EndsBy, Refuses, Says}
use Rattle.script_session.specs.declared.session.Session.{Session}
use Rattle.script_session.specs.declared.session.SessionEnd.{SessionEnd}
use Rattle.script_session.specs.declared.session.SessionEnd.TheVariants as end
use Rattle.script_text.proofs.ScriptLaws.{is_verdict}
use Rattle.script_text.specs.Spelling.{verdict}
use Rattle.script_text.specs.declared.reason.Reason.{Reason}
use Rattle.script_text.specs.declared.script.Script.{Script}
use Rattle.std.proofs.Common.{Err, List, None, Ok, Option, Result, Some, [], ap, length, refl, subst, sym, true, ℕ, ◌∙◌, ◌≡◌}
use Rattle.std.proofs.lemmas.List.{length-map}
use Rattle.std.specs.Prelude.{IfOk, is_ok, ◌==◌}
use Rattle.streams.specs.Streams.{Stream}
use Rattle.trace_text.specs.declared.ends.Halt.{Halt}

-- a session to its end, and whatever script the source held
whole_by : (client calls : ℕ) (source sink : Stream) (session : Session) (e : SessionEnd) → is_over e ≡ true
    → EndsBy (λ script. AnswersSay client calls script sink session) source sink session e
    → Says source.old (λ script. IsToldWhole client calls script sink session)
whole_by client calls source sink session (end.Ended status) o s = s.1
whole_by client calls source sink session end.Stuck o s = s.1
whole_by client calls source sink session end.Spent o s = s.1
whole_by client calls source sink session end.Usage o s = absurd (cc o)
whole_by client calls source sink session end.ReadFault o s = absurd (cc o)
whole_by client calls source sink session end.WriteFault o s = absurd (cc o)
whole_by client calls source sink session (end.Script line reason) o s = absurd (cc o)
whole_by client calls source sink session end.NoMemory o s = absurd (cc o)
whole_by client calls source sink session (end.Input part) o s = absurd (cc o)
whole_by client calls source sink session end.Reported o s = absurd (cc o)
whole_by client calls source sink session end.Same o s = absurd (cc o)
whole_by client calls source sink session (end.Differs line) o s = absurd (cc o)

-- a plan whose trace goes where nothing is told is one whose trace is told
retold : (calls : ℕ) (script : Script) (takes : List Took) (made : ℕ) (halt : Halt) → IsWhole calls script None None takes made halt
    → IsWhole calls script (Some []) (Some (trace_of script calls)) takes made halt
retold calls script takes made halt w = record {
  trace = refl;
  halted = w.halted;
  made = w.made;
  taken = w.taken;
  due = w.due;
  left = w.left;
  history = w.history;
  printed = w.printed;
  stuck = w.stuck;
}

-- what is written, by the verdict on the bytes
pub text_by : (client calls : ℕ) (bytes : List ℕ) (r : Result Script (ℕ × Reason)) → verdict bytes ≡ r
    → answers_text bytes client calls ≡ answers_text_by r client calls
unfolding answers_text
text_by client calls bytes r v = ap (λ (x : Result Script (ℕ × Reason)). answers_text_by x client calls) v

-- what is told of a session to its end, where these bytes were written
pub record Answered (client calls : ℕ) (bytes written : List ℕ) (session : Session) : Type 0 where
  pub text : written ≡ answers_text bytes client calls
  pub told : TellsPlan (verdict bytes) calls (session_record session.end session.turns (length session.taken))
  pub reason : ((session_record session.end session.turns (length session.taken)).reason == 0) ≡ is_ok (verdict bytes)

answered_by : (client calls : ℕ) (bytes : List ℕ) (before after : Fronting) (session : Session) (script : Script) → before.bytes ≡ []
    → verdict bytes ≡ Ok script
    → IsToldWhole client calls script (fronted before after) session → Answered client calls bytes after.bytes session
answered_by client calls bytes before after session script fresh v w =
    let halt = w.1.0 in
    let takes = w.1.1 in
    let numbers = session_record session.end session.turns (length session.taken) in
    let count : length session.taken ≡ length takes = ap length w.1.3 ∙ length-map takes taken_of in
    let told : TellsScript script calls numbers =
    record { halt = halt; takes = takes; whole = retold calls script takes session.turns halt w.1.4.planned; numbers = rw (w.1.2, count) refl } in
    record {
      text = cc (w.1.4.written, fresh) ∙ sym (text_by client calls bytes (Ok script) v);
      told = subst (λ (r : Result Script (ℕ × Reason)). TellsPlan r calls numbers) (sym v) told;
      reason = told_unrefused calls script numbers told ∙ sym (ap is_ok v);
    }

pub answered_of : (client calls room : ℕ) (bytes : List ℕ) (source : Stream) (before after : Fronting) (session : Session)
    → source.old ≡ Some bytes → before ≡ untaken room
    → is_over session.end ≡ true → IsAnswers client calls source (fronted before after) session → Answered client calls bytes after.bytes session
answered_of client calls room bytes source before after session held fresh o says =
    let all = subst (λ (left : Option (List ℕ)). Says left (λ script. IsToldWhole client calls script (fronted before after) session)) held
    (whole_by client calls source (fronted before after) session session.end o says.says) in
    let script = all.0.0 in
    answered_by client calls bytes before after session script (ap (λ (s : Fronting). s.bytes) fresh) (is_verdict bytes script all.0.1) (all.1 script all.0.1)

-- bytes that were refused are no script
pub refused_of : (client calls : ℕ) (bytes : List ℕ) (source sink : Stream) (session : Session) (line : ℕ) (why : Reason) → source.old ≡ Some bytes
    → session.end ≡ end.Script line why → IsAnswers client calls source sink session → verdict bytes ≡ Err (line, why)
refused_of client calls bytes source sink session line why held is says =
    let ends = subst (λ (e : SessionEnd). EndsBy (λ script. AnswersSay client calls script sink session) source sink session e) is says.says in
    subst (λ (left : Option (List ℕ)). Refuses left line why) held ends.1

-- what follows from what holds of an answer holds of it
pub if_ok : {A E : Type 0} {P Q : A → Type 0} (r : Result A E) → ((x : A) → P x → Q x) → IfOk r P → IfOk r Q
if_ok (Ok x) f p = f x p
if_ok (Err e) f p = tt
