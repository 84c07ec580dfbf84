-- A run of a script: what it plays, and what it has told.
use Rattle.script_body.specs.Bodies.{bodies_of, body_next}
use Rattle.script_body.specs.declared.thread_body.ThreadBody.{ThreadBody}
use Rattle.script_session.specs.SoFar.{lines_after, lines_before, opening_names, opening_run, session_at, setting_of}
use Rattle.lwp_types.specs.Names.{Names}
use Rattle.lwp_types.specs.Streams.{after_append}
use Rattle.lwp_types.specs.declared.call.PodParams.{PodParams}
use Rattle.pod_runner.specs.Play.{play}
use Rattle.pod_runner.specs.Run as run
use Rattle.pod_runner.specs.Run.{GoesOn, IsNew, Played, but_last}
use Rattle.pod_runner.specs.Session.{Setting}
use Rattle.pod_runner.specs.Session as Sessions
use Rattle.pod_runner.specs.Trace.{lines}
use Rattle.script_text.specs.Script.{params_of, proc_names}
use Rattle.script_text.specs.declared.script.Script.{Script}
use Rattle.std.proofs.Common.{Err, List, None, Ok, OnErr, Option, Result, Some, [], ap, append-nil, refl, sym, ℕ, ◌∙◌, ◌≡◌}

pub appended-nil : (w : Option (List ℕ)) → after_append w [] ≡ w
appended-nil None = refl
appended-nil (Some told) = ap (λ x. Some x) (append-nil told)

-- a fact of an error holds where there is one
pub on_err : {X E : Type 0} (r : Result X E) (P : Type 0) → P → OnErr r P
on_err (Ok x) P h = tt
on_err (Err e) P h = h

-- it plays this script, with so many turns allowed
pub record Plays (script : Script) (turns : ℕ) (r : Played Script) : Type 0 where
  pub program : r.program ≡ script
  pub params : r.params ≡ params_of script
  pub names : r.names ≡ opening_names script
  pub turns_same : r.turns ≡ turns

pub plays : (script : Script) (turns : ℕ) (o r : Played Script) → o ≡ opening_run script turns → GoesOn o r → Plays script turns r
plays script turns o r h g = record {
  program = g.program ∙ ap (λ (x : Played Script). x.program) h;
  params = g.params ∙ ap (λ (x : Played Script). x.params) h;
  names = g.names ∙ ap (λ (x : Played Script). x.names) h;
  turns_same = g.turns ∙ ap (λ (x : Played Script). x.turns) h;
}

pub setting-is : (script : Script) (turns : ℕ) (r : Played Script) → Plays script turns r → run.setting_of body_next bodies_of r ≡ setting_of script
setting-is script turns r h =
    ap (λ (p : Script). the_setting p r.params r.names) h.program
    ∙ ap (λ (p : PodParams). the_setting script p r.names) h.params
    ∙ ap (λ (n : Names). the_setting script (params_of script) n) h.names
  where
    the_setting : Script → PodParams → Names → Setting ThreadBody
    the_setting p params names = record { next = body_next; bodies = bodies_of p; params = params; names = names }

pub session-is : (script : Script) (turns : ℕ) (r : Played Script) → Plays script turns r
    → run.session_of body_next bodies_of r ≡ session_at script r.takes r.calls
session-is script turns r h = ap (λ (s : Setting ThreadBody). play s r.takes r.calls) (setting-is script turns r h)

pub lines-is : (script : Script) (turns : ℕ) (r : Played Script) → Plays script turns r
    → run.trace_of body_next bodies_of proc_names r ≡ lines_after script r.takes r.calls
unfolding lines_after
lines-is script turns r h =
    ap (λ p. lines (proc_names p) (run.session_of body_next bodies_of r).steps) h.program
    ∙ ap (λ (s : Sessions.Session ThreadBody). lines (proc_names script) s.steps) (session-is script turns r h)

pub before-is : (script : Script) (turns : ℕ) (r : Played Script) → Plays script turns r
    → run.trace_before body_next bodies_of proc_names r ≡ lines_before script r.takes r.calls
unfolding lines_before
before-is script turns r h =
    ap (λ p. lines (proc_names p) (but_last (run.session_of body_next bodies_of r).steps)) h.program
    ∙ ap (λ (s : Sessions.Session ThreadBody). lines (proc_names script) (but_last s.steps)) (session-is script turns r h)

pub no-lines : (procs : List (List ℕ)) (s : Setting ThreadBody) → lines procs (play s [] 0).steps ≡ []
unfolding play
no-lines procs s = refl

-- nothing of the trace is told yet
pub told-before : (script : Script) (turns : ℕ) (o : Played Script) (old : Option (List ℕ)) → o ≡ opening_run script turns
    → old ≡ after_append old (run.trace_of body_next bodies_of proc_names o)
told-before script turns o old h =
    sym (ap (λ x. after_append old (run.trace_of body_next bodies_of proc_names x)) h
    ∙ ap (after_append old) (no-lines (proc_names script) (setting_of script)) ∙ appended-nil old)

pub is-new : (script : Script) (turns : ℕ) (o : Played Script) → o ≡ opening_run script turns → IsNew o
is-new script turns o h = (ap (λ (x : Played Script). x.calls) h, ap (λ (x : Played Script). x.takes) h)
