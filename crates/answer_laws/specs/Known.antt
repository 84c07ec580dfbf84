-- Which threads the names of a script's threads mean.
use Rattle.answer_laws.specs.Served.{IsPolledWith}
use Rattle.line_server.specs.Sessions.{SessionBody, session_next}
use Rattle.lwp_types.specs.Names.{Names, id_at, null_id, null_names, names_for_poll}
use Rattle.lwp_types.specs.State.{State}
use Rattle.lwp_types.specs.declared.call.Answer.{Answer}
use Rattle.lwp_types.specs.declared.call.Call.TheVariants as call
use Rattle.lwp_types.specs.declared.call.PodParams.{PodParams}
use Rattle.pod_runner.specs.Due.{IsDefined}
use Rattle.pod_runner.specs.Play.{play}
use Rattle.pod_runner.specs.Session.{Session, Setting, opening_session}
use Rattle.pod_runner.specs.declared.session.Took.{Took}
use Rattle.script_body.specs.Bodies.{body_next}
use Rattle.script_body.specs.declared.thread_body.ThreadBody.{ThreadBody}
use Rattle.script_body.specs.declared.thread_body.ThreadBody.TheVariants.{Serving}
use Rattle.std.specs.Prelude.{List, ℕ, ◌<◌, ◌≡◌, ◌≤◌, ◌⊎◌}

-- it is null, or the number of somebody born
abbrev pub IsKnown : State → ℕ → Type 0
IsKnown s n = (n ≡ null_id) ⊎ (n < s.births)

-- so is what each name of a thread means
abbrev pub KnowsItsNames : {B : Type 0} → Session B → Type 0
KnowsItsNames session = (place : ℕ) → IsKnown session.live.pod.state (id_at session.live.names.threads place)

-- a session of a script's threads, from its names on
abbrev pub script_setting : List ThreadBody → PodParams → Names → Setting ThreadBody
script_setting bodies params names = record { next = body_next; bodies = bodies; params = params; names = names }

-- So it is at the opening of a script's session, where all names are null.
abbrev pub NullNamesAreKnown : Type 0
NullNamesAreKnown = (bodies : List ThreadBody) (params : PodParams) (threads monitors conditions : ℕ)
    → KnowsItsNames (opening_session (script_setting bodies params (null_names threads monitors conditions)))

-- In every session of every script, if it is so at the opening it is so always.
abbrev pub NamesAreOfTheBorn : Type 0
NamesAreOfTheBorn = (bodies : List ThreadBody) (params : PodParams) (names : Names) → 1 ≤ params.maxpri → params.maxpri ≤ 255 → KnowsItsNames (opening_session (script_setting bodies params names))
    → (takes : List Took) (n : ℕ) → IsDefined (script_setting bodies params names) takes n
    → KnowsItsNames (play (script_setting bodies params names) takes n)

-- And a client's session sends to somebody who was born, or to nobody: not to a store before its birth.
abbrev pub SessionsSendToTheBorn : Type 0
SessionsSendToTheBorn = (bodies : List ThreadBody) (params : PodParams) (names : Names)
    → 1 ≤ params.maxpri → params.maxpri ≤ 255 → KnowsItsNames (opening_session (script_setting bodies params names))
    → (takes : List Took) (n : ℕ) → IsDefined (script_setting bodies params names) takes n
    → (s : ℕ) (body : SessionBody) (heard : Answer)
    → IsPolledWith s (play (script_setting bodies params names) takes n).live.rows (Serving body) heard
    → (to room : ℕ) (text : List ℕ)
    → (session_next body (names_for_poll s (play (script_setting bodies params names) takes n).live.names) heard).0
    ≡ call.Send to room text
    → IsKnown (play (script_setting bodies params names) takes n).live.pod.state to
