-- In which procedure a thread begins, as the steps of a session tell it.
use Rattle.answer_laws.specs.Clients.{IsAnsweredInTurn, sends_nothing}
use Rattle.answer_laws.specs.Known.{KnowsItsNames, script_setting}
use Rattle.answer_laws.specs.Served.{LineServer, Serves, line_is_short, steps_of}
use Rattle.line_server.specs.Sessions.{SessionBody, session_opening}
use Rattle.line_server.specs.Stores.{StoreBody, store_opening}
use Rattle.lwp_types.specs.Names.{Names, null_names}
use Rattle.lwp_types.specs.State.{passes}
use Rattle.lwp_types.specs.declared.call.Effect.{Effect}
use Rattle.lwp_types.specs.declared.call.Effect.TheVariants as effect
use Rattle.lwp_types.specs.declared.call.PodParams.{PodParams}
use Rattle.pod_runner.specs.Due.{IsDefined}
use Rattle.pod_runner.specs.Play.{play}
use Rattle.pod_runner.specs.Session.{Made, Session, Setting, opening_session, proc_of, thread_in}
use Rattle.pod_runner.specs.declared.session.Took.{Took}
use Rattle.script_body.specs.declared.thread_body.ThreadBody.{ThreadBody}
use Rattle.script_body.specs.declared.thread_body.ThreadBody.TheVariants.{Serving, Storing}
use Rattle.std.specs.List.{list_all, list_any}
use Rattle.std.specs.Prelude.{Bool, List, None, Option, Some, [], false, if◌then◌else◌, slice_get, true, ℕ, not, ◌&&◌, ◌<◌, ◌==◌, ◌∷◌, ◌≡◌, ◌≤◌, ◌⊎◌, ◌||◌}

-- the effect answers somebody with this thread
abbrev pub names_it : ℕ → Effect → Bool
names_it t (effect.Answered u a) = passes (λ b. b == t) (thread_in a)
names_it t _ = false

-- so does one of a step
abbrev pub is_named : ℕ → List Effect → Bool
is_named t es = list_any (names_it t) es

-- the procedure of the Create that is answered with this thread, if the step's call is one; the first effect is the
-- call, or a trap and then the call
abbrev pub born_in : ℕ → List Effect → Option ℕ
born_in t (effect.Called u c ∷ effect.Answered v a ∷ es) = if passes (λ b. b == t) (thread_in a) then proc_of c
    else None
born_in t (effect.Trapped u e ∷ es) = born_in t es
born_in t _ = None

-- the procedure that the thread begins in, by the first step that names it
abbrev pub begins_in : ℕ → List Made → Option ℕ
begins_in t [] = None
begins_in t (made ∷ steps) = if is_named t made.effects then born_in t made.effects else begins_in t steps

-- the effect is a letter that the thread sends
abbrev pub is_send_of : ℕ → Effect → Bool
is_send_of t (effect.Called u c) = (u == t) && not (sends_nothing c)
is_send_of t _ = false

-- s sends nothing before the first step that names k, nor in that
abbrev pub is_unsent_till : ℕ → ℕ → List Made → Bool
is_unsent_till k s [] = true
is_unsent_till k s (made ∷ steps) =
    not (list_any (is_send_of s) made.effects) && (is_named k made.effects || is_unsent_till k s steps)

-- In every session something holds of a session of a client, which begins in a procedure that is one, if there is a
-- store that lives in the end, all that the session has sent went to it, the lines that were taken are no longer than a
-- text may be, and IsEarly holds of a session that is born before its store.
abbrev pub HoldsAlways : {B : Type 0} → Setting B → (SessionBody → B) → (StoreBody → B)
    → (ℕ → ℕ → Session B → Type 0) → (ℕ → Session B → Type 0) → Type 0
HoldsAlways setting serving storing IsEarly Says = 1 ≤ setting.params.maxpri
    → setting.params.maxpri ≤ 255 → (takes : List Took) (n : ℕ) → IsDefined setting takes n
    → (s k in_s in_k event place : ℕ) → (s == k) ≡ false → (s < k → IsEarly s k (play setting takes n))
    → begins_in s (play setting takes n).steps ≡ Some in_s
    → slice_get setting.bodies in_s ≡ Some (serving (session_opening event place))
    → begins_in k (play setting takes n).steps ≡ Some in_k
    → slice_get setting.bodies in_k ≡ Some (storing store_opening)
    → Serves s k (play setting takes n) → list_all (λ made. line_is_short made.take) (play setting takes n).steps ≡ true
    → Says s (play setting takes n)

-- The replies of the session to its agent that were accepted are a first part of the answers to the lines delivered to
-- that.
abbrev pub IsAnsweredAlways : {B : Type 0} → Setting B → (SessionBody → B) → (StoreBody → B)
    → (ℕ → ℕ → Session B → Type 0) → Type 0
IsAnsweredAlways setting serving storing IsEarly =
    HoldsAlways setting serving storing IsEarly (λ s end. (a : ℕ) → IsAnsweredInTurn s a (steps_of end.steps))

-- till its store is born, the session sends nothing
abbrev pub IsUnsentTill : {B : Type 0} → ℕ → ℕ → Session B → Type 0
IsUnsentTill s k end = is_unsent_till k s end.steps ≡ true

-- So it is where a session that is born before its store sends nothing till that is born.
abbrev pub InEverySession : Type 0 → Type 0
InEverySession B = (setting : Setting B) (server : LineServer setting.next)
    → IsAnsweredAlways setting server.serving server.storing IsUnsentTill

-- And in every session of every script, where at the opening each name is null, or means somebody born; or else by
-- the same premise.
abbrev pub InEveryScript : Type 0
InEveryScript = (bodies : List ThreadBody) (params : PodParams) (names : Names)
    → IsAnsweredAlways (script_setting bodies params names) Serving Storing
    (λ s k end. KnowsItsNames (opening_session (script_setting bodies params names)) ⊎ IsUnsentTill s k end)

-- With names that are null at the opening nothing is asked of a session that is born before its store.
abbrev pub FromNullNames : Type 0
FromNullNames = (bodies : List ThreadBody) (params : PodParams) (threads monitors conditions : ℕ)
    → IsAnsweredAlways (script_setting bodies params (null_names threads monitors conditions))
    Serving Storing (λ s k end. Unit {0})
