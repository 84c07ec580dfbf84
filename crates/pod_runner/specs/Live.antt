-- A run over inlets, into which others post while it goes on.
use Rattle.event_gate.specs.Inlet.{AllTold, EachInlet, HasEvent, Intake, IsInletTaken, after_draws}
use Rattle.pod_events.specs.Events.{is_takeable}
use Rattle.lwp_types.specs.Poll.{Next}
use Rattle.lwp_types.specs.declared.call.Line.{Line}
use Rattle.pod_runner.specs.Does.{RunsOn}
use Rattle.pod_runner.specs.Due.{armed_calls}
use Rattle.pod_runner.specs.Run.{EndsAt, Played, phase_now, session_of, setting_of}
use Rattle.streams.specs.Streams.{Stream}
use Rattle.pod_runner.specs.Session.{Made}
use Rattle.pod_runner.specs.declared.live.Live.{Live}
use Rattle.pod_runner.specs.declared.phase.RunErr.{RunErr}
use Rattle.pod_runner.specs.declared.session.Took.{Took}
use Rattle.trace_text.specs.declared.ends.Halt.{Halt}
use Rattle.std.specs.List.{All, filter}
use Rattle.std.specs.Prelude.{Bool, Err, List, Ok, Option, None, Result, Some, [], length, map, true, ℕ, ◌++◌, ◌+◌, ◌<◌, ◌==◌, ◌≡◌, ◌≤◌}
use Rattle.pod_runner.specs.declared.live.Live.TheVariants as live
use Rattle.pod_runner.specs.declared.phase.Phase.TheVariants as phase
use Rattle.pod_runner.specs.declared.phase.RunErr.TheVariants as fails
use Rattle.trace_text.specs.declared.ends.Halt.TheVariants as halts

-- ---- what a run goes on by

-- a run has gone on by these takes, and calls: what was done before comes first, and each take came after it
pub record Extends {B P : Type 0} (next : Next B) (bodies : P → List B) (old new : Played P)
    (later : List Took) : Type 0 where
  pub takes : new.takes ≡ old.takes ++ later
  pub calls_up : old.calls ≤ new.calls
  pub between : All (λ took. (old.calls ≤ took.turn) × (took.turn ≤ new.calls)) later
  pub rest : List Made
  pub steps : (session_of next bodies new).steps ≡ (session_of next bodies old).steps ++ rest

-- ---- what inlets gave

-- the take is of this event
abbrev pub is_take_of : ℕ → Took → Bool
is_take_of e took = took.event == e

-- the lines of an event among these takes, in order
abbrev pub lines_of_takes : ℕ → List Took → List Line
lines_of_takes e takes = map (λ took. took.line) (filter (is_take_of e) takes)

-- an inlet gave the lines of its event among these takes, and at times none
pub record Gives (takes : List Took) (t u : Intake) : Type 0 where
  pub nothing : ℕ
  pub after : u ≡ after_draws t (lines_of_takes t.event takes) nothing

-- how many lines may be lost: one for which memory ran out
abbrev pub may_lose : {T : Type 0} → Result T RunErr → ℕ
may_lose (Ok x) = 0
may_lose (Err fails.NoMemory) = 1
may_lose (Err fails.WriteFault) = 0

-- a run has gone on by the lines that its inlets gave, each of which gave those of its event; a lost one doesn't count
pub record Draws {B P : Type 0} (next : Next B) (bodies : P → List B) (old new : Played P)
    (before after : List Intake) (most : ℕ) : Type 0 where
  pub later : List Took
  pub lost : List Took
  pub extends : Extends next bodies old new later
  pub few : length lost ≤ most
  pub given : EachInlet (Gives (later ++ lost)) before after
  pub known : All (λ took. HasEvent before took.event) (later ++ lost)

-- what a run, its inlets and a sink come to together
pub record LivesOn {B P T : Type 0} (next : Next B) (bodies : P → List B)
    (proc_names : P → List (List ℕ)) (stream : Stream)
    (old new : Played P) (before after : List Intake) (result : Result T RunErr) : Type 0 where
  -- it went on, and told its steps
  pub ran : RunsOn next bodies proc_names stream old new result
  -- what it took is what its inlets gave; one line is lost at most, where memory ran out for it
  pub draws : Draws next bodies old new before after (may_lose result)

-- ---- looks

-- how often an inlet was looked at, and gave a line or none
abbrev pub looks : Intake → ℕ
looks t = length t.taken + t.finds

-- how many of its calls there are before which a line of the event could be taken
abbrev pub armed_count : {B P : Type 0} → Next B → (P → List B) → Played P → ℕ → ℕ
armed_count next bodies run e = length (armed_calls (setting_of next bodies run) run.takes run.calls e)

-- an inlet was looked at as often, at least, as calls were added before which a line of its event could be taken
abbrev pub LooksAt : {B P : Type 0} → Next B → (P → List B) → Played P → Played P → Intake → Intake → Type 0
LooksAt next bodies old new t u = armed_count next bodies new t.event + looks t
    ≤ armed_count next bodies old t.event + looks u

-- so it is of each inlet
abbrev pub LooksAtAll : {B P : Type 0} → Next B → (P → List B) → Played P → Played P → List Intake
    → List Intake → Type 0
LooksAtAll next bodies old new before after = EachInlet (LooksAt next bodies old new) before after

-- ---- what a live run answers

-- a line of the inlet's event can be delivered
abbrev pub IsWanted : {B P : Type 0} → Next B → (P → List B) → Played P → Intake → Type 0
IsWanted next bodies run t = is_takeable (session_of next bodies run).live.pod t.event ≡ true

-- nothing more will come that can be delivered: each pass came back, and of each event that waits every line was taken
abbrev pub NoneComes : {B P : Type 0} → Next B → (P → List B) → Played P → List Intake → Type 0
NoneComes next bodies run inlets = AllTold inlets × All (λ t. IsWanted next bodies run t → IsInletTaken t) inlets

-- the run has ended so, where no line is left that can be delivered; stuck only where none comes
abbrev pub Halts : {B P : Type 0} → Next B → (P → List B) → Played P → List Intake → Halt → Type 0
Halts next bodies run inlets halt = EndsAt next bodies run [] halt
    × (halt ≡ halts.Stuck → NoneComes next bodies run inlets)

-- nobody may run, some pass is still out, and of each event that waits no line was found in this call
abbrev pub IsQuiet : {B P : Type 0} → Next B → (P → List B) → Played P → List Intake → List Intake → Type 0
IsQuiet next bodies run before after = (phase_now next bodies run ≡ phase.Idle)
    × (AllTold after → ⊥)
    × EachInlet (λ t u. IsWanted next bodies run u → t.finds < u.finds) before after

-- the answer is right
abbrev pub Answers : {B P : Type 0} → Next B → (P → List B) → Played P → List Intake → List Intake → Live → Type 0
Answers next bodies run before after (live.Halt halt) = Halts next bodies run after halt
Answers next bodies run before after live.Quiet = IsQuiet next bodies run before after

-- an answer, if there is one, is right
abbrev pub AnswersIf : {B P : Type 0} → Next B → (P → List B) → Played P → List Intake → List Intake
    → Option Live → Type 0
AnswersIf next bodies run before after None = Unit {0}
AnswersIf next bodies run before after (Some answer) = Answers next bodies run before after answer
