-- A run, one step on.
use Rattle.std.proofs.Common.{◌≡◌, ◌<◌, ◌^◌, ◌≤◌, ℕ, ◌+◌, List, [], ◌∷◌, ◌++◌, Bool, true, false, cond, None, Some, ap, ◌∙◌, sym, refl, arith}
use Rattle.std.specs.Prelude.{Option, Result, Ok, Err, IsTrue, is_some, not, option_map, ◌&&◌, nat_lt}
use Rattle.std.proofs.lemmas.Bool.Decides.{nat_tests}
use Rattle.lwp_types.specs.Choice.{choice}
use Rattle.lwp_types.specs.State.{State}
use Rattle.std.proofs.lemmas.List.Sums.{fold-append}
use Rattle.lwp_types.specs.declared.call.Effect.{Effect}
use Rattle.pod_runner.specs.Calls.{last_effects}
use Rattle.pod_runner.specs.Due.{IsDefined, is_call_due}
use Rattle.pod_runner.specs.RunParts.{Moves}
use Rattle.pod_runner.specs.Phase.{phase_by, phase_of}
use Rattle.pod_runner.specs.Play.{play}
use Rattle.pod_runner.specs.Session.{Live, Made, Move, Session, Setting, move, take_move, with_move}
use Rattle.pod_runner.specs.Keeps.{Keeps}
use Rattle.pod_runner.specs.Run.{Played, Tells, after_step}
use Rattle.pod_runner.specs.Telling.{Told}
use Rattle.pod_runner.specs.Trace.{lines}
use Rattle.streams.specs.Streams.{Stream}
use Rattle.pod_events.specs.Events.{is_takeable}
use Rattle.trace_text.specs.Lines.{step_lines}
use Rattle.pod_runner.proofs.Appends.{cut_on, writes_on}
use Rattle.pod_runner.specs.declared.phase.Phase.TheVariants as phase
use Rattle.pod_runner.specs.declared.phase.RunErr.{RunErr}
use Rattle.pod_runner.specs.declared.phase.RunErr.TheVariants as fails
use Rattle.pod_runner.specs.declared.session.Took.{Took}
use Rattle.pod_runner.proofs.Plays.{IsDefined-call, IsDefined-take, LastBy-of, lines-step, play-call, play-take}

-- a step was made: the parts stand as the longer session does, with the effects of its last step, and its lines are longer by those of
-- the step
pub record Stepped {B : Type 0} (procs : List (List ℕ)) (old : Session B) (new : Session B) (live : Live B) (told : List Effect) (out : List ℕ) : Type 0 where
  pub now : live ≡ new.live
  pub last : told ≡ last_effects new.steps
  pub lines : lines procs new.steps ≡ lines procs old.steps ++ out

-- the effects of the last step are those of the step that was made last
pub last_effects-step : (steps : List Made) (take : Option Took) (effects : List Effect)
    → last_effects (steps ++ record { take = take; effects = effects } ∷ []) ≡ effects
last_effects-step steps take effects =
    fold-append (λ (known : List Effect) (step : Made). step.effects) [] steps (record { take = take; effects = effects } ∷ [])

stepped-by : {B : Type 0} (procs : List (List ℕ)) (old new : Session B) (take : Option Took) (m : Move B) (live : Live B) (told : List Effect) (out : List ℕ)
    → new ≡ with_move old take m → Moves procs (option_map (λ (took : Took). took.line) take) m live told out → Stepped procs old new live told out
stepped-by procs old new take m live told out is moves = record {
  now = moves.live ∙ sym (ap (λ (s : Session _). s.live) is);
  last = moves.effects ∙ sym (ap (λ (s : Session _). last_effects s.steps) is ∙ last_effects-step old.steps take m.effects);
  lines = ap (λ (s : Session _). lines procs s.steps) is
      ∙ lines-step procs old.steps take m.effects
      ∙ ap (λ l. lines procs old.steps ++ l) (sym moves.lines);
}

module _ {B : Type 0} (setting : Setting B) (procs : List (List ℕ)) (takes : List Took) (n : ℕ) (old new : Live B) (told : List Effect)
    (out : List ℕ) (made : IsDefined setting takes n) (was : old ≡ (play setting takes n).live) where
  pub stepped-call : Moves procs None (move setting.next setting.bodies old) new told out
      → Stepped procs (play setting takes n) (play setting takes (n + 1)) new told out
  stepped-call moves = stepped-by procs (play setting takes n) (play setting takes (n + 1)) None
      (move setting.next setting.bodies (play setting takes n).live) new told out
      (play-call setting takes n (LastBy-of setting takes n made)) (rw (← was) moves)

  pub stepped-take : (took : Took) → took.turn ≡ n → Moves procs (Some took.line) (take_move setting.bodies took old) new told out
      → Stepped procs (play setting takes n) (play setting (takes ++ took ∷ []) n) new told out
  stepped-take took h moves = stepped-by procs (play setting takes n) (play setting (takes ++ took ∷ []) n) (Some took)
      (take_move setting.bodies took (play setting takes n).live) new told out
      (play-take setting took takes n h) (rw (← was) moves)

-- ---- what a call and a take leave

module _ {B : Type 0} (setting : Setting B) (names procs : List (List ℕ)) (takes : List Took) (n turns : ℕ) (old new : Live B)
    (told : List Effect) (out : List ℕ)
    (named : procs ≡ names) (made : IsDefined setting takes n) (was : old ≡ (play setting takes n).live) where
  pub called-step : Moves procs None (move setting.next setting.bodies old) new told out
      → Stepped names (play setting takes n) (play setting takes (n + 1)) new told out
  called-step moves = stepped-call setting names takes n old new told out made was
      (record {
        live = moves.live;
        effects = moves.effects;
        lines = moves.lines ∙ ap (λ names. step_lines names None (move setting.next setting.bodies old).effects) named;
      })

  pub taken-step : (took : Took) → took.turn ≡ n → Moves procs (Some took.line) (take_move setting.bodies took old) new told out
      → Stepped names (play setting takes n) (play setting (takes ++ took ∷ []) n) new told out
  taken-step took h moves = stepped-take setting names takes n old new told out made was took h
      (record {
        live = moves.live;
        effects = moves.effects;
        lines = moves.lines ∙ ap (λ names. step_lines names (Some took.line) (take_move setting.bodies took old).effects) named;
      })

-- in phase Turn a call is due
due-turn : (s : State) (turns calls : ℕ) → phase_of s turns calls ≡ phase.Turn → (not s.ended && is_some (choice s)) ≡ true
due-turn s turns calls h = by_end s.ended (choice s) h
  where
    by_end : (b : Bool) (o : Option ℕ) → cond b (phase.Ended s.status) (phase_by turns calls o) ≡ phase.Turn → (not b && is_some o) ≡ true
    by_end true o h = absurd (cc)
    by_end false None h = absurd (cc)
    by_end false (Some t) h = refl

pub is_call_due-turn : {B : Type 0} (s : Session B) (turns calls : ℕ) → phase_of s.live.pod.state turns calls ≡ phase.Turn → IsTrue (is_call_due s)
is_call_due-turn s turns calls h = due-turn s.live.pod.state turns calls h

-- and fewer calls were made than are allowed
pub room-turn : (s : State) (turns calls : ℕ) → phase_of s turns calls ≡ phase.Turn → calls + 1 ≤ turns
room-turn s turns calls h = by_end s.ended (choice s) h
  where
    by_count : (b : Bool) → nat_lt calls turns ≡ b → cond b phase.Turn phase.Spent ≡ phase.Turn → calls + 1 ≤ turns
    by_count true is h = grind (arith, nat_tests)
    by_count false is h = absurd (cc)

    by_end : (b : Bool) (o : Option ℕ) → cond b (phase.Ended s.status) (phase_by turns calls o) ≡ phase.Turn → calls + 1 ≤ turns
    by_end true o h = absurd (cc)
    by_end false None h = absurd (cc)
    by_end false (Some t) h = by_count (nat_lt calls turns) refl h

-- ---- what is kept

pub made-call : {B : Type 0} (setting : Setting B) (takes : List Took) (n turns : ℕ) → IsDefined setting takes n
    → phase_of (play setting takes n).live.pod.state turns n ≡ phase.Turn → IsDefined setting takes (n + 1)
made-call setting takes n turns made due =
    IsDefined-call setting takes n (LastBy-of setting takes n made) made (is_call_due-turn (play setting takes n) turns n due)

pub keeps-call : {B : Type 0} (setting : Setting B) (names procs : List (List ℕ)) (takes : List Took) (n turns : ℕ) (live : Live B)
    (told : List Effect) (failed : Bool) (out : List ℕ)
    → procs ≡ names → turns < 2 ^ 64 → IsDefined setting takes n → phase_of (play setting takes n).live.pod.state turns n ≡ phase.Turn
    → Stepped names (play setting takes n) (play setting takes (n + 1)) live told out → Keeps setting names procs live told takes (n + 1) turns failed
keeps-call setting names procs takes n turns live told failed out named few made due step = record {
  named = named;
  few = few;
  made = made-call setting takes n turns made due;
  room = room-turn (play setting takes n).live.pod.state turns n due;
  now = λ _. step.now;
  last = λ _. step.last;
}

pub keeps-take : {B : Type 0} (setting : Setting B) (names procs : List (List ℕ)) (takes : List Took) (n turns : ℕ) (live : Live B)
    (told : List Effect) (failed : Bool) (out : List ℕ) (took : Took)
    → procs ≡ names → turns < 2 ^ 64 → IsDefined setting takes n → n ≤ turns → took.turn ≡ n → IsTrue (is_takeable (play setting takes n).live.pod took.event)
    → Stepped names (play setting takes n) (play setting (takes ++ took ∷ []) n) live told out
    → Keeps setting names procs live told (takes ++ took ∷ []) n turns failed
keeps-take setting names procs takes n turns live told failed out took named few made room h may step = record {
  named = named;
  few = few;
  made = IsDefined-take setting took takes n h made may;
  room = room;
  now = λ _. step.now;
  last = λ _. step.last;
}

-- ---- what is told

-- by what was written of the step's lines
pub tells-step : {B T : Type 0} (procs : List (List ℕ)) (a b : Session B) (live : Live B) (told : List Effect) (out : List ℕ) (s : Stream)
    (failed now : Bool) (r : Result T RunErr)
    → Stepped procs a b live told out → Told s out failed now r
    → Tells s (lines procs a.steps) (lines procs a.steps) (lines procs b.steps) r
tells-step procs a b live told out s failed now (Ok x) step h = (writes_on s.old s.new (lines procs a.steps) out (lines procs b.steps) step.lines h.0, h.1)
tells-step procs a b live told out s failed now (Err fails.NoMemory) step h = absurd h
tells-step procs a b live told out s failed now (Err fails.WriteFault) step h =
    (cut_on s.old s.new (lines procs a.steps) out (lines procs b.steps) step.lines h.0, h.1.0, h.1.1)

-- the run then is as it would come to, or has failed
pub told-after : {P T : Type 0} (s : Stream) (out : List ℕ) (old counted : Played P) (now : Bool) (r : Result T RunErr)
    → counted.failed ≡ false → Told s out true now r → record counted { failed = now } ≡ after_step old counted r
told-after s out old counted now (Ok x) sound h = λ t. record counted { failed = (h.2 ∙ sym sound) t }
told-after s out old counted now (Err fails.NoMemory) sound h = absurd h
told-after s out old counted now (Err fails.WriteFault) sound h = λ t. record counted { failed = h.2 t }
