-- A call is made, and what it tells is written.
use Rattle.event_gate.specs.Inlet.{Intake}
use Rattle.lwp_live.proofs.Answerings.{untold_err}
use Rattle.lwp_live.proofs.Told.{answers_step, told_step}
use Rattle.lwp_live.specs.Answers.{Known, Telling, answers_in, known_after_call, reply_in, reply_lines, told_in}
use Rattle.lwp_live.specs.Telling.{Answering, AreNotes, CanNote, IsStopOf, Untold, steps_of}
use Rattle.lwp_live.specs.declared.notes.Notes.{Notes}
use Rattle.lwp_live.specs.declared.stop.Stop.{Stop}
use Rattle.lwp_live.specs.declared.stop.Stop.TheVariants as stop
use Rattle.lwp_serve.specs.Answers.Replies.{call_in}
use Rattle.lwp_types.specs.Poll.{Next}
use Rattle.lwp_types.specs.Streams.{after_append}
use Rattle.lwp_types.specs.declared.call.Effect.{Effect}
use Rattle.pod_runner.proofs.Lives.{lives-err}
use Rattle.pod_runner.proofs.Plays.{LastBy-of, play-call}
use Rattle.pod_runner.proofs.Rounds.{stream}
use Rattle.pod_runner.proofs.Turns.{last_effects-step}
use Rattle.pod_runner.specs.Calls.{call_of_effects, last_call, last_effects}
use Rattle.pod_runner.specs.Due.{IsDefined}
use Rattle.pod_runner.specs.Live.{LivesOn}
use Rattle.pod_runner.specs.Run.{Played, session_of, setting_of, with_call}
use Rattle.pod_runner.specs.Session.{Session, move}
use Rattle.pod_runner.specs.Session as Sessions
use Rattle.pod_runner.specs.declared.phase.RunErr.{RunErr}
use Rattle.pod_runner.specs.declared.phase.RunErr.TheVariants as fails
use Rattle.pod_runner.specs.declared.session.Made.{Made}
use Rattle.streams.specs.Streams.{IsFaultless, IsFaulty, Stream}
use Rattle.streams.specs.Writing.{AppendsPart}
use Rattle.std.proofs.Common.{List, [], ap, arith, length, refl, subst, sym, take, None, ℕ, ◌+◌, ◌++◌, ◌∙◌, ◌∷◌, ◌≡◌, ◌≤◌}
use Rattle.std.specs.Prelude.{Err, IsErrAnd, Ok, Option, Result}

-- notes that are of something have room
pub can_note : (notes : Notes) (known : Known) → AreNotes notes known → CanNote notes
can_note notes known h = record { some = h.width; size = h.size }

module _ {B P : Type 0} (next : Next B) (bodies : P → List B) (procs : P → List (List ℕ)) where
  -- one run is another after one call more
  pub record Called (old new : Played P) : Type 0 where
    pub effects : List Effect
    pub steps : steps_of next bodies new ≡ steps_of next bodies old ++ record { take = None; effects = effects } ∷ []

  pub called_of : (old new : Played P) → IsDefined (setting_of next bodies old) old.takes old.calls → new ≡ with_call old → Called old new
  called_of old new made is = record {
    effects = (move (setting_of next bodies old).next (setting_of next bodies old).bodies (session_of next bodies old).live).effects;
    steps = ap (λ (r : Played P). steps_of next bodies r) is
        ∙ ap (λ (s : Session B). s.steps)
        (play-call (setting_of next bodies old) old.takes old.calls (LastBy-of (setting_of next bodies old) old.takes old.calls made));
  }

  -- the call of its last step
  pub call_is : (old new : Played P) (made : Option Made) (h : Called old new) → made ≡ last_call (steps_of next bodies new)
      → made ≡ call_of_effects h.effects
  call_is old new made h is = is ∙ ap last_call h.steps
      ∙ ap call_of_effects (last_effects-step (steps_of next bodies old) None h.effects)

  pub call_tells : (old new : Played P) (made : Option Made) → Called old new → made ≡ last_call (steps_of next bodies new)
      → answers_in (steps_of next bodies new)
      ≡ answers_in (steps_of next bodies old) ++ reply_lines (reply_in (told_in (steps_of next bodies old)).known made)
  call_tells old new made h is =
      ap answers_in h.steps ∙ answers_step (steps_of next bodies old) (record { take = None; effects = h.effects })
      ∙ ap (λ m. answers_in (steps_of next bodies old) ++ reply_lines (reply_in (told_in (steps_of next bodies old)).known m)) (sym (call_is old new made h is))

  pub call_knows : (old new : Played P) (made : Option Made) → Called old new → made ≡ last_call (steps_of next bodies new)
      → (told_in (steps_of next bodies new)).known ≡ known_after_call (told_in (steps_of next bodies old)).known made
  call_knows old new made h is =
      ap (λ steps. (told_in steps).known) h.steps
      ∙ ap (λ (t : Telling). t.known) (told_step (steps_of next bodies old) (record { take = None; effects = h.effects }))
      ∙ ap (λ m. known_after_call (told_in (steps_of next bodies old)).known m) (sym (call_is old new made h is))

  -- what it tells was written
  pub call_whole : (s : Stream) (old new : Played P) (made : Option Made) (line : List ℕ) (x : Unit {0}) → Called old new
      → made ≡ last_call (steps_of next bodies new) → line ≡ reply_lines (reply_in (told_in (steps_of next bodies old)).known made)
      → s.new ≡ after_append s.old line → IsFaultless s → Answering s (steps_of next bodies old) (steps_of next bodies new) (Ok x)
  call_whole s old new made line x h is tells written cause = record {
    whole = record {
      added = line;
      longer = call_tells old new made h is ∙ ap (λ l. answers_in (steps_of next bodies old) ++ l) (sym tells);
      told = written;
    };
    part = tt;
    cause = cause;
  }

  -- a first part of it was
  pub call_cut : (s : Stream) (old new : Played P) (made : Option Made) (line : List ℕ) → Called old new
      → made ≡ last_call (steps_of next bodies new) → line ≡ reply_lines (reply_in (told_in (steps_of next bodies old)).known made)
      → AppendsPart s.old s.new line → IsFaulty s
      → Answering {T = Unit {0}} s (steps_of next bodies old) (steps_of next bodies new) (Err stop.AnswerFault)
  call_cut s old new made line h is tells part cause = record {
    whole = tt;
    part = record {
      added = line;
      longer = call_tells old new made h is ∙ ap (λ l. answers_in (steps_of next bodies old) ++ l) (sym tells);
      first = (part.kept, part.told);
    };
    cause = cause;
  }

  -- memory ran out after a step: what was done until then stands
  pub lives_refused : (T : Type 0) (s : Stream) (old new : Played P) (before after : List Intake) (x : T)
      → LivesOn next bodies procs s old new before after (Ok x)
      → LivesOn {T = Unit {0}} next bodies procs s old new before after (Err fails.NoMemory)
  lives_refused T s old new before after x h = record {
    ran = record { same = h.ran.same; made = h.ran.made; room = h.ran.room; told = h.ran.told; sound = tt };
    draws = record {
      later = h.draws.later;
      lost = h.draws.lost;
      extends = h.draws.extends;
      few = let few = h.draws.few in omega (arith, few);
      given = h.draws.given;
      known = h.draws.known;
    };
  }

  -- a call that failed tells nothing
  pub turn_untold : {U : Type 0} (T : Type 0) (s : Stream) (old new : Played P) (r : Result U Stop) (e : RunErr) → IsErrAnd r (λ why. IsStopOf e why)
      → LivesOn {T = T} next bodies procs s old new [] [] (Err e) → Untold (steps_of next bodies old) (steps_of next bodies new) r
  turn_untold T s old new r e is h =
      untold_err (steps_of next bodies old) (steps_of next bodies new) h.draws.extends.rest r e is h.draws.extends.steps

  -- memory ran out before what a call tells was written
  pub call_untold : {T : Type 0} (old new : Played P) (r : Result T Stop) → Called old new → IsErrAnd r (λ why. why ≡ stop.NoMemory)
      → Untold (steps_of next bodies old) (steps_of next bodies new) r
  call_untold old new r h is =
      untold_err (steps_of next bodies old) (steps_of next bodies new) (record { take = None; effects = h.effects } ∷ []) r fails.NoMemory is h.steps
