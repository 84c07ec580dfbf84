-- A fed run goes on, round after round.
use Rattle.event_gate.specs.Inlet.{AllTold, EachInlet, EventsRise, Intake, IsInletTold}
use Rattle.lwp_live.proofs.Answerings.{answering_answer, answering_same, answering_then}
use Rattle.lwp_live.specs.Telling.{Answering, AreNotesOf, IsStopOf, as_run, steps_of}
use Rattle.lwp_live.specs.declared.notes.Notes.{Notes}
use Rattle.lwp_live.specs.declared.stop.Stop.{Stop}
use Rattle.lwp_live.specs.declared.stop.Stop.TheVariants as stop
use Rattle.lwp_types.specs.Poll.{Next}
use Rattle.pod_runner.proofs.Lives.{Living, lives-err, living-of, living-same, living-then, rise-living}
use Rattle.pod_runner.proofs.Rounds.{stream}
use Rattle.pod_runner.specs.Live.{Answers, Draws, Gives, LivesOn}
use Rattle.pod_runner.specs.Run.{Played}
use Rattle.pod_runner.specs.declared.live.Live.{Live}
use Rattle.pod_runner.specs.declared.live.Live.TheVariants as live
use Rattle.pod_runner.specs.declared.phase.RunErr.{RunErr}
use Rattle.pod_runner.specs.declared.phase.RunErr.TheVariants as fails
use Rattle.streams.specs.Streams.{Stream}
use Rattle.std.proofs.Common.{List, false, length, refl, slice_index_or, subst, sym, ℕ, ◌<◌, ◌∙◌, ◌≡◌}
use Rattle.std.specs.Prelude.{Err, IsErrAnd, Ok, Option, Result}

-- inlets that only give lines know as much as before
pub told_kept : {B P : Type 0} (next : Next B) (bodies : P → List B) (old new : Played P) (before after : List Intake) (most : ℕ)
    → Draws next bodies old new before after most → AllTold before → AllTold after
told_kept next bodies old new before after most h told k d low =
    let under : k < length before = subst (λ n. k < n) h.given.0 low in
    subst (λ (t : Intake). IsInletTold t) (sym (h.given.1 k d under).after) (told k d under)

-- where all passes came back, a run isn't quiet
pub never_quiet : {B P : Type 0} (next : Next B) (bodies : P → List B) (run : Played P) (before after : List Intake) (answer : Live)
    → answer ≡ live.Quiet → Answers next bodies run before after answer → AllTold after → ⊥
never_quiet next bodies run before after answer is h told =
    let quiet = subst (λ (x : Live). Answers next bodies run before after x) is h in quiet.1 told

module _ {B P : Type 0} (next : Next B) (bodies : P → List B) (procs : P → List (List ℕ)) where
  -- ---- errors

  -- an error of the run itself, as a reason to stop
  pub lives_stop : (T U : Type 0) (s : Stream) (old new : Played P) (before after : List Intake) (r : Result U Stop) (e : RunErr)
      → IsErrAnd r (λ why. IsStopOf e why) → LivesOn {T = T} next bodies procs s old new before after (Err e)
      → LivesOn next bodies procs s old new before after (as_run r)
  lives_stop T U s old new before after (Ok x) e is h = absurd is
  lives_stop T U s old new before after (Err why) fails.NoMemory is h =
      subst (λ why. LivesOn next bodies procs s old new before after (as_run {T = U} (Err why))) (sym is)
      (lives-err next bodies procs T (Unit {0}) s old new before after (Err fails.NoMemory) fails.NoMemory refl h)
  lives_stop T U s old new before after (Err why) fails.WriteFault is h =
      subst (λ why. LivesOn next bodies procs s old new before after (as_run {T = U} (Err why))) (sym is)
      (lives-err next bodies procs T (Unit {0}) s old new before after (Err fails.WriteFault) fails.WriteFault refl h)

  lives_other : (T U : Type 0) (s : Stream) (old new : Played P) (before after : List Intake) (e : Stop)
      → LivesOn next bodies procs s old new before after (as_run {T = T} (Err e))
      → LivesOn next bodies procs s old new before after (as_run {T = U} (Err e))
  lives_other T U s old new before after stop.NoMemory h = h
  lives_other T U s old new before after stop.TraceFault h = h
  lives_other T U s old new before after stop.AnswerFault h = h
  lives_other T U s old new before after stop.RecordFault h = h

  -- where the last part stops, so does the whole
  pub lives_same_stop : (T U : Type 0) (s : Stream) (old new : Played P) (before after : List Intake) (r : Result U Stop) (e : Stop)
      → IsErrAnd r (λ given. given ≡ e) → LivesOn next bodies procs s old new before after (as_run {T = T} (Err e))
      → LivesOn next bodies procs s old new before after (as_run r)
  lives_same_stop T U s old new before after (Ok x) e is h = absurd is
  lives_same_stop T U s old new before after (Err given) e is h =
      subst (λ given. LivesOn next bodies procs s old new before after (as_run {T = U} (Err given))) (sym is)
      (lives_other T U s old new before after e h)

  -- ---- round after round

  -- so far, a fed run has gone on: it has told its steps and its answers, and its notes are of them
  pub record Going (s a : Stream) (old now : Played P) (before some : List Intake) (notes : Notes) : Type 0 where
    pub living : Living next bodies procs s old now before some
    pub told : Answering {T = Unit {0}} a (steps_of next bodies old) (steps_of next bodies now) (Ok tt)
    pub notes_are : AreNotesOf next bodies now notes

  pub going_same : (v w : Option (List ℕ)) (f g : ℕ) (run : Played P) (inlets : List Intake) (notes : Notes) → run.failed ≡ false
      → AreNotesOf next bodies run notes → Going (stream v v f f) (stream w w g g) run run inlets inlets notes
  going_same v w f g run inlets notes sound noted = record {
    living = living-same next bodies procs v f run inlets sound;
    told = answering_same w g (steps_of next bodies run) tt;
    notes_are = noted;
  }

  -- sinks that hand on what they have tell as much and fail as often
  pub going_handed : (a b c p q r : Option (List ℕ)) (i j k l m n : ℕ) (old now : Played P) (before some : List Intake) (notes : Notes)
      → c ≡ b → k ≡ j → r ≡ q → n ≡ m → Going (stream a b i j) (stream p q l m) old now before some notes
      → Going (stream a c i k) (stream p r l n) old now before some notes
  going_handed a b c p q r i j k l m n old now before some notes x y z u h = rw (x, y, z, u) h

  -- the inlets' events rise still
  pub going_rise : (s a : Stream) (old now : Played P) (before some : List Intake) (notes : Notes) → Going s a old now before some notes
      → EventsRise before → EventsRise some
  going_rise s a old now before some notes h rise = rise-living next bodies procs s old now before some h.living rise

  -- all passes came back still
  pub going_all : (s a : Stream) (old now : Played P) (before some : List Intake) (notes : Notes) → Going s a old now before some notes
      → AllTold before → AllTold some
  going_all s a old now before some notes h told = told_kept next bodies old now before some 0 h.living.draws told

  -- one round more
  pub going_lives : (T : Type 0) (s a : Stream) (c : Option (List ℕ)) (k : ℕ) (old mid new : Played P) (before some after : List Intake)
      (notes : Notes) (r : Result T Stop)
      → Going s a old mid before some notes → LivesOn next bodies procs (stream s.new c s.faults_new k) mid new some after (as_run r)
      → LivesOn next bodies procs (stream s.old c s.faults_old k) old new before after (as_run r)
  going_lives T s a c k old mid new before some after notes r p q =
      living-then next bodies procs s.old s.new c s.faults_old s.faults_new k old mid new before some after (as_run r) p.living q

  pub going_told : {T : Type 0} (s a : Stream) (c : Option (List ℕ)) (k : ℕ) (old mid new : Played P) (before some : List Intake)
      (notes : Notes) (r : Result T Stop)
      → Going s a old mid before some notes → Answering (stream a.new c a.faults_new k) (steps_of next bodies mid) (steps_of next bodies new) r
      → Answering (stream a.old c a.faults_old k) (steps_of next bodies old) (steps_of next bodies new) r
  going_told s a c k old mid new before some notes r p q =
      answering_then a.old a.new c a.faults_old a.faults_new k (steps_of next bodies old) (steps_of next bodies mid) (steps_of next bodies new) r
      p.told.whole p.told.cause q

  pub going_on : {T : Type 0} (s a : Stream) (c d : Option (List ℕ)) (k l : ℕ) (old mid new : Played P) (before some after : List Intake)
      (notes more : Notes) (x : T)
      → Going s a old mid before some notes
      → LivesOn next bodies procs (stream s.new c s.faults_new k) mid new some after (as_run {T = T} (Ok x))
      → Answering (stream a.new d a.faults_new l) (steps_of next bodies mid) (steps_of next bodies new) (Ok x)
      → AreNotesOf next bodies new more
      → Going (stream s.old c s.faults_old k) (stream a.old d a.faults_old l) old new before after more
  going_on {T} s a c d k l old mid new before some after notes more x p q told noted = record {
    living = living-of next bodies procs (stream s.old c s.faults_old k) old new before after tt
        (going_lives T s a c k old mid new before some after notes (Ok x) p q);
    told = answering_answer (stream a.old d a.faults_old l) (steps_of next bodies old) (steps_of next bodies new) x tt
        (going_told s a d l old mid new before some notes (Ok x) p told);
    notes_are = noted;
  }
