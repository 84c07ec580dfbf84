-- A live run goes on, round after round.
use Rattle.std.proofs.Common.{◌≡◌, ℕ, List, false}
use Rattle.std.specs.Prelude.{Option, Result, Ok, Err, IsErrAnd}
use Rattle.event_gate.specs.Inlet.{EventsRise, Intake}
use Rattle.lwp_types.specs.Poll.{Next}
use Rattle.pod_runner.specs.Inlets.{RoundsOn, Takes}
use Rattle.pod_runner.specs.Live.{LivesOn, LooksAtAll}
use Rattle.pod_runner.specs.Ready.{IsReady}
use Rattle.pod_runner.specs.Run.{Played}
use Rattle.pod_runner.specs.declared.phase.RunErr.{RunErr}
use Rattle.streams.specs.Streams.{Stream}
use Rattle.pod_runner.proofs.Lives.{Living, lives-answer, lives-err, lives-same, living-of, living-same, living-then, rise-living}
use Rattle.pod_runner.proofs.Looks.{looks-same, looks-still, looks-then}
use Rattle.pod_runner.proofs.Rounds.{stream}

module _ {B P : Type 0} (next : Next B) (bodies : P → List B) (procs : P → List (List ℕ)) where
  abbrev Went : {T : Type 0} → Stream → Played P → Played P → List Intake → List Intake → Result T RunErr → Type 0
  Went s old new before after r = RoundsOn next bodies procs s old new before after r

  -- nothing is done
  pub rounds-same : {T : Type 0} (w : Option (List ℕ)) (f : ℕ) (run : Played P) (inlets : List Intake) (x : T) → IsReady next bodies run
      → Went (stream w w f f) run run inlets inlets (Ok x)
  rounds-same w f run inlets x ready = record {
    lives = lives-same next bodies procs w f run inlets x ready.sound ready.made ready.room;
    looked = looks-same next bodies procs run inlets;
  }

  -- lines are taken, and no call is made
  pub rounds-still : {T U : Type 0} (s : Stream) (old new : Played P) (before after : List Intake) (x : T) (y : U)
      → LivesOn next bodies procs s old new before after (Ok x) → Takes next bodies old new → Went s old new before after (Ok y)
  rounds-still s old new before after x y h takes = record {
    lives = lives-answer next bodies procs s old new before after x y h;
    looked = looks-still next bodies procs s old new before after (Ok x) h takes;
  }

  -- an answer, or an error, may be of another type
  pub rounds-answer : {T U : Type 0} (s : Stream) (old new : Played P) (before after : List Intake) (x : T) (y : U)
      → Went s old new before after (Ok x) → Went s old new before after (Ok y)
  rounds-answer s old new before after x y h = record { lives = lives-answer next bodies procs s old new before after x y h.lives; looked = h.looked }

  -- where the last part fails, so does the whole
  pub rounds-err : (T U : Type 0) (s : Stream) (old new : Played P) (before after : List Intake) (r : Result U RunErr) (e : RunErr)
      → IsErrAnd r (λ given. given ≡ e) → LivesOn {T = T} next bodies procs s old new before after (Err e) → Went s old new before after r
  rounds-err T U s old new before after (Ok x) e is h = absurd is
  rounds-err T U s old new before after (Err given) e is h = record {
    lives = lives-err next bodies procs T U s old new before after (Err given) e is h;
    looked = tt;
  }

  -- so far, a run has lived on, and looked at its inlets as often as it has to
  pub record Rounding (s : Stream) (old now : Played P) (before some : List Intake) : Type 0 where
    pub living : Living next bodies procs s old now before some
    pub looked : LooksAtAll next bodies old now before some

  pub rounding-same : (w : Option (List ℕ)) (f : ℕ) (run : Played P) (inlets : List Intake) → run.failed ≡ false
      → Rounding (stream w w f f) run run inlets inlets
  rounding-same w f run inlets sound = record { living = living-same next bodies procs w f run inlets sound; looked = looks-same next bodies procs run inlets }

  -- one round more
  pub rounding-then : {U : Type 0} (a b c : Option (List ℕ)) (i j k : ℕ) (old mid new : Played P) (before some after : List Intake) (r : Result U RunErr)
      → Rounding (stream a b i j) old mid before some → Went (stream b c j k) mid new some after r → Went (stream a c i k) old new before after r
  rounding-then a b c i j k old mid new before some after (Ok x) p q = record {
    lives = living-then next bodies procs a b c i j k old mid new before some after (Ok x) p.living q.lives;
    looked = looks-then next bodies procs old mid new before some after 0 p.living.draws p.looked q.looked;
  }
  rounding-then a b c i j k old mid new before some after (Err e) p q = record {
    lives = living-then next bodies procs a b c i j k old mid new before some after (Err e) p.living q.lives;
    looked = tt;
  }

  pub rounding-on : {T : Type 0} (a b c : Option (List ℕ)) (i j k : ℕ) (old mid new : Played P) (before some after : List Intake) (x : T)
      → Rounding (stream a b i j) old mid before some → Went (stream b c j k) mid new some after (Ok x) → Rounding (stream a c i k) old new before after
  rounding-on a b c i j k old mid new before some after x p q =
      let whole = rounding-then a b c i j k old mid new before some after (Ok x) p q in
      record { living = living-of next bodies procs (stream a c i k) old new before after x whole.lives; looked = whole.looked }

  -- the inlets' events rise still
  pub rounding-rise : (s : Stream) (old now : Played P) (before some : List Intake) → Rounding s old now before some → EventsRise before → EventsRise some
  rounding-rise s old now before some h rise = rise-living next bodies procs s old now before some h.living rise
