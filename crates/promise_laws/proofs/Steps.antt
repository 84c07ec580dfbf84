-- What holds of each move that can be made where the pod stands as it should, holds of each step of a session.
use Rattle.lwp_types.specs.Lawful.{Lawful}
use Rattle.lwp_types.specs.State.{opening}
use Rattle.pod_events.specs.Events.{EventState, quiet_events}
use Rattle.pod_events.specs.Laws.{can_move}
use Rattle.pod_events.specs.Moves.{EventMove, ToCall, ToTake, event_move}
use Rattle.pod_laws.proofs.Opening.{Lawful-opening}
use Rattle.pod_runner.specs.Play.{play}
use Rattle.pod_runner.specs.Session.{Made, Setting}
use Rattle.promise_laws.proofs.PodWaiters.{pods_answer_waiters}
use Rattle.promise_laws.specs.EachStep.{AtEachMove, HoldsInSessions, InEachLawfulStep, Sentence}
use Rattle.promise_laws.specs.Waiters.{AnswersWaiters}
use Rattle.session_laws.proofs.Pods.{call_moved, take_moved}
use Rattle.session_laws.specs.StepByStep.{GoesBy, SessionsAreStepwise}
use Rattle.std.proofs.Common.{List, None, Option, Some, [], true, ◌∷◌, ◌≡◌}

-- each of these moves could be made when it came
abbrev pub CanGo : EventState → List (Option EventMove) → Type 0
CanGo pod [] = Unit {0}
CanGo pod (None ∷ later) = CanGo pod later
CanGo pod (Some move ∷ later) = (can_move pod move ≡ true) × CanGo (event_move pod move).after later

can_go : (start end : EventState) (steps : List Made) (moves : List (Option EventMove)) → GoesBy start steps moves end → CanGo start moves
can_go start end [] [] goes = tt
can_go start end [] (x ∷ moves) goes = absurd goes
can_go start end (s ∷ steps) [] goes = absurd goes
can_go start end (s ∷ steps) (None ∷ moves) goes = can_go start end steps moves goes.2
can_go start end (s ∷ steps) (Some x ∷ moves) goes = (goes.1, can_go (event_move start x).after end steps moves goes.3)

-- the pod stands so, and each move keeps that
pub record Kept (Stands : EventState → Type 0) : Type 0 where
  pub keeps : (pod : EventState) → Stands pod → (move : EventMove) → can_move pod move ≡ true → Stands (event_move pod move).after

module _ (Holds : Sentence) (Stands : EventState → Type 0) (kept : Kept Stands)
    (holds : (pod : EventState) → Stands pod → (move : EventMove) → can_move pod move ≡ true → (later : List (Option EventMove))
    → CanGo (event_move pod move).after later → Holds pod move later) where
  at_each : (moves : List (Option EventMove)) (pod : EventState) → Stands pod → CanGo pod moves → AtEachMove Holds pod moves
  at_each [] pod stands can = tt
  at_each (None ∷ later) pod stands can = at_each later pod stands can
  at_each (Some move ∷ later) pod stands can =
      (holds pod stands move can.0 later can.1, at_each later (event_move pod move).after (kept.keeps pod stands move can.0) can.1)

  pub in_sessions : {B : Type 0} → SessionsAreStepwise B → (setting : Setting B) → Stands (quiet_events (opening setting.params))
      → HoldsInSessions setting Holds
  in_sessions stepwise setting stands takes n h =
      let went = stepwise setting takes n h in
      record {
        moves = went.moves;
        goes = went.goes;
        holds = at_each went.moves (quiet_events (opening setting.params)) stands
            (can_go (quiet_events (opening setting.params)) (play setting takes n).live.pod (play setting takes n).steps went.moves went.goes);
      }

-- ---- lawful states

kept_lawful : Kept (λ pod. Lawful pod.state None)
kept_lawful = record { keeps = keeps }
  where
    keeps : (pod : EventState) → Lawful pod.state None → (move : EventMove) → can_move pod move ≡ true → Lawful (event_move pod move).after.state None
    keeps pod was (ToCall c) may = (call_moved pod was c).lawful
    keeps pod was (ToTake e text) may = (take_moved pod was e text may).lawful

pub sessions_answer_waiters : (B : Type 0) → SessionsAreStepwise B → InEachLawfulStep B AnswersWaiters
sessions_answer_waiters B stepwise setting low high = in_sessions AnswersWaiters (λ pod. Lawful pod.state None) kept_lawful
    (λ pod was move may later can. pods_answer_waiters pod was move) stepwise setting (Lawful-opening setting.params low high)
