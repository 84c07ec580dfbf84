-- What holds of each step of a session, from where the pod stands before it and with all that comes after it.
use Rattle.lwp_types.specs.State.{opening}
use Rattle.pod_events.specs.Events.{EventState, quiet_events}
use Rattle.pod_events.specs.Moves.{EventMove, event_move}
use Rattle.pod_runner.specs.Due.{IsDefined}
use Rattle.pod_runner.specs.Play.{play}
use Rattle.pod_runner.specs.Session.{Made, Setting}
use Rattle.pod_runner.specs.declared.session.Took.{Took}
use Rattle.session_laws.specs.StepByStep.{GoesBy}
use Rattle.std.specs.Prelude.{List, None, Option, Some, [], ℕ, ◌∷◌, ◌≤◌}

-- a sentence about a step: about how the pod stands before it, its move, and the moves of the steps after it
abbrev pub Sentence : Type 1
Sentence = EventState → EventMove → List (Option EventMove) → Type 0

-- it holds of each of these moves, the first of which is made where the pod stands so
abbrev pub AtEachMove : Sentence → EventState → List (Option EventMove) → Type 0
AtEachMove Holds pod [] = Unit {0}
AtEachMove Holds pod (None ∷ later) = AtEachMove Holds pod later
AtEachMove Holds pod (Some move ∷ later) = Holds pod move later × AtEachMove Holds (event_move pod move).after later

-- By just these moves the steps go from one state of the pod to another, one by one, and it holds of each of them.
pub record HoldsInSteps (Holds : Sentence) (start pod : EventState) (steps : List Made) : Type 0 where
  pub moves : List (Option EventMove)
  pub goes : GoesBy start steps moves pod
  pub holds : AtEachMove Holds start moves

-- in every session of these bodies, whenever lines are taken
abbrev pub HoldsInSessions : {B : Type 0} → Setting B → Sentence → Type 0
HoldsInSessions setting Holds = (takes : List Took) (n : ℕ) → IsDefined setting takes n
    → HoldsInSteps Holds (quiet_events (opening setting.params)) (play setting takes n).live.pod (play setting takes n).steps

-- whatever bodies do
abbrev pub InEachStep : Type 0 → Sentence → Type 0
InEachStep B Holds = (setting : Setting B) → HoldsInSessions setting Holds

-- the same, where the greatest priority is from 1 to 255, as a run demands
abbrev pub InEachLawfulStep : Type 0 → Sentence → Type 0
InEachLawfulStep B Holds = (setting : Setting B) → 1 ≤ setting.params.maxpri → setting.params.maxpri ≤ 255
    → HoldsInSessions setting Holds
