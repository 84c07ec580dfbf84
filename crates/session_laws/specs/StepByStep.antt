-- A session's own steps, one by one, as moves of its pod; and the pod's own events from any step on.
use Rattle.lwp_types.specs.State.{opening}
use Rattle.pod_events.specs.Events.{EventState, quiet_events}
use Rattle.pod_events.specs.Laws.{AlwaysHeard, can_move, is_raised, pends, reports_due, reports_of_moves, traps_in}
use Rattle.pod_events.specs.Moves.{EventMove, ToCall, ToTake, after_moves, event_move}
use Rattle.pod_runner.specs.Due.{IsDefined}
use Rattle.pod_runner.specs.Play.{play}
use Rattle.pod_runner.specs.Session.{Made, Setting}
use Rattle.pod_runner.specs.SessionMoves.{effects_in}
use Rattle.pod_runner.specs.declared.session.Took.{Took}
use Rattle.std.specs.List.{count_by, filter_map}
use Rattle.std.specs.Prelude.{List, None, Option, Some, [], true, ℕ, ◌++◌, ◌+◌, ◌∷◌, ◌≡◌}

-- a take moves by its line, and any other step by a call
abbrev pub IsMoveOf : Option Took → EventMove → Type 0
IsMoveOf None (ToCall c) = Unit {0}
IsMoveOf None (ToTake e text) = ⊥
IsMoveOf (Some took) (ToCall c) = ⊥
IsMoveOf (Some took) (ToTake e text) = (e ≡ took.event) × (text ≡ took.line.text)

-- From one state of the pod to another by just these steps, each of which is one move that could be made there, with the
-- move's effects. A step may be none: then it is no take and has no effect.
abbrev pub GoesBy : EventState → List Made → List (Option EventMove) → EventState → Type 0
GoesBy start [] [] end = start ≡ end
GoesBy start [] (m ∷ moves) end = ⊥
GoesBy start (made ∷ steps) [] end = ⊥
GoesBy start (made ∷ steps) (None ∷ moves) end = (made.take ≡ None) × (made.effects ≡ []) × GoesBy start steps moves end
GoesBy start (made ∷ steps) (Some m ∷ moves) end = IsMoveOf made.take m × (can_move start m ≡ true)
    × (made.effects ≡ (event_move start m).effects) × GoesBy (event_move start m).after steps moves end

-- the moves among these
abbrev pub made_moves : List (Option EventMove) → List EventMove
made_moves moves = filter_map (λ m. m) moves

-- The steps are moves, one by one. From any of them on, as long as event 32 has an agent: what waited there to be reported
-- and who died since, are who was reported since, in order, and what waits in the end. Of each event, each line that was
-- taken as a trap was raised once, or is to be.
pub record IsStepwise (start pod : EventState) (steps : List Made) : Type 0 where
  pub moves : List (Option EventMove)
  pub goes : GoesBy start steps moves pod
  pub reports : (before later : List (Option EventMove)) → moves ≡ before ++ later
      → AlwaysHeard (made_moves later) (after_moves (made_moves before) start)
      → (after_moves (made_moves before) start).reports ++ reports_due (made_moves later) (after_moves (made_moves before) start)
      ≡ reports_of_moves (made_moves later) (after_moves (made_moves before) start) ++ pod.reports
  pub traps : (e : ℕ) → count_by (is_raised e) (effects_in steps) + pends e pod ≡ traps_in e (made_moves moves) start

-- whatever bodies do, and whenever lines are taken
abbrev pub SessionsAreStepwise : Type 0 → Type 0
SessionsAreStepwise B = (setting : Setting B) (takes : List Took) (n : ℕ) → IsDefined setting takes n
    → IsStepwise (quiet_events (opening setting.params)) (play setting takes n).live.pod (play setting takes n).steps
