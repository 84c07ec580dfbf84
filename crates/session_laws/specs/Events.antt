-- The pod's own events, over a whole session: deaths are reported, and traps are raised.
use Rattle.lwp_types.specs.State.{opening}
use Rattle.pod_events.specs.Events.{EventState, quiet_events}
use Rattle.pod_events.specs.Laws.{AlwaysHeard, CanMove, TrapsAreUnheard, is_raised, reports_due, pends, reports_of_moves, traps_in}
use Rattle.pod_events.specs.Moves.{EventMove, after_moves, effects_of}
use Rattle.pod_runner.specs.Due.{IsDefined}
use Rattle.pod_runner.specs.Play.{play}
use Rattle.pod_runner.specs.Session.{Made, Session, Setting}
use Rattle.pod_runner.specs.SessionMoves.{effects_in}
use Rattle.pod_runner.specs.declared.session.Took.{Took}
use Rattle.std.specs.List.{count_by}
use Rattle.std.specs.Prelude.{List, ℕ, ◌++◌, ◌+◌, ◌≡◌, ◌≤◌}

-- By these moves, calls and takes in order, a session has come from its start to here, with the effects of its steps.
pub record IsExact (start pod : EventState) (steps : List Made) : Type 0 where
  pub moves : List EventMove
  pub can : CanMove moves start
  pub pod_is : pod ≡ after_moves moves start
  pub effects_are : effects_in steps ≡ effects_of moves start
  -- As long as event 32 has an agent, each death of an unmarked thread is reported once, in the order of deaths, or
  -- waits: from any point on, what waited then and who died since are who was reported since, and what waits now.
  pub reports : (before later : List EventMove) → moves ≡ before ++ later → AlwaysHeard later (after_moves before start)
      → (after_moves before start).reports ++ reports_due later (after_moves before start)
      ≡ reports_of_moves later (after_moves before start) ++ pod.reports
  -- Of each event: each line of it that was taken as a trap was raised once, or is to be.
  pub traps : (e : ℕ) → count_by (is_raised e) (effects_in steps) + pends e pod ≡ traps_in e moves start

-- whatever bodies do, and whenever lines are taken
abbrev pub PodEventsAreExact : Type 0 → Type 0
PodEventsAreExact B = (setting : Setting B) → 1 ≤ setting.params.maxpri
    → setting.params.maxpri ≤ 255 → (takes : List Took) (n : ℕ) → IsDefined setting takes n
    → IsExact (quiet_events (opening setting.params)) (play setting takes n).live.pod (play setting takes n).steps

-- no event is both trapped and heard by an agent
abbrev pub TrapsHaveNoHearers : {B : Type 0} → Session B → Type 0
TrapsHaveNoHearers session = TrapsAreUnheard session.live.pod
