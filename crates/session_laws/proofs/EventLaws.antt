-- The pod's own events, over a whole session.
use Rattle.lwp_types.specs.State.{opening}
use Rattle.pod_events.proofs.ReportLaws.{every_death_is_reported}
use Rattle.pod_events.proofs.TrapAgents.{traps_have_no_agents}
use Rattle.pod_events.proofs.TrapLaws.{traps_are_raised_once}
use Rattle.pod_events.specs.Events.{EventState, quiet_events}
use Rattle.pod_events.specs.Laws.{is_raised, pends, reports_of_moves}
use Rattle.pod_events.specs.Moves.{EventMove, after_moves, event_move}
use Rattle.pod_runner.proofs.Moving.{sessions_are_moves}
use Rattle.session_laws.specs.Events.{PodEventsAreExact, TrapsHaveNoHearers}
use Rattle.session_laws.specs.Sessions.{InEverySession}
use Rattle.std.proofs.Common.{List, [], ap, arith, count_by, refl, sym, ◌++◌, ◌∙◌, ◌∷◌, ◌≡◌}

moved-append : (before later : List EventMove) (es : EventState) → after_moves (before ++ later) es ≡ after_moves later (after_moves before es)
moved-append [] later es = refl
moved-append (move ∷ before) later es = moved-append before later (event_move es move).after

pub pod_events_are_exact : (B : Type 0) → PodEventsAreExact B
pod_events_are_exact B setting low high takes n h =
    let start : EventState = quiet_events (opening setting.params) in
    let moved = sessions_are_moves B setting takes n h in
    record {
      moves = moved.moves;
      can = moved.can;
      pod_is = moved.pod_is;
      effects_are = moved.effects_are;
      reports = λ before later is heard.
          every_death_is_reported later (after_moves before start) heard
          ∙ ap (λ (es : EventState). reports_of_moves later (after_moves before start) ++ es.reports)
          (sym (moved.pod_is ∙ ap (λ moves. after_moves moves start) is ∙ moved-append before later start));
      traps = λ e.
          let none : pends e start ≡ 0 = refl in
          omega (arith, traps_are_raised_once e moved.moves start moved.can, ap (count_by (is_raised e)) moved.effects_are, ap (pends e) moved.pod_is, none);
    }

pub traps_have_no_hearers : (B : Type 0) → InEverySession B TrapsHaveNoHearers
traps_have_no_hearers B setting low high takes n h =
    let moved = sessions_are_moves B setting takes n h in
    rw (moved.pod_is) (traps_have_no_agents.1 moved.moves (quiet_events (opening setting.params)) (traps_have_no_agents.0 (opening setting.params)))
