-- A session moves its pod step by step.
use Rattle.lwp_types.specs.Choice.{choice}
use Rattle.lwp_types.specs.Names.{names_for_poll}
use Rattle.lwp_types.specs.Poll.{Polled}
use Rattle.lwp_types.specs.State.{opening}
use Rattle.pod_events.proofs.ReportLaws.{every_death_is_reported}
use Rattle.pod_events.proofs.TrapLaws.{traps_are_raised_once}
use Rattle.pod_events.specs.Events.{EventState, quiet_events}
use Rattle.pod_events.specs.Laws.{CanMove, can_move, is_raised, pends, reports_of_moves}
use Rattle.pod_events.specs.Moves.{EventMove, ToCall, ToTake, after_moves, effects_of, event_move}
use Rattle.pod_runner.specs.Due.{AllDue, IsDefined, TakeDue, is_call_due, is_take_due}
use Rattle.pod_runner.specs.Play.{play, session_of_calls, session_of_takes, with_take}
use Rattle.pod_runner.specs.Session.{Live, Made, Session, Setting, call_move, call_step, move, move_by, move_row, row_of, take_move, take_step, with_move}
use Rattle.pod_runner.specs.SessionMoves.{effects_in}
use Rattle.pod_runner.specs.declared.session.Row.{Row}
use Rattle.pod_runner.specs.declared.session.Took.{Took}
use Rattle.session_laws.specs.StepByStep.{GoesBy, IsMoveOf, SessionsAreStepwise, made_moves}
use Rattle.std.proofs.Common.{Bool, List, None, Option, Some, [], ap, arith, count_by, false, refl, subst, suc, sym, true, zero, ℕ, ◌++◌, ◌∙◌, ◌∷◌, ◌≡◌}
use Rattle.std.specs.Prelude.{IsTrue, MatchBool, if◌then◌else◌, reverse, ◌==◌}

-- one step more
goes_push : (start mid end : EventState) (steps : List Made) (moves : List (Option EventMove)) (made : Made) (m : EventMove) → GoesBy start steps moves mid
    → IsMoveOf made.take m → can_move mid m ≡ true → made.effects ≡ (event_move mid m).effects → (event_move mid m).after ≡ end
    → GoesBy start (steps ++ made ∷ []) (moves ++ Some m ∷ []) end
goes_push start mid end [] [] made m goes is may told ends =
    subst (λ (s : EventState). GoesBy s (made ∷ []) (Some m ∷ []) end) (sym goes) (is, may, told, ends)
goes_push start mid end [] (x ∷ moves) made m goes is may told ends = absurd goes
goes_push start mid end (s ∷ steps) [] made m goes is may told ends = absurd goes
goes_push start mid end (s ∷ steps) (None ∷ moves) made m goes is may told ends =
    (goes.0, goes.1, goes_push start mid end steps moves made m goes.2 is may told ends)
goes_push start mid end (s ∷ steps) (Some x ∷ moves) made m goes is may told ends =
    (goes.0, goes.1, goes.2, goes_push (event_move start x).after mid end steps moves made m goes.3 is may told ends)

-- one that is none
goes_idle : (start end : EventState) (steps : List Made) (moves : List (Option EventMove)) (made : Made) → GoesBy start steps moves end
    → made.take ≡ None → made.effects ≡ [] → GoesBy start (steps ++ made ∷ []) (moves ++ None ∷ []) end
goes_idle start end [] [] made goes none told = (none, told, goes)
goes_idle start end [] (x ∷ moves) made goes none told = absurd goes
goes_idle start end (s ∷ steps) [] made goes none told = absurd goes
goes_idle start end (s ∷ steps) (None ∷ moves) made goes none told = (goes.0, goes.1, goes_idle start end steps moves made goes.2 none told)
goes_idle start end (s ∷ steps) (Some x ∷ moves) made goes none told =
    (goes.0, goes.1, goes.2, goes_idle (event_move start x).after end steps moves made goes.3 none told)

-- the moves alone
goes_can : (start end : EventState) (steps : List Made) (moves : List (Option EventMove)) → GoesBy start steps moves end → CanMove (made_moves moves) start
goes_can start end [] [] goes = tt
goes_can start end [] (x ∷ moves) goes = absurd goes
goes_can start end (s ∷ steps) [] goes = absurd goes
goes_can start end (s ∷ steps) (None ∷ moves) goes = goes_can start end steps moves goes.2
goes_can start end (s ∷ steps) (Some x ∷ moves) goes = (goes.1, goes_can (event_move start x).after end steps moves goes.3)

goes_after : (start end : EventState) (steps : List Made) (moves : List (Option EventMove)) → GoesBy start steps moves end
    → after_moves (made_moves moves) start ≡ end
goes_after start end [] [] goes = goes
goes_after start end [] (x ∷ moves) goes = absurd goes
goes_after start end (s ∷ steps) [] goes = absurd goes
goes_after start end (s ∷ steps) (None ∷ moves) goes = goes_after start end steps moves goes.2
goes_after start end (s ∷ steps) (Some x ∷ moves) goes = goes_after (event_move start x).after end steps moves goes.3

goes_told : (start end : EventState) (steps : List Made) (moves : List (Option EventMove)) → GoesBy start steps moves end
    → effects_in steps ≡ effects_of (made_moves moves) start
goes_told start end [] [] goes = refl
goes_told start end [] (x ∷ moves) goes = absurd goes
goes_told start end (s ∷ steps) [] goes = absurd goes
goes_told start end (s ∷ steps) (None ∷ moves) goes = ap (λ es. es ++ effects_in steps) goes.1 ∙ goes_told start end steps moves goes.2
goes_told start end (s ∷ steps) (Some x ∷ moves) goes = ap (λ es. es ++ effects_in steps) goes.2
    ∙ ap (λ es. (event_move start x).effects ++ es) (goes_told (event_move start x).after end steps moves goes.3)

made_append : (before later : List (Option EventMove)) → made_moves (before ++ later) ≡ made_moves before ++ made_moves later
made_append [] later = refl
made_append (None ∷ before) later = made_append before later
made_append (Some x ∷ before) later = ap (λ ms. x ∷ ms) (made_append before later)

moved_append : (before later : List EventMove) (es : EventState) → after_moves (before ++ later) es ≡ after_moves later (after_moves before es)
moved_append [] later es = refl
moved_append (move ∷ before) later es = moved_append before later (event_move es move).after

-- ---- sessions

module _ (start : EventState) {B : Type 0} (setting : Setting B) where
  abbrev InIt : Session B → Type 0
  InIt session = (moves : List (Option EventMove)) × GoesBy start session.steps moves session.live.pod

  idle : (live : Live B) (steps : List Made) (moves : List (Option EventMove)) → GoesBy start steps moves live.pod
      → (moves : List (Option EventMove)) × GoesBy start (steps ++ record { take = None; effects = [] } ∷ []) moves live.pod
  idle live steps moves goes = (moves ++ None ∷ [], goes_idle start live.pod steps moves (record { take = None; effects = [] }) goes refl refl)

  called : (live : Live B) (steps : List Made) (t : ℕ) (reply : Polled B) (moves : List (Option EventMove))
      → GoesBy start steps moves live.pod → InIt (with_move (record { live = live; steps = steps }) None (call_move setting.bodies live t reply))
  unfolding call_move
  called live steps t reply moves goes = (moves ++ Some (ToCall reply.0) ∷ [], goes_push start live.pod _ steps moves _ (ToCall reply.0) goes tt refl refl refl)

  row_called : (live : Live B) (steps : List Made) (t : ℕ) (o : Option (Row B)) (moves : List (Option EventMove)) → GoesBy start steps moves live.pod
      → InIt (with_move (record { live = live; steps = steps }) None (move_row setting.next setting.bodies live t o))
  row_called live steps t None moves goes = idle live steps moves goes
  row_called live steps t (Some row) moves goes = called live steps t (setting.next row.body (names_for_poll t live.names) row.answer) moves goes

  by_called : (live : Live B) (steps : List Made) (o : Option ℕ) (moves : List (Option EventMove)) → GoesBy start steps moves live.pod
      → InIt (with_move (record { live = live; steps = steps }) None (move_by setting.next setting.bodies live o))
  by_called live steps None moves goes = idle live steps moves goes
  by_called live steps (Some t) moves goes = row_called live steps t (row_of t live.rows) moves goes

  call_goes : (s : Session B) → InIt s → InIt (call_step setting s)
  unfolding move
  call_goes s was = by_called s.live s.steps (choice s.live.pod.state) was.0 was.1

  take_goes : (took : Took) (s : Session B) → IsTrue (is_take_due took s) → InIt s → InIt (take_step setting took s)
  unfolding take_move
  take_goes took s may was = (
    was.0 ++ Some (ToTake took.event took.line.text) ∷ [],
    goes_push start s.live.pod _ s.steps was.0 _ (ToTake took.event took.line.text) was.1 (refl, refl) may refl refl,
  )

  module _ (opens : InIt (session_of_calls setting 0)) where
    calls_go : (n : ℕ) → InIt (session_of_calls setting n)
    calls_go zero = opens
    calls_go (suc n) = call_goes (session_of_calls setting n) (calls_go n)

    with_goes : (took : Took) (before : ℕ → Session B) (Before : ℕ → Type 0) → ((n : ℕ) → Before n → InIt (before n)) → (n : ℕ)
        → TakeDue setting took before Before n → InIt (with_take setting took before n)
    with_goes took before Before was zero h = take_goes took (before 0) h.2 (was 0 h.1)
    with_goes took before Before was (suc n) h = by_turn (took.turn == suc n) (λ d. with_goes took before Before was n d) h
      where
        by_turn : (b : Bool) → (TakeDue setting took before Before n → InIt (with_take setting took before n))
            → MatchBool b (Before (suc n) × IsTrue (is_take_due took (before (suc n))))
            (TakeDue setting took before Before n × IsTrue (is_call_due (with_take setting took before n)))
            → InIt (if b then take_step setting took (before (suc n)) else call_step setting (with_take setting took before n))
        by_turn true rest h = take_goes took (before (suc n)) h.1 (was (suc n) h.0)
        by_turn false rest h = call_goes (with_take setting took before n) (rest h.0)

    played_goes : (takes : List Took) (n : ℕ) → AllDue setting takes n → InIt (session_of_takes setting takes n)
    played_goes [] n h = calls_go n
    played_goes (took ∷ takes) n h = with_goes took (session_of_takes setting takes) (AllDue setting takes) (λ m d. played_goes takes m d) n h

session_goes : {B : Type 0} (setting : Setting B) (takes : List Took) (n : ℕ) → IsDefined setting takes n
    → (moves : List (Option EventMove)) × GoesBy (quiet_events (opening setting.params)) (play setting takes n).steps moves (play setting takes n).live.pod
unfolding play IsDefined
session_goes setting takes n h = played_goes (quiet_events (opening setting.params)) setting ([], refl) (reverse takes) n h

pub sessions_are_stepwise : (B : Type 0) → SessionsAreStepwise B
sessions_are_stepwise B setting takes n h =
    let start : EventState = quiet_events (opening setting.params) in
    let gone = session_goes setting takes n h in
    let steps = (play setting takes n).steps in
    let pod = (play setting takes n).live.pod in
    let ends = goes_after start pod steps gone.0 gone.1 in
    record {
      moves = gone.0;
      goes = gone.1;
      reports = λ before later is heard.
          every_death_is_reported (made_moves later) (after_moves (made_moves before) start) heard
          ∙ ap (λ (es : EventState). reports_of_moves (made_moves later) (after_moves (made_moves before) start) ++ es.reports)
          (sym (moved_append (made_moves before) (made_moves later) start)
          ∙ ap (λ ms. after_moves ms start) (sym (made_append before later) ∙ ap made_moves (sym is)) ∙ ends);
      traps = λ e.
          let none : pends e start ≡ 0 = refl in
          omega (
            arith,
            traps_are_raised_once e (made_moves gone.0) start (goes_can start pod steps gone.0 gone.1),
            ap (count_by (is_raised e)) (goes_told start pod steps gone.0 gone.1),
            ap (pends e) ends,
            none,
          );
    }
