-- A session moves its pod by calls and takes alone.
use Rattle.pod_runner.specs.Due.{AllDue, IsDefined, TakeDue, is_call_due, is_take_due}
use Rattle.pod_runner.specs.Play.{session_of_calls, play, session_of_takes, with_take}
use Rattle.pod_runner.specs.Session.{Live, Made, Session, Setting, call_move, call_step, move, move_by, move_row, row_of, take_move, take_step, with_move}
use Rattle.pod_runner.specs.SessionMoves.{IsMoved, SessionsAreMoves, effects_in}
use Rattle.pod_runner.specs.declared.session.Row.{Row}
use Rattle.pod_runner.specs.declared.session.Took.{Took}
use Rattle.lwp_types.specs.Choice.{choice}
use Rattle.lwp_types.specs.Names.{names_for_poll}
use Rattle.lwp_types.specs.Poll.{Polled}
use Rattle.lwp_types.specs.State.{opening}
use Rattle.pod_events.specs.Events.{EventState, quiet_events}
use Rattle.pod_events.specs.Laws.{CanMove, can_move}
use Rattle.pod_events.specs.Moves.{EventMove, ToCall, ToTake, after_moves, effects_of, event_move}
use Rattle.std.proofs.Common.{Bool, List, None, Option, Some, [], ap, false, refl, suc, sym, true, zero, ℕ, ◌++◌, ◌∙◌, ◌∷◌, ◌≡◌}
use Rattle.std.proofs.lemmas.List.{append-nil, append_assoc}
use Rattle.std.specs.Prelude.{IsTrue, MatchBool, if◌then◌else◌, reverse, ◌==◌}

effects-push : (steps : List Made) (made : Made) → effects_in (steps ++ made ∷ []) ≡ effects_in steps ++ made.effects
effects-push [] made = append-nil made.effects
effects-push (first ∷ steps) made = ap (λ es. first.effects ++ es) (effects-push steps made) ∙ sym (append_assoc first.effects (effects_in steps) made.effects)

moved-push : (moves : List EventMove) (move : EventMove) (start : EventState)
    → after_moves (moves ++ move ∷ []) start ≡ (event_move (after_moves moves start) move).after
moved-push [] move start = refl
moved-push (first ∷ moves) move start = moved-push moves move (event_move start first).after

told-push : (moves : List EventMove) (move : EventMove) (start : EventState)
    → effects_of (moves ++ move ∷ []) start ≡ effects_of moves start ++ (event_move (after_moves moves start) move).effects
told-push [] move start = append-nil (event_move start move).effects
told-push (first ∷ moves) move start = ap (λ es. (event_move start first).effects ++ es) (told-push moves move (event_move start first).after)
    ∙ sym (append_assoc (event_move start first).effects (effects_of moves (event_move start first).after)
    (event_move (after_moves moves (event_move start first).after) move).effects)

can-push : (moves : List EventMove) (move : EventMove) (start : EventState) → CanMove moves start
    → can_move (after_moves moves start) move ≡ true → CanMove (moves ++ move ∷ []) start
can-push [] move start can may = (may, tt)
can-push (first ∷ moves) move start can may = (can.0, can-push moves move (event_move start first).after can.1 may)

module _ (start : EventState) where
  -- a step that moves nothing
  idle : (pod : EventState) (steps : List Made) (took : Option Took) → IsMoved start pod steps
      → IsMoved start pod (steps ++ record { take = took; effects = [] } ∷ [])
  idle pod steps took was = record {
    moves = was.moves;
    can = was.can;
    pod_is = was.pod_is;
    effects_are = effects-push steps (record { take = took; effects = [] }) ∙ append-nil (effects_in steps) ∙ was.effects_are;
  }

  -- a step that is a move
  moves : (pod : EventState) (steps : List Made) (took : Option Took) (move : EventMove) → IsMoved start pod steps
      → can_move pod move ≡ true → IsMoved start (event_move pod move).after (steps ++ record { take = took; effects = (event_move pod move).effects } ∷ [])
  moves pod steps took move was may = record {
    moves = was.moves ++ move ∷ [];
    can = can-push was.moves move start was.can (ap (λ now. can_move now move) (sym was.pod_is) ∙ may);
    pod_is = ap (λ now. (event_move now move).after) was.pod_is ∙ sym (moved-push was.moves move start);
    effects_are =
        effects-push steps (record { take = took; effects = (event_move pod move).effects })
        ∙ ap (λ es. es ++ (event_move pod move).effects) was.effects_are
        ∙ ap (λ now. effects_of was.moves start ++ (event_move now move).effects) was.pod_is
        ∙ sym (told-push was.moves move start);
  }

  module _ {B : Type 0} (setting : Setting B) where
    abbrev InIt : Session B → Type 0
    InIt session = IsMoved start session.live.pod session.steps

    called-moves : (live : Live B) (steps : List Made) (t : ℕ) (reply : Polled B) → IsMoved start live.pod steps
        → InIt (with_move (record { live = live; steps = steps }) None (call_move setting.bodies live t reply))
    unfolding call_move
    called-moves live steps t reply was = moves live.pod steps None (ToCall reply.0) was refl

    row-moves : (live : Live B) (steps : List Made) (t : ℕ) (o : Option (Row B)) → IsMoved start live.pod steps
        → InIt (with_move (record { live = live; steps = steps }) None (move_row setting.next setting.bodies live t o))
    row-moves live steps t None was = idle live.pod steps None was
    row-moves live steps t (Some row) was = called-moves live steps t (setting.next row.body (names_for_poll t live.names) row.answer) was

    by-moves : (live : Live B) (steps : List Made) (o : Option ℕ) → IsMoved start live.pod steps
        → InIt (with_move (record { live = live; steps = steps }) None (move_by setting.next setting.bodies live o))
    by-moves live steps None was = idle live.pod steps None was
    by-moves live steps (Some t) was = row-moves live steps t (row_of t live.rows) was

    call-moves : (s : Session B) → InIt s → InIt (call_step setting s)
    unfolding move
    call-moves s was = by-moves s.live s.steps (choice s.live.pod.state) was

    take-moves : (took : Took) (s : Session B) → IsTrue (is_take_due took s) → InIt s → InIt (take_step setting took s)
    unfolding take_move
    take-moves took s may was = moves s.live.pod s.steps (Some took) (ToTake took.event took.line.text) was may

    module _ (opens : IsMoved start (quiet_events (opening setting.params)) []) where
      calls-move : (n : ℕ) → InIt (session_of_calls setting n)
      calls-move zero = opens
      calls-move (suc n) = call-moves (session_of_calls setting n) (calls-move n)

      with-moves : (took : Took) (before : ℕ → Session B) (Before : ℕ → Type 0) → ((n : ℕ) → Before n → InIt (before n)) → (n : ℕ)
          → TakeDue setting took before Before n → InIt (with_take setting took before n)
      with-moves took before Before was zero h = take-moves took (before 0) h.2 (was 0 h.1)
      with-moves took before Before was (suc n) h = by_turn (took.turn == suc n) (λ d. with-moves took before Before was n d) h
        where
          by_turn : (b : Bool) → (TakeDue setting took before Before n → InIt (with_take setting took before n))
              → MatchBool b (Before (suc n) × IsTrue (is_take_due took (before (suc n))))
              (TakeDue setting took before Before n × IsTrue (is_call_due (with_take setting took before n)))
              → InIt (if b then take_step setting took (before (suc n)) else call_step setting (with_take setting took before n))
          by_turn true rest h = take-moves took (before (suc n)) h.1 (was (suc n) h.0)
          by_turn false rest h = call-moves (with_take setting took before n) (rest h.0)

      played-moves : (takes : List Took) (n : ℕ) → AllDue setting takes n → InIt (session_of_takes setting takes n)
      played-moves [] n h = calls-move n
      played-moves (took ∷ takes) n h = with-moves took (session_of_takes setting takes) (AllDue setting takes) (λ m d. played-moves takes m d) n h

pub sessions_are_moves : (B : Type 0) → SessionsAreMoves B
unfolding play IsDefined
sessions_are_moves B setting takes n h =
    let start = quiet_events (opening setting.params) in
    played-moves start setting (record { moves = []; can = tt; pod_is = refl; effects_are = refl }) (reverse takes) n h
