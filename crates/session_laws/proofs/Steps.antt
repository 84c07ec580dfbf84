-- What each step of a session keeps holds after each of its steps.
use Rattle.lwp_types.specs.Choice.{choice}
use Rattle.lwp_types.specs.Lawful.{Lawful}
use Rattle.lwp_types.specs.Names.{names_for_poll}
use Rattle.lwp_types.specs.Poll.{Polled}
use Rattle.lwp_types.specs.State.{State, opening}
use Rattle.pod_events.specs.Events.{take_event}
use Rattle.pod_events.specs.Step.{event_step}
use Rattle.pod_runner.specs.Due.{AllDue, IsDefined, TakeDue, is_call_due, is_take_due}
use Rattle.pod_runner.specs.Play.{session_of_calls, play, session_of_takes, with_take}
use Rattle.pod_runner.specs.Session.{Live, Made, Session, Setting, call_move, call_step, move, move_by, move_row, row_of, take_move, take_step, with_move}
use Rattle.pod_runner.specs.declared.session.Row.{Row}
use Rattle.pod_runner.specs.declared.session.Took.{Took}
use Rattle.session_laws.proofs.Pods.{Moved, call_moved, idle_moved, take_moved}
use Rattle.std.proofs.Common.{Bool, List, None, Option, Some, [], false, suc, true, zero, ℕ, ◌++◌, ◌∷◌}
use Rattle.std.specs.Prelude.{IsTrue, MatchBool, if◌then◌else◌, reverse, ◌==◌}

-- a session stands so in this state, with these steps; each step keeps that
pub record Lasts (Holds : State → List Made → Type 0) : Type 0 where
  pub lawful : (s : State) (steps : List Made) → Holds s steps → Lawful s None
  pub push : (s after : State) (steps : List Made) (made : Made) → Holds s steps → Moved s after made.effects → Holds after (steps ++ made ∷ [])

module _ (Holds : State → List Made → Type 0) (lasts : Lasts Holds) {B : Type 0} (setting : Setting B) where
  abbrev InIt : Session B → Type 0
  InIt session = Holds session.live.pod.state session.steps

  idle_lasts : (live : Live B) (steps : List Made) → Holds live.pod.state steps → Holds live.pod.state (steps ++ record { take = None; effects = [] } ∷ [])
  idle_lasts live steps h = lasts.push live.pod.state live.pod.state steps _ h (idle_moved live.pod.state (lasts.lawful live.pod.state steps h))

  called_lasts : (live : Live B) (steps : List Made) (t : ℕ) (reply : Polled B) → Holds live.pod.state steps
      → InIt (with_move (record { live = live; steps = steps }) None (call_move setting.bodies live t reply))
  unfolding call_move
  called_lasts live steps t reply h =
      lasts.push live.pod.state (event_step live.pod reply.0).after.state steps _ h (call_moved live.pod (lasts.lawful live.pod.state steps h) reply.0)

  row_lasts : (live : Live B) (steps : List Made) (t : ℕ) (o : Option (Row B)) → Holds live.pod.state steps
      → InIt (with_move (record { live = live; steps = steps }) None (move_row setting.next setting.bodies live t o))
  row_lasts live steps t None h = idle_lasts live steps h
  row_lasts live steps t (Some row) h = called_lasts live steps t (setting.next row.body (names_for_poll t live.names) row.answer) h

  by_lasts : (live : Live B) (steps : List Made) (o : Option ℕ) → Holds live.pod.state steps
      → InIt (with_move (record { live = live; steps = steps }) None (move_by setting.next setting.bodies live o))
  by_lasts live steps None h = idle_lasts live steps h
  by_lasts live steps (Some t) h = row_lasts live steps t (row_of t live.rows) h

  call_lasts : (s : Session B) → InIt s → InIt (call_step setting s)
  unfolding move
  call_lasts s h = by_lasts s.live s.steps (choice s.live.pod.state) h

  take_lasts : (took : Took) (s : Session B) → IsTrue (is_take_due took s) → InIt s → InIt (take_step setting took s)
  unfolding take_move
  take_lasts took s may h = lasts.push s.live.pod.state (take_event s.live.pod took.event took.line.text).after.state s.steps _ h
      (take_moved s.live.pod (lasts.lawful s.live.pod.state s.steps h) took.event took.line.text may)

  module _ (start : Holds (opening setting.params) []) where
    calls_last : (n : ℕ) → InIt (session_of_calls setting n)
    calls_last zero = start
    calls_last (suc n) = call_lasts (session_of_calls setting n) (calls_last n)

    with_lasts : (took : Took) (before : ℕ → Session B) (Before : ℕ → Type 0) → ((n : ℕ) → Before n → InIt (before n)) → (n : ℕ)
        → TakeDue setting took before Before n → InIt (with_take setting took before n)
    with_lasts took before Before was zero h = take_lasts took (before 0) h.2 (was 0 h.1)
    with_lasts took before Before was (suc n) h = by_turn (took.turn == suc n) (λ d. with_lasts took before Before was n d) h
      where
        by_turn : (b : Bool) → (TakeDue setting took before Before n → InIt (with_take setting took before n))
            → MatchBool b (Before (suc n) × IsTrue (is_take_due took (before (suc n))))
            (TakeDue setting took before Before n × IsTrue (is_call_due (with_take setting took before n)))
            → InIt (if b then take_step setting took (before (suc n)) else call_step setting (with_take setting took before n))
        by_turn true rest h = take_lasts took (before (suc n)) h.1 (was (suc n) h.0)
        by_turn false rest h = call_lasts (with_take setting took before n) (rest h.0)

    played_lasts : (takes : List Took) (n : ℕ) → AllDue setting takes n → InIt (session_of_takes setting takes n)
    played_lasts [] n h = calls_last n
    played_lasts (took ∷ takes) n h = with_lasts took (session_of_takes setting takes) (AllDue setting takes) (λ m d. played_lasts takes m d) n h

    pub play_lasts : (takes : List Took) (n : ℕ) → IsDefined setting takes n → Holds (play setting takes n).live.pod.state (play setting takes n).steps
    unfolding play IsDefined
    play_lasts takes n h = played_lasts (reverse takes) n h
