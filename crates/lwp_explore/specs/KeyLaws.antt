-- Two cores of a script with the same bytes are one.
use Rattle.lwp_explore.specs.Cores.{Step, after, call_made, calls_at, first_core, live_of, next_line, row_of_mind}
use Rattle.lwp_explore.specs.Cores.{steps_at, take_if, take_made, takes_at, takes_from}
use Rattle.lwp_explore.specs.Searching.{script_moves}
use Rattle.lwp_explore.specs.Sessions.{world_of}
use Rattle.lwp_types.specs.Choice.{choice}
use Rattle.lwp_types.specs.Names.{names_for_poll}
use Rattle.lwp_types.specs.Poll.{Polled}
use Rattle.lwp_types.specs.declared.call.Answer.{Answer}
use Rattle.lwp_types.specs.declared.call.Call.{Call}
use Rattle.lwp_types.specs.declared.call.Effect.{Effect}
use Rattle.lwp_types.specs.declared.call.Effect.TheVariants as effect
use Rattle.lwp_types.specs.declared.call.Line.{Line}
use Rattle.pod_events.specs.Events.{has_turn, is_takeable, take_event}
use Rattle.pod_events.specs.Step.{event_step}
use Rattle.pod_runner.specs.Session.{Live, after_answer, after_poll, after_settle, after_settle_by, call_move, move}
use Rattle.pod_runner.specs.Session.{move_by, move_row, opening_session, proc_of, row_of, rows_born, rows_of_new, take_move, thread_in, without_row}
use Rattle.pod_runner.specs.declared.session.Row.{Row}
use Rattle.pod_runner.specs.declared.session.Took.{Took}
use Rattle.script_body.specs.Bodies.{bodies_of, body_next}
use Rattle.script_body.specs.BodyKeyLaws.{body_is_code, opens, stays}
use Rattle.script_body.specs.BodyKeys.{IsBodyOf, body_numbers}
use Rattle.script_body.specs.declared.thread_body.ThreadBody.{ThreadBody}
use Rattle.script_text.specs.declared.script.Script.{Script}
use Rattle.search.specs.Moves.{KeysDiffer}
use Rattle.search.specs.Reach.{holds_of_reached}
use Rattle.session_cores.specs.Core.{Core, IsCoreOf, Mind, core_of, mind_of}
use Rattle.session_cores.specs.CoreLaws.{cores_differ}
use Rattle.std.proofs.Common.{Bool, List, None, Option, Some, [], false, map, refl, slice_get, subst, suc, true, zero, ℕ, ◌++◌, ◌+◌, ◌∷◌, ◌≡◌}
use Rattle.std.specs.List.{AllByRecursion}
use Rattle.std.specs.Prelude.{IfSome, if◌then◌else◌, ◌==◌}

module _ {A : Type 0} (P : A → Type 0) where
  all_append : (xs ys : List A) → AllByRecursion P xs → AllByRecursion P ys → AllByRecursion P (xs ++ ys)
  all_append [] ys hx hy = hy
  all_append (x ∷ xs) ys hx hy = (hx.0, all_append xs ys hx.1 hy)

module _ {A C : Type 0} (f : A → C) (P : C → Type 0) where
  all_at : (xs : List A) (i : ℕ) (y : C) → AllByRecursion (λ x. P (f x)) xs → slice_get (map f xs) i ≡ Some y → P y
  all_at [] i y h there = absurd cc
  all_at (x ∷ xs) zero y h there = let same : f x ≡ y = cc in subst P same h.0
  all_at (x ∷ xs) (suc i) y h there = all_at xs i y h.1 there

module _ (script : Script) where
  -- ---- the threads are of the script

  abbrev AreOf : List (Row ThreadBody) → Type 0
  AreOf rows = AllByRecursion (λ (row : Row ThreadBody). IsBodyOf script row.body) rows

  answered_of : (t : ℕ) (a : Answer) (rows : List (Row ThreadBody)) → AreOf rows → AreOf (after_answer t a rows)
  answered_of t a [] h = tt
  answered_of t a (row ∷ rows) h = by (row.tid == t) (answered_of t a rows h.1)
    where
      by : (b : Bool) → AreOf (after_answer t a rows) → AreOf (if b then record row { answer = a } ∷ rows else row ∷ after_answer t a rows)
      by true later = h
      by false later = (h.0, later)

  polled_of : (t : ℕ) (body : ThreadBody) (c : Call) (rows : List (Row ThreadBody)) → IsBodyOf script body → AreOf rows → AreOf (after_poll t body c rows)
  polled_of t body c [] hb h = tt
  polled_of t body c (row ∷ rows) hb h = by (row.tid == t) (polled_of t body c rows hb h.1)
    where
      by : (b : Bool) → AreOf (after_poll t body c rows)
          → AreOf (if b then record row { body = body; called = true; call = c } ∷ rows else row ∷ after_poll t body c rows)
      by true later = (hb, h.1)
      by false later = (h.0, later)

  died_of : (t : ℕ) (rows : List (Row ThreadBody)) → AreOf rows → AreOf (without_row t rows)
  died_of t [] h = tt
  died_of t (row ∷ rows) h = by (row.tid == t) (died_of t rows h.1)
    where
      by : (b : Bool) → AreOf (without_row t rows) → AreOf (if b then rows else row ∷ without_row t rows)
      by true later = h.1
      by false later = (h.0, later)

  new_of : (t number n : ℕ) (bodies : List ThreadBody) → AllByRecursion (IsBodyOf script) bodies → AreOf (rows_of_new t number (slice_get bodies n))
  new_of t number n [] h = tt
  new_of t number zero (b ∷ bodies) h = (h.0, tt)
  new_of t number (suc n) (b ∷ bodies) h = new_of t number n bodies h.1

  born_of : (born thread : Option ℕ) → AreOf (rows_born (bodies_of script) born thread)
  born_of (Some number) (Some t) = new_of t number number (bodies_of script) (opens script)
  born_of (Some number) None = tt
  born_of None (Some t) = tt
  born_of None None = tt

  settled_by_of : (born : Option ℕ) (e : Effect) (rows : List (Row ThreadBody)) → AreOf rows → AreOf (after_settle_by (bodies_of script) born e rows)
  settled_by_of born (effect.Called t c) rows h = h
  settled_by_of born (effect.Answered t a) rows h = all_append (λ (row : Row ThreadBody). IsBodyOf script row.body) (after_answer t a rows)
      (rows_born (bodies_of script) born (thread_in a)) (answered_of t a rows h) (born_of born (thread_in a))
  settled_by_of born (effect.Exited t reg x a) rows h = h
  settled_by_of born (effect.Died t) rows h = died_of t rows h
  settled_by_of born (effect.Delivered agent e) rows h = h
  settled_by_of born (effect.Ticked now) rows h = h
  settled_by_of born (effect.Ended status) rows h = h
  settled_by_of born (effect.Trapped t e) rows h = h
  settled_by_of born (effect.Rites agent dead) rows h = h

  settled_of : (born : Option ℕ) (es : List Effect) (rows : List (Row ThreadBody)) → AreOf rows → AreOf (after_settle (bodies_of script) born es rows)
  settled_of born [] rows h = h
  settled_of born (e ∷ es) rows h =
      settled_of born es (after_settle_by (bodies_of script) born e rows) (settled_by_of born e rows h)

  row_is : (t : ℕ) (rows : List (Row ThreadBody)) → AreOf rows → IfSome (row_of t rows) (λ row. IsBodyOf script row.body)
  row_is t [] h = tt
  row_is t (row ∷ rows) h = by (row.tid == t) (row_is t rows h.1)
    where
      by : (b : Bool) → IfSome (row_of t rows) (λ row. IsBodyOf script row.body)
          → IfSome (if b then Some row else row_of t rows) (λ row. IsBodyOf script row.body)
      by true later = h.0
      by false later = later

  -- ---- after a step they are

  called_of : (live : Live ThreadBody) (t : ℕ) (reply : Polled ThreadBody) → IsBodyOf script reply.1 → AreOf live.rows
      → AreOf (call_move (bodies_of script) live t reply).live.rows
  unfolding call_move
  called_of live t reply hb h = settled_of (proc_of reply.0) (event_step live.pod reply.0).effects (after_poll t reply.1 reply.0 live.rows)
      (polled_of t reply.1 reply.0 live.rows hb h)

  moved_row_of : (live : Live ThreadBody) (t : ℕ) → AreOf live.rows → (o : Option (Row ThreadBody)) → IfSome o (λ row. IsBodyOf script row.body)
      → AreOf (move_row body_next (bodies_of script) live t o).live.rows
  moved_row_of live t h None hb = h
  moved_row_of live t h (Some row) hb = called_of live t (body_next row.body (names_for_poll t live.names) row.answer)
      (stays script row.body (names_for_poll t live.names) row.answer hb) h

  moved_by_of : (live : Live ThreadBody) → AreOf live.rows → (o : Option ℕ) → AreOf (move_by body_next (bodies_of script) live o).live.rows
  moved_by_of live h None = h
  moved_by_of live h (Some t) = moved_row_of live t h (row_of t live.rows) (row_is t live.rows h)

  moved_of : (live : Live ThreadBody) → AreOf live.rows → AreOf (move body_next (bodies_of script) live).live.rows
  unfolding move
  moved_of live h = moved_by_of live h (choice live.pod.state)

  taken_of : (took : Took) (live : Live ThreadBody) → AreOf live.rows → AreOf (take_move (bodies_of script) took live).live.rows
  unfolding take_move
  taken_of took live h = settled_of None (take_event live.pod took.event took.line.text).effects live.rows h

  -- ---- cores

  abbrev IsOf : Core ThreadBody → Type 0
  IsOf core = IsCoreOf IsBodyOf script core

  minds_of : (rows : List (Row ThreadBody)) → AreOf rows → AllByRecursion (λ (mind : Mind ThreadBody). IsBodyOf script mind.body) (map mind_of rows)
  minds_of [] h = tt
  minds_of (row ∷ rows) h = (h.0, minds_of rows h.1)

  rows_of : (minds : List (Mind ThreadBody)) → AllByRecursion (λ (mind : Mind ThreadBody). IsBodyOf script mind.body) minds → AreOf (map row_of_mind minds)
  rows_of [] h = tt
  rows_of (mind ∷ minds) h = (h.0, rows_of minds h.1)

  core_is_of : (live : Live ThreadBody) (taken : List ℕ) → AreOf live.rows → IsOf (core_of live taken)
  core_is_of live taken h = record { bodies = minds_of live.rows h; nobody = refl }

  abbrev LeadsTo : Step ThreadBody → Type 0
  LeadsTo step = IsOf step.to

  take_if_of : (core : Core ThreadBody) (c e : ℕ) (o : Option Line) → IsOf core → AllByRecursion LeadsTo (take_if (world_of script) core c e o)
  take_if_of core c e None h = tt
  take_if_of core c e (Some line) h = by (is_takeable core.pod e)
    where
      by : (b : Bool) → AllByRecursion LeadsTo (if b then take_made (world_of script) core c (record { turn = 0; event = e; line = line }) ∷ [] else [])
      by true = (
        core_is_of (take_move (bodies_of script) (record { turn = 0; event = e; line = line }) (live_of core)).live
            (take_made (world_of script) core c (record { turn = 0; event = e; line = line })).to.taken
            (taken_of (record { turn = 0; event = e; line = line }) (live_of core) (rows_of core.minds h.bodies)),
        tt,
      )
      by false = tt

  takes_of : (core : Core ThreadBody) (c : ℕ) (events : List ℕ) → IsOf core → AllByRecursion LeadsTo (takes_from (world_of script) core c events)
  takes_of core c [] h = tt
  takes_of core c (e ∷ events) h = all_append LeadsTo (take_if (world_of script) core c e (next_line (world_of script) core c))
      (takes_from (world_of script) core (c + 1) events)
      (take_if_of core c e (next_line (world_of script) core c) h) (takes_of core (c + 1) events h)

  call_of : (core : Core ThreadBody) → IsOf core → AllByRecursion LeadsTo (calls_at (world_of script) core)
  call_of core h = by (has_turn core.pod.state)
    where
      by : (b : Bool) → AllByRecursion LeadsTo (if b then call_made (world_of script) core ∷ [] else [])
      by true = (core_is_of (move body_next (bodies_of script) (live_of core)).live core.taken (moved_of (live_of core) (rows_of core.minds h.bodies)), tt)
      by false = tt

  step_of : (from : Core ThreadBody) (number : ℕ) (to : Core ThreadBody) → IsOf from → slice_get (after (world_of script) from) number ≡ Some to → IsOf to
  step_of from number to h leads = all_at (λ (step : Step ThreadBody). step.to) IsOf (steps_at (world_of script) from) number to
      (all_append LeadsTo (takes_at (world_of script) from) (calls_at (world_of script) from) (takes_of from 0 script.clients h) (call_of from h)) leads

  first_of : IsOf (first_core (world_of script))
  first_of = core_is_of (opening_session (world_of script).setting).live (first_core (world_of script)).taken
      (new_of 0 0 0 (bodies_of script) (opens script))

-- two cores that a script's sessions come to have different bytes
pub script_keys_differ : (script : Script) (sought : Option (List ℕ)) → KeysDiffer (script_moves script sought)
script_keys_differ script sought a b ra rb same =
    let moves = script_moves script sought in
    cores_differ IsBodyOf body_numbers body_is_code script a b
    (holds_of_reached moves (IsOf script) (step_of script) (first_of script) a ra)
    (holds_of_reached moves (IsOf script) (step_of script) (first_of script) b rb) same
