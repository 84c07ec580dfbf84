-- Whole sessions, from the opening on.
use Rattle.answer_laws.proofs.AgentTexts.{deliveries_pass_others_by}
use Rattle.answer_laws.proofs.OwnSteps.{others_reply_nothing}
use Rattle.answer_laws.proofs.PodSteps.{births_said, but_texts, lines_told, reports_told, step_texts, tame_deliver, texts_append}
use Rattle.answer_laws.proofs.Servings.{chosen_lives, gone_fades, got_push, moved_fades, moved_lawful, said_push}
use Rattle.answer_laws.proofs.TalkSteps.{either_of, unborn_absent}
use Rattle.answer_laws.specs.Agents.{deliveries_to}
use Rattle.answer_laws.specs.Clients.{texts_delivered, replies_of_step, replies_accepted}
use Rattle.answer_laws.specs.Served.{CanGoOn, IsReached, LineServer, SessionsAreReached, after_move, after_moves, steps_of}
use Rattle.answer_laws.specs.Stands.{texts_in}
use Rattle.lwp_types.specs.Agents.{deliver, is_event_armed, is_for}
use Rattle.lwp_types.specs.Choice.{choice}
use Rattle.lwp_types.specs.Lawful.{Lawful}
use Rattle.lwp_types.specs.Names.{null_id, names_for_poll}
use Rattle.lwp_types.specs.State.{State, agent_of, is_agent, is_thread, passes}
use Rattle.lwp_types.specs.Step.{step}
use Rattle.lwp_types.specs.declared.call.Call.{Call}
use Rattle.lwp_types.specs.declared.call.Effect.{Effect}
use Rattle.lwp_types.specs.declared.call.LwpErr.{LwpErr}
use Rattle.lwp_types.specs.declared.rows.AgentRow.{AgentRow}
use Rattle.pod_events.specs.Events.{EventState, after_pass_on, after_take_trap, is_trapped, rites_event, take_event}
use Rattle.pod_events.specs.Rites.{after_first_report, as_rites, report_text, reports_after, after_rites}
use Rattle.pod_events.specs.Step.{event_step, event_step_by, event_step_if}
use Rattle.pod_events.specs.Traps.{after_call as traps_made, after_call_as, after_machine_step, after_trap, after_trap_and_call as traps_called}
use Rattle.pod_events.specs.Traps.{agent_event_of, but_call, is_catch, is_given, notice, after_refusal, trap_of, trap_refusal}
use Rattle.pod_laws.proofs.Elements.{differ}
use Rattle.pod_laws.proofs.EveryStep.{Lawful-step}
use Rattle.pod_runner.specs.Due.{AllDue, IsDefined, TakeDue, is_call_due, is_take_due}
use Rattle.pod_runner.specs.Play.{session_of_calls, play, session_of_takes, with_take}
use Rattle.pod_runner.specs.Session.{Live, Session, Setting, call_move, call_step, move, move_by, move_row, opening_session, row_of, take_move, take_step}
use Rattle.pod_runner.specs.declared.session.Row.{Row}
use Rattle.pod_runner.specs.declared.session.Took.{Took}
use Rattle.std.proofs.Common.{Bool, List, None, Option, Some, [], ap, arith, cond, eqb, false, refl, suc, sym, true, zero, ℕ, ◌++◌, ◌∙◌, ◌∷◌, ◌≡◌, ◌≤◌}
use Rattle.std.proofs.lemmas.Bool.{eqb-true}
use Rattle.std.specs.Prelude.{IsTrue, MatchBool, if◌then◌else◌, is_some, map, replicate, reverse, ◌==◌}
use Rattle.lwp_types.specs.declared.call.Call.TheVariants as call
use Rattle.lwp_types.specs.declared.call.LwpErr.TheVariants as error

-- ---- nothing is told to who isn't born

lawful_made : (st : State) → Lawful st None → (trapped : List Bool) (t : ℕ) (c : Call) → Lawful (traps_made st trapped t c).state None
lawful_made st was trapped t c = by_trap (trap_of c)
  where
    by_refusal : (e : ℕ) (o : Option LwpErr) → Lawful (after_trap st trapped t c e o).state None
    by_refusal e None = was
    by_refusal e (Some why) = was

    by_agent : (b : Bool) → Lawful (cond b (after_refusal st trapped t c error.InUse) (after_machine_step trapped (step st c))).state None
    by_agent true = was
    by_agent false = Lawful-step st was c

    by_trap : (o : Option ℕ) → Lawful (after_call_as st trapped t c o).state None
    by_trap None = by_agent (passes (is_trapped trapped) (agent_event_of c))
    by_trap (Some e) = by_refusal e (trap_refusal st trapped e)

pub lawful_called : (st : State) → Lawful st None → (trapped : List Bool) (t : ℕ) (c : Call) (pending : Option ℕ)
    → Lawful (traps_called st trapped t c pending).state None
lawful_called st was trapped t c None = lawful_made st was trapped t c
lawful_called st was trapped t c (Some e) = by_given (passes is_given (notice st t e)) (passes is_catch (notice st t e))
  where
    by_given : (b d : Bool)
        → Lawful
        (cond b (traps_made st trapped t c)
        (cond d (after_machine_step trapped (but_call (step st (call.ExcNotify e)))) (after_machine_step trapped (but_call (step st (call.Destroy t)))))).state
        None
    by_given true d = lawful_made st was trapped t c
    by_given false true = Lawful-step st was (call.ExcNotify e)
    by_given false false = Lawful-step st was (call.Destroy t)

module _ (a : ℕ) where
  texts_made : (st : State) (trapped : List Bool) (t : ℕ) (c : Call) → texts_in a None (traps_made st trapped t c).effects ≡ []
  texts_made st trapped t c = by_trap (trap_of c)
    where
      by_refusal : (e : ℕ) (o : Option LwpErr) → texts_in a None (after_trap st trapped t c e o).effects ≡ []
      by_refusal e None = refl
      by_refusal e (Some why) = refl

      by_agent : (b : Bool) → texts_in a None (cond b (after_refusal st trapped t c error.InUse) (after_machine_step trapped (step st c))).effects ≡ []
      by_agent true = refl
      by_agent false = step_texts a st c

      by_trap : (o : Option ℕ) → texts_in a None (after_call_as st trapped t c o).effects ≡ []
      by_trap None = by_agent (passes (is_trapped trapped) (agent_event_of c))
      by_trap (Some e) = by_refusal e (trap_refusal st trapped e)

  pub texts_called : (st : State) (trapped : List Bool) (t : ℕ) (c : Call) (pending : Option ℕ)
      → texts_in a None (traps_called st trapped t c pending).effects ≡ []
  texts_called st trapped t c None = texts_made st trapped t c
  texts_called st trapped t c (Some e) = by_given (passes is_given (notice st t e)) (passes is_catch (notice st t e))
    where
      by_given : (b d : Bool)
          → texts_in a None (cond b (traps_made st trapped t c) (cond d (after_machine_step trapped (but_call (step st (call.ExcNotify e))))
          (after_machine_step trapped (but_call (step st (call.Destroy t)))))).effects
          ≡ []
      by_given true d = texts_made st trapped t c
      by_given false true = but_texts a st (call.ExcNotify e) ∙ step_texts a st (call.ExcNotify e)
      by_given false false = but_texts a st (call.Destroy t) ∙ step_texts a st (call.Destroy t)

  -- an agent that isn't born gets nothing
  none_delivered : (st : State) → Lawful st None → st.births ≤ a → (e : ℕ) (text : List ℕ) → deliveries_to a (deliver st e text).effects ≡ 0
  none_delivered st was low e text = (deliveries_pass_others_by st was a e text
      (by_row (agent_of st.agents a) (either_of (is_thread st a) (is_agent st a) (unborn_absent st was a low)).1)).none
    where
      by_row : (o : Option AgentRow) → is_some o ≡ false → passes (is_for e) o ≡ false
      by_row None h = refl
      by_row (Some row) h = absurd (cc)

  texts_said : (after : State) (es : List Effect) (reports : List ℕ) → Lawful after None → after.births ≤ a → texts_in a None es ≡ []
      → texts_in a None (after_rites after es reports).effects ≡ []
  texts_said after es reports was low none = by_armed (is_event_armed after rites_event) reports
    where
      by_armed : (b : Bool) (rs : List ℕ)
          → texts_in a None (cond b (after_first_report after es rs) (record { state = after; reports = rs; effects = es })).effects ≡ []
      by_armed true [] = none
      by_armed false rs = none
      by_armed true (dead ∷ later) =
          let sent = (deliver after rites_event (report_text dead)).effects in
          texts_append a None es (map (as_rites dead) sent)
          ∙ (λ i. none i
          ++ (reports_told a dead sent (tame_deliver after rites_event (report_text dead))
          ∙ lines_told a (report_text dead) sent (tame_deliver after rites_event (report_text dead))
          ∙ ap (λ n. replicate n (report_text dead)) (none_delivered after was low rites_event (report_text dead)))
          i)

  unborn_texts : (es : EventState) → Lawful es.state None → (c : Call) → (event_step es c).after.state.births ≤ a
      → texts_in a None (event_step es c).effects ≡ []
  unfolding event_step event_step_by
  unborn_texts es was c low = by_choice (choice es.state) low
    where
      by_choice : (o : Option ℕ) → (event_step_if es c o).after.state.births ≤ a → texts_in a None (event_step_if es c o).effects ≡ []
      by_choice None low = refl
      by_choice (Some t) low =
          let out = traps_called es.state es.trapped t c es.pending in
          let reports = reports_after es.state out.state es.reports out.effects in
          texts_said out.state out.effects reports (lawful_called es.state was es.trapped t c es.pending)
          (omega (arith, low, births_said out.state out.effects reports)) (texts_called es.state es.trapped t c es.pending)

  unborn_line : eqb null_id a ≡ false → (es : EventState) → Lawful es.state None → es.state.births ≤ a → (e : ℕ) (text : List ℕ)
      → texts_in a (Some text) (take_event es e text).effects ≡ []
  unfolding take_event
  unborn_line away es was low e text = by_trapped (is_trapped es.trapped e)
    where
      by_trapped : (b : Bool) → texts_in a (Some text) (cond b (after_take_trap es e) (after_pass_on es (deliver es.state e text))).effects ≡ []
      by_trapped true = rw away refl
      by_trapped false = lines_told a text (deliver es.state e text).effects (tame_deliver es.state e text)
          ∙ ap (λ n. replicate n text) (none_delivered es.state was low e text)

-- ---- in a session

module _ {B : Type 0} (setting : Setting B) where
  -- of these steps, no text went to who isn't born
  abbrev IsUntold : Session B → Type 0
  IsUntold session = (a : ℕ) → session.live.pod.state.births ≤ a → eqb null_id a ≡ false → texts_delivered a (steps_of session.steps) ≡ []

  call_texts : (live : Live B) → Lawful live.pod.state None → (a : ℕ) → (move setting.next setting.bodies live).live.pod.state.births ≤ a
      → texts_in a None (move setting.next setting.bodies live).effects ≡ []
  unfolding move call_move
  call_texts live was a low = by_choice (choice live.pod.state) low
    where
      by_row : (t : ℕ) (o : Option (Row B)) → (move_row setting.next setting.bodies live t o).live.pod.state.births ≤ a
          → texts_in a None (move_row setting.next setting.bodies live t o).effects ≡ []
      by_row t None low = refl
      by_row t (Some row) low = unborn_texts a live.pod was (setting.next row.body (names_for_poll t live.names) row.answer).0 low

      by_choice : (o : Option ℕ) → (move_by setting.next setting.bodies live o).live.pod.state.births ≤ a
          → texts_in a None (move_by setting.next setting.bodies live o).effects ≡ []
      by_choice None low = refl
      by_choice (Some t) low = by_row t (row_of t live.rows) low

  call_silent : (live : Live B) → Lawful live.pod.state None → (s a : ℕ) → live.pod.state.births ≤ s
      → replies_of_step s a (move setting.next setting.bodies live).effects ≡ []
  unfolding move call_move
  call_silent live was s a low = by_choice (choice live.pod.state) refl
    where
      not_s : (t : ℕ) → choice live.pod.state ≡ Some t → (b : Bool) → eqb t s ≡ b → b ≡ false
      not_s t turn false e = refl
      not_s t turn true e = differ (sym (chosen_lives live.pod.state was t turn) ∙ ap (is_thread live.pod.state) (eqb-true t s e)
          ∙ (either_of (is_thread live.pod.state s) (is_agent live.pod.state s) (unborn_absent live.pod.state was s low)).0)

      by_row : (t : ℕ) → choice live.pod.state ≡ Some t → (o : Option (Row B))
          → replies_of_step s a (move_row setting.next setting.bodies live t o).effects ≡ []
      by_row t turn None = refl
      by_row t turn (Some row) =
          (others_reply_nothing s a live.pod).0 t turn (not_s t turn (eqb t s) refl) (setting.next row.body (names_for_poll t live.names) row.answer).0

      by_choice : (o : Option ℕ) → choice live.pod.state ≡ o → replies_of_step s a (move_by setting.next setting.bodies live o).effects ≡ []
      by_choice None e = refl
      by_choice (Some t) e = by_row t e (row_of t live.rows)

module _ {B : Type 0} (setting : Setting B) (server : LineServer setting.next) (s k : ℕ) (s_k : eqb s k ≡ false) where
  pub move_untold : (session : Session B) (m : Option Took) → Lawful session.live.pod.state None → IsUntold setting session
      → IsUntold setting (after_move setting session m)
  unfolding take_move
  move_untold session None was untold a low away =
      sym (got_push setting server s k s_k session.steps (record { take = None; effects = (move setting.next setting.bodies session.live).effects }) a)
      ∙ (λ i. untold a (omega (arith, low, (moved_fades setting a session None).births)) away i ++ call_texts setting session.live was a low i)
  move_untold session (Some took) was untold a low away =
      sym (got_push setting server s k s_k session.steps (record { take = Some took; effects = (take_move setting.bodies took session.live).effects }) a)
      ∙ (λ i. untold a (omega (arith, low, (moved_fades setting a session (Some took)).births)) away i
      ++ unborn_line a away session.live.pod was (omega (arith, low, (moved_fades setting a session (Some took)).births)) took.event took.line.text i)

  pub move_silent : (session : Session B) (m : Option Took) → Lawful session.live.pod.state None → session.live.pod.state.births ≤ s
      → ((a : ℕ) → replies_accepted s a (steps_of session.steps) ≡ []) → (a : ℕ) → replies_accepted s a (steps_of (after_move setting session m).steps) ≡ []
  unfolding take_move
  move_silent session None was low silent a =
      sym (said_push setting server s k s_k session.steps (record { take = None; effects = (move setting.next setting.bodies session.live).effects }) a)
      ∙ (λ i. silent a i ++ call_silent setting session.live was s a low i)
  move_silent session (Some took) was low silent a =
      sym (said_push setting server s k s_k session.steps (record { take = Some took; effects = (take_move setting.bodies took session.live).effects }) a)
      ∙ (λ i. silent a i ++ (others_reply_nothing s a session.live.pod).1 took.event took.line.text i)

  pub moves_untold : (moves : List (Option Took)) (session : Session B) → Lawful session.live.pod.state None → CanGoOn setting moves session
      → IsUntold setting session → IsUntold setting (after_moves setting moves session)
  moves_untold [] session was can untold = untold
  moves_untold (m ∷ ms) session was can untold =
      moves_untold ms (after_move setting session m) (moved_lawful setting session m can.0 was) can.1 (move_untold session m was untold)

  pub moves_silent : (moves : List (Option Took)) (session : Session B) → Lawful session.live.pod.state None → CanGoOn setting moves session
      → (after_moves setting moves session).live.pod.state.births ≤ s → ((a : ℕ) → replies_accepted s a (steps_of session.steps) ≡ [])
      → (a : ℕ) → replies_accepted s a (steps_of (after_moves setting moves session).steps) ≡ []
  moves_silent [] session was can low silent = silent
  moves_silent (m ∷ ms) session was can low silent = moves_silent ms (after_move setting session m) (moved_lawful setting session m can.0 was) can.1 low
      (move_silent session m was (omega (arith, low, (gone_fades setting s (m ∷ ms) session).births)) silent)

-- ---- moves after moves

module _ {B : Type 0} (setting : Setting B) where
  pub gone_append : (one two : List (Option Took)) (session : Session B)
      → after_moves setting (one ++ two) session ≡ after_moves setting two (after_moves setting one session)
  gone_append [] two session = refl
  gone_append (m ∷ ms) two session = gone_append ms two (after_move setting session m)

  pub can_before : (one two : List (Option Took)) (session : Session B) → CanGoOn setting (one ++ two) session → CanGoOn setting one session
  can_before [] two session can = tt
  can_before (m ∷ ms) two session can = (can.0, can_before ms two (after_move setting session m) can.1)

  pub can_behind : (one two : List (Option Took)) (session : Session B) → CanGoOn setting (one ++ two) session
      → CanGoOn setting two (after_moves setting one session)
  can_behind [] two session can = can
  can_behind (m ∷ ms) two session can = can_behind ms two (after_move setting session m) can.1

  can_both : (one two : List (Option Took)) (session : Session B) → CanGoOn setting one session
      → CanGoOn setting two (after_moves setting one session) → CanGoOn setting (one ++ two) session
  can_both [] two session first second = second
  can_both (m ∷ ms) two session first second = (first.0, can_both ms two (after_move setting session m) first.1 second)

  -- ---- every session is some moves from its opening

  call_reached : (session : Session B) → is_call_due session ≡ true → IsReached setting session → IsReached setting (call_step setting session)
  call_reached session due r = record {
    moves = r.moves ++ None ∷ [];
    can = can_both r.moves (None ∷ []) (opening_session setting) r.can (ap is_call_due (sym r.is) ∙ due, tt);
    is = ap (call_step setting) r.is ∙ sym (gone_append r.moves (None ∷ []) (opening_session setting));
  }

  take_reached : (took : Took) (session : Session B) → is_take_due took session ≡ true → IsReached setting session
      → IsReached setting (take_step setting took session)
  take_reached took session due r = record {
    moves = r.moves ++ Some took ∷ [];
    can = can_both r.moves (Some took ∷ []) (opening_session setting) r.can (ap (is_take_due took) (sym r.is) ∙ due, tt);
    is = ap (take_step setting took) r.is ∙ sym (gone_append r.moves (Some took ∷ []) (opening_session setting));
  }

  calls_reached : (n : ℕ) → AllDue setting [] n → IsReached setting (session_of_calls setting n)
  calls_reached zero h = record { moves = []; can = tt; is = refl }
  calls_reached (suc n) h = call_reached (session_of_calls setting n) h.1 (calls_reached n h.0)

  with_reached : (took : Took) (before : ℕ → Session B) (Before : ℕ → Type 0) → ((n : ℕ) → Before n → IsReached setting (before n))
      → (n : ℕ) → TakeDue setting took before Before n → IsReached setting (with_take setting took before n)
  with_reached took before Before was zero h = take_reached took (before 0) h.2 (was 0 h.1)
  with_reached took before Before was (suc n) h = by_turn (took.turn == suc n) (λ d. with_reached took before Before was n d) h
    where
      by_turn : (b : Bool) → (TakeDue setting took before Before n → IsReached setting (with_take setting took before n))
          → MatchBool b (Before (suc n) × IsTrue (is_take_due took (before (suc n))))
          (TakeDue setting took before Before n × IsTrue (is_call_due (with_take setting took before n)))
          → IsReached setting (if b then take_step setting took (before (suc n)) else call_step setting (with_take setting took before n))
      by_turn true rest h = take_reached took (before (suc n)) h.1 (was (suc n) h.0)
      by_turn false rest h = call_reached (with_take setting took before n) h.1 (rest h.0)

  played_reached : (takes : List Took) (n : ℕ) → AllDue setting takes n → IsReached setting (session_of_takes setting takes n)
  played_reached [] n h = calls_reached n h
  played_reached (took ∷ takes) n h = with_reached took (session_of_takes setting takes) (AllDue setting takes) (λ m d. played_reached takes m d) n h

pub sessions_are_reached : (B : Type 0) → SessionsAreReached B
unfolding play IsDefined
sessions_are_reached B setting takes n h = played_reached setting (reverse takes) n h
