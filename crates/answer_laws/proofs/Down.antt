-- A client's session that is refused by its store says so.
use Rattle.answer_laws.proofs.Events.{living_is_left, rites_same, takes_leave_it}
use Rattle.answer_laws.proofs.Others.{deliveries_leave_it}
use Rattle.answer_laws.proofs.Sights.{answers_append}
use Rattle.answer_laws.proofs.Phases.{born_below}
use Rattle.answer_laws.proofs.Servings.{alive_then, chosen_lives, moved_fades, moved_lawful, rests_untimed}
use Rattle.answer_laws.proofs.ThreadRows.{polled_other, polled_own, row_with, settled_with}
use Rattle.answer_laws.specs.Down.{CallsNext, IsRefusedAt, RefusedSessionsSayDown, SendsToTheGoneAreRefused, at_rest}
use Rattle.answer_laws.specs.Events.{machine_of}
use Rattle.answer_laws.specs.Served.{CanGoOn, IsPolledWith, session_from}
use Rattle.answer_laws.specs.Stands.{last_heard}
use Rattle.answer_laws.specs.Sights.{IsLeft, IsWoken, Sight, answers_to, attends, is_attentive, open_letters, sight}
use Rattle.line_server.specs.Sessions.{SessionBody, session_by, session_next}
use Rattle.line_server.specs.declared.session.SessionPlace.{SessionPlace}
use Rattle.line_server.specs.declared.session.SessionPlace.TheVariants as at
use Rattle.lwp_types.specs.Agents.{deliver, is_event_armed}
use Rattle.lwp_types.specs.Case.{Case}
use Rattle.lwp_types.specs.Choice.{choice}
use Rattle.lwp_types.specs.Lawful.{Lawful}
use Rattle.lwp_types.specs.Messages.{is_to}
use Rattle.lwp_types.specs.Names.{Names, names_for_poll}
use Rattle.lwp_types.specs.Poll.{Polled}
use Rattle.lwp_types.specs.State.{Outcome, State, ThreadRow, is_id, is_thread, passes, thread_of}
use Rattle.lwp_types.specs.Step.{step}
use Rattle.lwp_types.specs.Unblock.{nonexist}
use Rattle.lwp_types.specs.declared.call.Answer.{Answer}
use Rattle.lwp_types.specs.declared.call.Call.{Call}
use Rattle.lwp_types.specs.declared.call.Effect.{Effect}
use Rattle.lwp_types.specs.declared.call.LwpErr.{LwpErr}
use Rattle.lwp_types.specs.declared.call.Answer.TheVariants as answer
use Rattle.lwp_types.specs.declared.call.Call.TheVariants as call
use Rattle.lwp_types.specs.declared.call.Effect.TheVariants as effect
use Rattle.lwp_types.specs.declared.call.LwpErr.TheVariants as error
use Rattle.lwp_types.specs.declared.rows.Block.TheVariants as block
use Rattle.pod_events.specs.Events.{EventOutcome, EventState, is_takeable, rites_event, take_event}
use Rattle.pod_events.specs.Rites.{after_first_report, after_rites, as_rites, report_text, reports_after}
use Rattle.pod_events.specs.Step.{event_step, event_step_by, event_step_if, with_rites}
use Rattle.pod_events.specs.Traps.{after_machine_step, after_trap_and_call}
use Rattle.pod_laws.proofs.Absent.{the_absent_are_refused}
use Rattle.pod_laws.proofs.Elements.{differ, false_of}
use Rattle.pod_laws.proofs.Refusals.{refused_step}
use Rattle.pod_runner.specs.Session.{Live, Move, Session, Setting, after_poll, after_settle, call_move, call_step, move, move_by, move_row, proc_of}
use Rattle.pod_runner.specs.Session.{row_of, take_move, take_step}
use Rattle.pod_runner.specs.declared.session.Row.{Row}
use Rattle.pod_runner.specs.declared.session.Took.{Took}
use Rattle.session_laws.proofs.Pods.{call_moved, take_moved}
use Rattle.std.proofs.Common.{Bool, List, None, Option, Some, [], ap, append-nil, arith, cond, count_by, eqb, false, inl, inr}
use Rattle.std.proofs.Common.{map, not, refl, subst, sym, true, ℕ, ◌++◌, ◌<◌, ◌∙◌, ◌∷◌, ◌≡◌, ◌⊎◌}
use Rattle.std.proofs.lemmas.Bool.{and_parts, eq-eqb, eqb-true}
use Rattle.std.specs.Prelude.{MatchBool, codes, is_some, option_map}

-- ---- who rests

module _ (st : State) (s : ℕ) (rests : sight st s ≡ at_rest) where
  rest_row : {A : Type 0} → ((row : ThreadRow) → thread_of st s ≡ Some row → row.block ≡ block.Not → A) → A
  rest_row {A = A} by = by_row (thread_of st s) refl (ap (λ (v : Sight). v.waits) rests)
    where
      by_row : (o : Option ThreadRow) → thread_of st s ≡ o → option_map (λ (row : ThreadRow). row.block) o ≡ Some block.Not → A
      by_row None e w = absurd (cc)
      by_row (Some row) e w = by row e (cc w)

  rest_lives : is_thread st s ≡ true
  rest_lives = rest_row (λ row e b. ap is_some e)

  rest_attends : attends st s ≡ true
  rest_attends = rest_row (λ row e b. ap (passes (λ (row : ThreadRow). is_attentive row.block)) e ∙ ap is_attentive b)

  rest_wrote : (v : ℕ) → open_letters st s v ≡ 0
  rest_wrote v = ap (λ (w : Sight). count_by (is_to v) w.letters) rests

  -- it isn't woken
  left_of : (Fits : Option ℕ → Answer → Type 0) (out : Outcome) → IsLeft s st out ⊎ IsWoken s Fits st out → IsLeft s st out
  left_of Fits out (inl left) = left
  left_of Fits out (inr woken) =
      let bad : Some block.Not ≡ Some (block.Receiving woken.from) = sym (ap (λ (v : Sight). v.waits) rests) ∙ woken.waited in
      absurd (cc)

-- ---- what it calls

reply_by : (body : SessionBody) (names : Names) (why : LwpErr) (place : SessionPlace) → place ≡ at.Send
    → (session_by body names (answer.Refused why) place).0 ≡ call.Reply body.agent (codes "down")
reply_by body names why at.Start e = absurd (cc)
reply_by body names why at.Agent e = absurd (cc)
reply_by body names why at.Recv e = absurd (cc)
reply_by body names why at.Send e = refl
reply_by body names why at.Reply e = absurd (cc)
reply_by body names why at.Bye e = absurd (cc)
reply_by body names why at.End e = absurd (cc)

says_down : (body : SessionBody) (names : Names) (why : LwpErr) → body.place ≡ at.Send
    → (session_next body names (answer.Refused why)).0 ≡ call.Reply body.agent (codes "down")
unfolding session_next
says_down body names why place = reply_by body names why body.place place

module _ {B : Type 0} (setting : Setting B) (s : ℕ) (c : Call) where
  -- who is gone has no turn
  gone_says : (moves : List (Option Took)) (session : Session B) → Lawful session.live.pod.state None → s < session.live.pod.state.births
      → is_thread session.live.pod.state s ≡ false → CanGoOn setting moves session → CallsNext setting s c session moves
  gone_says [] session was below gone can = tt
  gone_says (Some took ∷ moves) session was below gone can =
      let fades = moved_fades setting s session (Some took) in
      gone_says moves (take_step setting took session) (moved_lawful setting session (Some took) can.0 was) (omega (arith, below, fades.births))
      (fades.threads below gone) can.1
  gone_says (None ∷ moves) session was below gone can = by_choice (choice session.live.pod.state) refl
      (gone_says moves (call_step setting session) (moved_lawful setting session None can.0 was)
      (omega (arith, below, (moved_fades setting s session None).births)) ((moved_fades setting s session None).threads below gone) can.1)
    where
      by_choice : (o : Option ℕ) → choice session.live.pod.state ≡ o → CallsNext setting s c (call_step setting session) moves
          → MatchBool (passes (λ t. eqb t s) o) ((move setting.next setting.bodies session.live).effects ≡ (event_step session.live.pod c).effects)
          (CallsNext setting s c (call_step setting session) moves)
      by_choice None is rest = rest
      by_choice (Some t) is rest = by_same (eqb t s) refl
        where
          by_same : (b : Bool) → eqb t s ≡ b
              → MatchBool b ((move setting.next setting.bodies session.live).effects ≡ (event_step session.live.pod c).effects)
              (CallsNext setting s c (call_step setting session) moves)
          by_same true e = differ (sym (chosen_lives session.live.pod.state was t is) ∙ ap (is_thread session.live.pod.state) (eqb-true t s e) ∙ gone)
          by_same false e = rest

-- ---- a step

-- it rests still, and is polled with the same
record Stays {B : Type 0} (s : ℕ) (b : B) (heard : Answer) (live : Live B) : Type 0 where
  row : IsPolledWith s live.rows b heard
  rests : sight live.pod.state s ≡ at_rest

module _ {B : Type 0} (setting : Setting B) (s : ℕ) (b : B) (heard : Answer) where
  take_stays : (live : Live B) → Lawful live.pod.state None → Stays s b heard live → (took : Took)
      → is_takeable live.pod took.event ≡ true → Stays s b heard (take_move setting.bodies took live).live
  unfolding take_move
  take_stays live was its took may =
      let st = live.pod.state in
      let out = take_event live.pod took.event took.line.text in
      let left = left_of st s its.rests _ (machine_of out) (takes_leave_it live.pod was s (rest_attends st s its.rests)
      (rests_untimed st was s its.rests) took.event took.line.text) in
      let rests = left.same ∙ its.rests in
      record {
        row = subst (IsPolledWith s (after_settle setting.bodies None out.effects live.rows) b) (ap (last_heard heard) left.quiet)
            (settled_with s setting.bodies None out.effects live.rows b heard its.row
            (alive_then st out.after.state out.effects (take_moved live.pod was took.event took.line.text may) s (rest_lives out.after.state s rests)));
        rests = rests;
      }

  -- a call of another, after which it lives
  other_stays : (live : Live B) → Lawful live.pod.state None → Stays s b heard live → (t : ℕ) → choice live.pod.state ≡ Some t → eqb t s ≡ false
      → (o : Option (Row B)) → is_thread (move_row setting.next setting.bodies live t o).live.pod.state s ≡ true
      → Stays s b heard (move_row setting.next setting.bodies live t o).live
  unfolding call_move
  other_stays live was its t turn other None lives = its
  other_stays live was its t turn other (Some row) lives =
      let st = live.pod.state in
      let reply = setting.next row.body (names_for_poll t live.names) row.answer in
      let out = event_step live.pod reply.0 in
      let left = left_of st s its.rests _ (machine_of out) (living_is_left live.pod was t s turn other (rest_attends st s its.rests)
      (rests_untimed st was s its.rests) (rest_wrote st s its.rests) reply.0 lives) in
      record {
        row = subst (IsPolledWith s (after_settle setting.bodies (proc_of reply.0) out.effects (after_poll t reply.1 reply.0 live.rows)) b)
            (ap (last_heard heard) left.quiet)
            (settled_with s setting.bodies (proc_of reply.0) out.effects (after_poll t reply.1 reply.0 live.rows) b heard
            (polled_other s t other reply.1 reply.0 live.rows ∙ its.row)
            (alive_then st out.after.state out.effects (call_moved live.pod was reply.0) s lives));
        rests = left.same ∙ its.rests;
      }

  call_is : (live : Live B) (t : ℕ) → choice live.pod.state ≡ Some t
      → move setting.next setting.bodies live ≡ move_row setting.next setting.bodies live t (row_of t live.rows)
  unfolding move
  call_is live t turn = ap (move_by setting.next setting.bodies live) turn

  -- its own call
  own_effects : (live : Live B) (c : Call) → ((names : Names) → (setting.next b names heard).0 ≡ c) → IsPolledWith s live.rows b heard
      → (move_row setting.next setting.bodies live s (row_of s live.rows)).effects ≡ (event_step live.pod c).effects
  unfolding call_move
  own_effects live c calls row =
      let w = row_with s b heard (row_of s live.rows) row in
      ap (λ o. (move_row setting.next setting.bodies live s o).effects) w.found
      ∙ ap (λ (p : B × Answer). (event_step live.pod (setting.next p.0 (names_for_poll s live.names) p.1).0).effects) w.pair
      ∙ ap (λ d. (event_step live.pod d).effects) (calls (names_for_poll s live.names))

  module _ (c : Call) (calls : (names : Names) → (setting.next b names heard).0 ≡ c) where
    says_next : (moves : List (Option Took)) (session : Session B) → Lawful session.live.pod.state None → Stays s b heard session.live
        → CanGoOn setting moves session → CallsNext setting s c session moves
    says_next [] session was its can = tt
    says_next (Some took ∷ moves) session was its can =
        says_next moves (take_step setting took session) (moved_lawful setting session (Some took) can.0 was)
        (take_stays session.live was its took can.0) can.1
    says_next (None ∷ moves) session was its can = by_choice (choice session.live.pod.state) refl (λ stays. says_next moves after lawful stays can.1)
      where
        after : Session B
        after = call_step setting session

        lawful : Lawful after.live.pod.state None
        lawful = moved_lawful setting session None can.0 was

        below : s < session.live.pod.state.births
        below = born_below session.live.pod.state was s (rest_lives session.live.pod.state s its.rests)

        Goal : Bool → Type 0
        Goal d = MatchBool d ((move setting.next setting.bodies session.live).effects ≡ (event_step session.live.pod c).effects)
            (CallsNext setting s c after moves)

        by_choice : (o : Option ℕ) → choice session.live.pod.state ≡ o → (Stays s b heard after.live → CallsNext setting s c after moves)
            → Goal (passes (λ t. eqb t s) o)
        by_choice None is rest = differ (sym (and_parts (not session.live.pod.state.ended) (is_some (choice session.live.pod.state)) can.0).1 ∙ ap is_some is)
        by_choice (Some t) is rest = by_same (eqb t s) refl
          where
            whole : move setting.next setting.bodies session.live ≡ move_row setting.next setting.bodies session.live t (row_of t session.live.rows)
            whole = call_is session.live t is

            by_lives : eqb t s ≡ false → (d : Bool) → is_thread after.live.pod.state s ≡ d → CallsNext setting s c after moves
            by_lives e true lives = rest (subst (λ (m : Move B). Stays s b heard m.live) (sym whole)
                (other_stays session.live was its t is e (row_of t session.live.rows)
                (ap (λ (m : Move B). is_thread m.live.pod.state s) (sym whole) ∙ lives)))
            by_lives e false gone = gone_says setting s c moves after lawful (omega (arith, below, (moved_fades setting s session None).births)) gone can.1

            by_same : (d : Bool) → eqb t s ≡ d → Goal d
            by_same true e = ap (λ (m : Move B). m.effects) whole
                ∙ ap (λ n. (move_row setting.next setting.bodies session.live n (row_of n session.live.rows)).effects) (eqb-true t s e)
                ∙ own_effects session.live c calls its.row
            by_same false e = by_lives e (is_thread after.live.pod.state s) refl

pub refused_sessions_say_down : (B : Type 0) → RefusedSessionsSayDown B
refused_sessions_say_down B setting server s body why place live was row rests moves can =
    says_next setting s (server.serving body) (answer.Refused why) (call.Reply body.agent (codes "down"))
    (λ names. ap (λ (r : Polled B). r.0) (server.serves body names (answer.Refused why)) ∙ says_down body names why place)
    moves (session_from live) was (record { row = row; rests = rests }) can

-- ---- a letter to who isn't there

-- a report tells who rests nothing
said_rests : (st : State) → Lawful st None → (s : ℕ) → sight st s ≡ at_rest → (es : List Effect) (reports : List ℕ)
    → (sight (after_rites st es reports).state s ≡ at_rest) × (answers_to s (after_rites st es reports).effects ≡ answers_to s es)
said_rests st was s rests es reports = by_armed (is_event_armed st rites_event) reports
  where
    reported : (dead : ℕ) → (sight (deliver st rites_event (report_text dead)).after s ≡ at_rest)
        × (answers_to s (es ++ map (as_rites dead) (deliver st rites_event (report_text dead)).effects) ≡ answers_to s es)
    reported dead =
        let out = deliver st rites_event (report_text dead) in
        let left = left_of st s rests _ out (deliveries_leave_it st was s (rest_attends st s rests) (rests_untimed st was s rests) rites_event
        (report_text dead)) in (
          left.same ∙ rests,
          answers_append s es (map (as_rites dead) out.effects)
              ∙ ap (λ xs. answers_to s es ++ xs) (rites_same s dead out.effects ∙ left.quiet)
              ∙ append-nil (answers_to s es),
        )

    by_armed : (b : Bool) (rs : List ℕ)
        → (sight (cond b (after_first_report st es rs) (record { state = st; reports = rs; effects = es })).state s ≡ at_rest)
        × (answers_to s (cond b (after_first_report st es rs) (record { state = st; reports = rs; effects = es })).effects ≡ answers_to s es)
    by_armed true [] = (rests, refl)
    by_armed true (dead ∷ later) = reported dead
    by_armed false rs = (rests, refl)

-- a call of it that is refused
refused_send : (st : State) (s k room : ℕ) (text : List ℕ) → choice st ≡ Some s → st.ended ≡ false → is_id st k ≡ false
    → step st (call.Send k room text)
    ≡ record { after = st; effects = effect.Called s (call.Send k room text) ∷ effect.Answered s nonexist ∷ [] }
refused_send st s k room text turn ended gone = refused_step st s turn ended (call.Send k room text) error.NonExist
    (ap (λ (made : Case). made.own) (the_absent_are_refused st s k gone (call.Send k room text) (eq-eqb k k refl)))

-- without a trap a letter is the machine's step, and then the report
send_is : (es : EventState) (s k room : ℕ) (text : List ℕ) → choice es.state ≡ Some s → es.pending ≡ None
    → event_step es (call.Send k room text) ≡ with_rites es (after_machine_step es.trapped (step es.state (call.Send k room text)))
unfolding event_step event_step_by
send_is es s k room text turn free = ap (event_step_if es (call.Send k room text)) turn
    ∙ ap (λ o. with_rites es (after_trap_and_call es.state es.trapped s (call.Send k room text) o)) free

refusal_told : (s : ℕ) (c : Call) → answers_to s (effect.Called s c ∷ effect.Answered s nonexist ∷ []) ≡ nonexist ∷ []
refusal_told s c = rw (eq-eqb s s refl) refl

record Refused (s : ℕ) (out : EventOutcome) : Type 0 where
  rests : sight out.after.state s ≡ at_rest
  told : answers_to s out.effects ≡ nonexist ∷ []

send_refused : (es : EventState) → Lawful es.state None → (s k room : ℕ) (text : List ℕ) → choice es.state ≡ Some s → es.pending ≡ None
    → es.state.ended ≡ false → is_id es.state k ≡ false → sight es.state s ≡ at_rest → Refused s (event_step es (call.Send k room text))
send_refused es was s k room text turn free ended gone rests =
    let c = call.Send k room text in
    let told = effect.Called s c ∷ effect.Answered s nonexist ∷ [] in
    let said = said_rests es.state was s rests told (reports_after es.state es.state es.reports told) in
    subst (Refused s)
    (sym (send_is es s k room text turn free
    ∙ ap (λ (out : Outcome). with_rites es (after_machine_step es.trapped out)) (refused_send es.state s k room text turn ended gone)))
    (record { rests = said.0; told = said.1 ∙ refusal_told s c })

module _ {B : Type 0} (setting : Setting B) (s : ℕ) (live : Live B) (was : Lawful live.pod.state None) (b : B) (heard : Answer)
    (row : IsPolledWith s live.rows b heard) where
  own_call : (reply : Polled B) → Refused s (event_step live.pod reply.0) → IsRefusedAt s reply.1 (call_move setting.bodies live s reply).live
  unfolding call_move
  own_call reply refused =
      let out = event_step live.pod reply.0 in
      record {
        row = subst (IsPolledWith s (after_settle setting.bodies (proc_of reply.0) out.effects (after_poll s reply.1 reply.0 live.rows)) reply.1)
            (ap (last_heard heard) refused.told)
            (settled_with s setting.bodies (proc_of reply.0) out.effects (after_poll s reply.1 reply.0 live.rows) reply.1 heard
            (polled_own s reply.1 reply.0 live.rows b heard row)
            (alive_then live.pod.state out.after.state out.effects (call_moved live.pod was reply.0) s (rest_lives out.after.state s refused.rests)));
        rests = refused.rests;
      }

  row_call : (reply : Polled B) → setting.next b (names_for_poll s live.names) heard ≡ reply → Refused s (event_step live.pod reply.0)
      → IsRefusedAt s reply.1 (move_row setting.next setting.bodies live s (row_of s live.rows)).live
  row_call reply is refused =
      let w = row_with s b heard (row_of s live.rows) row in
      subst (λ (m : Move B). IsRefusedAt s reply.1 m.live)
      (sym (ap (move_row setting.next setting.bodies live s) w.found
      ∙ ap (λ (p : B × Answer). call_move setting.bodies live s (setting.next p.0 (names_for_poll s live.names) p.1)) w.pair
      ∙ ap (call_move setting.bodies live s) is))
      (own_call reply refused)

pub sends_to_the_gone_are_refused : (B : Type 0) → SendsToTheGoneAreRefused B
sends_to_the_gone_are_refused B setting server s k body heard live was free turn gone row rests room text calls can =
    let turn_taken = session_next body (names_for_poll s live.names) heard in
    let due = and_parts (not live.pod.state.ended) (is_some (choice live.pod.state)) can.0 in
    let refused : Refused s (event_step live.pod turn_taken.0) = subst (λ c. Refused s (event_step live.pod c)) (sym calls)
    (send_refused live.pod was s k room text turn free (false_of live.pod.state.ended due.0) gone rests) in
    subst (λ (m : Move B). IsRefusedAt s (server.serving turn_taken.1) m.live) (sym (call_is setting s (server.serving body) heard live s turn))
    (row_call setting s live was (server.serving body) heard row (turn_taken.0, server.serving turn_taken.1, turn_taken.2)
    (server.serves body (names_for_poll s live.names) heard) refused)
