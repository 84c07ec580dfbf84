-- A session whose agent is gone, or that is done: nothing more that it replies is accepted.
use Rattle.answer_laws.proofs.Dying.{destroyed_is_gone, gone_said, returned_is_gone}
use Rattle.answer_laws.proofs.Events.{rites_same}
use Rattle.answer_laws.proofs.OwnSteps.{done_by, event_is, made_plain, mute_but, mute_event, mute_rites, mute_unreplied, mute_whole, sprung_is}
use Rattle.answer_laws.proofs.Owners.{told_itself}
use Rattle.answer_laws.proofs.PodSteps.{tame_deliver}
use Rattle.answer_laws.proofs.SessionSteps.{told_any}
use Rattle.answer_laws.proofs.StoreSteps.{Checked, Checked.Free, Checked.Struck, checked}
use Rattle.answer_laws.specs.Clients.{replies_of_step, reply_to}
use Rattle.answer_laws.specs.Sights.{answers_to}
use Rattle.line_server.specs.Commands.{Command, command_of}
use Rattle.line_server.specs.Sessions.{SessionBody, session_at, session_by, session_turn_after_letter, session_receives}
use Rattle.line_server.specs.Sessions.{session_replies, session_returns, session_sends, session_turn_after_reply}
use Rattle.line_server.specs.Tables.{is_quit}
use Rattle.line_server.specs.Turns.{Turn, is_replied, stops}
use Rattle.line_server.specs.declared.session.SessionPlace.{SessionPlace}
use Rattle.line_server.specs.declared.session.SessionPlace.TheVariants as at
use Rattle.lwp_types.specs.Agents.{after_agent_birth, deliver, deliver_to, event_agents, is_event_armed, message}
use Rattle.lwp_types.specs.Case.{answer_case, is_at_limit, is_full, refusal_case}
use Rattle.lwp_types.specs.Choice.{choice}
use Rattle.lwp_types.specs.Lawful.{Lawful}
use Rattle.lwp_types.specs.Messages.{as_answer, as_received, takes_from, with_holding}
use Rattle.lwp_types.specs.Names.{Names}
use Rattle.lwp_types.specs.State.{Outcome, State, ThreadRow, and_then, for_each, is_thread, marks_in, passes, still, thread_of}
use Rattle.lwp_types.specs.Step.{case_of, end_effects, ends, step, step_by, step_if, step_outcome}
use Rattle.lwp_types.specs.Unblock.{unblock}
use Rattle.lwp_types.specs.declared.call.Answer.{Answer}
use Rattle.lwp_types.specs.declared.call.Call.{Call}
use Rattle.lwp_types.specs.declared.call.Effect.{Effect}
use Rattle.lwp_types.specs.Time.{tick}
use Rattle.lwp_types.specs.declared.rows.AgentRow.{AgentRow}
use Rattle.lwp_types.specs.declared.rows.Letter.{Letter}
use Rattle.pod_events.specs.Events.{EventState, rites_event}
use Rattle.pod_events.specs.Rites.{after_first_report, as_rites, report_text, reports_after, after_rites}
use Rattle.pod_events.specs.Step.{event_step}
use Rattle.pod_events.specs.Traps.{Trapping, after_call, after_machine_step, after_trap_and_call, but_call, is_catch, is_given, notice}
use Rattle.pod_laws.proofs.Absent.{the_absent_are_refused}
use Rattle.pod_laws.specs.Forgotten.{IsGone}
use Rattle.pod_laws.specs.Waiters.{is_told, is_zero}
use Rattle.std.proofs.Common.{Bool, List, None, Option, Some, [], ap, append-nil, cond, drop, eqb}
use Rattle.std.proofs.Common.{false, refl, subst, sym, true, ℕ, ◌&&◌, ◌++◌, ◌||◌, ◌∙◌, ◌∷◌, ◌≡◌}
use Rattle.std.proofs.lemmas.Bool.{eq-eqb}
use Rattle.std.proofs.lemmas.List.Folds.{list_any-append}
use Rattle.std.specs.List.{list_any}
use Rattle.std.specs.Prelude.{codes, map, nat_lt}
use Rattle.lwp_types.specs.declared.call.Answer.TheVariants as answer
use Rattle.lwp_types.specs.declared.call.Call.TheVariants as call
use Rattle.lwp_types.specs.declared.call.Effect.TheVariants as effect
use Rattle.lwp_types.specs.declared.call.LwpErr.TheVariants as error
use Rattle.lwp_types.specs.declared.rows.Mark.TheVariants as mark

-- ---- what a session does that is past asking for its agent

abbrev pub is_late : SessionPlace → Bool
is_late at.Start = false
is_late at.Agent = false
is_late at.Recv = true
is_late at.Send = true
is_late at.Reply = true
is_late at.Bye = true
is_late at.End = true

pub data LateCall (agent : ℕ) (c : Call) : Type 0 where
  RepliesNothing : ((b : ℕ) → reply_to b c ≡ []) → LateCall agent c
  RepliesTo : (text : List ℕ) → c ≡ call.Reply agent text → LateCall agent c

-- it keeps its agent, and replies to nobody else
pub record IsLate (agent : ℕ) (turn : Turn SessionBody) : Type 0 where
  pub agent_is : turn.1.agent ≡ agent
  pub late : is_late turn.1.place ≡ true
  pub calls : LateCall agent turn.0

module _ (body : SessionBody) (names : Names) (past : is_late body.place ≡ true) where
  late_stop : IsLate body.agent (stops body)
  late_stop = record { agent_is = refl; late = past; calls = RepliesNothing (λ b. refl) }

  late_receives : IsLate body.agent (session_receives body)
  late_receives = record { agent_is = refl; late = refl; calls = RepliesNothing (λ b. refl) }

  late_returns : IsLate body.agent (session_returns body)
  late_returns = record { agent_is = refl; late = refl; calls = RepliesNothing (λ b. refl) }

  late_replies : (text : List ℕ) → IsLate body.agent (session_replies body text)
  late_replies text = record { agent_is = refl; late = refl; calls = RepliesTo text refl }

  late_after : (b : Bool) (goes : Turn SessionBody) → IsLate body.agent goes → IsLate body.agent (cond b goes (stops body))
  late_after true goes h = h
  late_after false goes h = late_stop

  late_sends : (text : List ℕ) (o : Option Command) → IsLate body.agent (session_sends body names text o)
  late_sends text None = late_replies (codes "bad")
  late_sends text (Some c) = record { agent_is = refl; late = refl; calls = RepliesNothing (λ b. refl) }

  late_reads : (text : List ℕ) (b : Bool)
      → IsLate body.agent (cond b (call.Reply body.agent (codes "bye"), session_at body at.Bye) (session_sends body names text (command_of text)))
  late_reads text true = record { agent_is = refl; late = refl; calls = RepliesTo (codes "bye") refl }
  late_reads text false = late_sends text (command_of text)

  late_received : (x : Answer) → IsLate body.agent (session_turn_after_letter body names x)
  late_received (answer.Letter from text room) = late_reads text (is_quit text)
  late_received (answer.Refused e) = late_returns
  late_received (answer.Thread b) = late_stop
  late_received (answer.Value v) = late_stop
  late_received (answer.Monitor t) = late_stop
  late_received (answer.Cond t) = late_stop
  late_received (answer.Reply text) = late_stop
  late_received (answer.Bound f arg) = late_stop
  late_received (answer.Caught d m p) = late_stop
  late_received (answer.Ids n ns) = late_stop

  late_told : (x : Answer) → IsLate body.agent (session_turn_after_reply body x)
  late_told (answer.Reply text) = late_replies text
  late_told (answer.Refused e) = late_replies (codes "down")
  late_told (answer.Letter from text room) = late_stop
  late_told (answer.Thread b) = late_stop
  late_told (answer.Value v) = late_stop
  late_told (answer.Monitor t) = late_stop
  late_told (answer.Cond t) = late_stop
  late_told (answer.Bound f arg) = late_stop
  late_told (answer.Caught d m p) = late_stop
  late_told (answer.Ids n ns) = late_stop

  pub late_by : (x : Answer) (p : SessionPlace) → is_late p ≡ true → IsLate body.agent (session_by body names x p)
  late_by x at.Start h = absurd (cc)
  late_by x at.Agent h = absurd (cc)
  late_by x at.Recv h = late_received x
  late_by x at.Send h = late_told x
  late_by x at.Reply h = late_after (is_replied x) (session_receives body) late_receives
  late_by x at.Bye h = late_after (is_replied x) (session_returns body) late_returns
  late_by x at.End h = late_stop

-- ---- a report says no zero

and_never : (b : Bool) → (b && false) ≡ false
and_never true = refl
and_never false = refl

no_zero_deliver : (s : ℕ) (st : State) (e : ℕ) (text : List ℕ) → eqb e 0 ≡ false → list_any (is_told s is_zero) (deliver st e text).effects ≡ false
unfolding deliver for_each and_then
no_zero_deliver s st e text other = by_clock (eqb e 0) other
  where
    by_handed : (letter : Letter) (b : Bool) (st : State)
        → list_any (is_told s is_zero) (cond b (unblock (as_answer letter) letter.to
        (record st { letters = st.letters ++ as_received letter ∷ [] })) (still (record st { letters = st.letters ++ letter ∷ [] }))).effects
        ≡ false
    by_handed letter true st = ap (λ b. b || false) (and_never (eqb letter.to s))
    by_handed letter false st = refl

    one : (row : AgentRow) (st : State) → list_any (is_told s is_zero) (deliver_to text row st).effects ≡ false
    one row st = by_handed (message text row) (passes (λ (other : ThreadRow). takes_from row.number other.block) (thread_of st row.owner))
        (record st { agents = with_holding row.number true st.agents })

    each : (rows : List AgentRow) (st : State) → list_any (is_told s is_zero) (for_each (deliver_to text) rows st).effects ≡ false
    each [] st = refl
    each (row ∷ rows) st = list_any-append (is_told s is_zero) (deliver_to text row st).effects
        (for_each (deliver_to text) rows (deliver_to text row st).after).effects
        ∙ (λ i. one row st i || each rows (deliver_to text row st).after i)

    by_clock : (b : Bool) → b ≡ false
        → list_any (is_told s is_zero) (cond b (tick st) (for_each (deliver_to text) (event_agents st.agents e) st)).effects ≡ false
    by_clock true f = absurd (cc)
    by_clock false f = each (event_agents st.agents e) st

no_zero_said : (s dead : ℕ) (after : State) → list_any (is_told s is_zero) (map (as_rites dead) (deliver after rites_event (report_text dead)).effects) ≡ false
no_zero_said s dead after = told_any s (map (as_rites dead) (deliver after rites_event (report_text dead)).effects)
    ∙ ap (list_any is_zero) (rites_same s dead (deliver after rites_event (report_text dead)).effects)
    ∙ sym (told_any s (deliver after rites_event (report_text dead)).effects) ∙ no_zero_deliver s after rites_event (report_text dead) refl

-- ---- a reply to an agent that is gone

module _ (s b : ℕ) where
  -- whatever is told after these effects, but no zero for s, a reply of s isn't among them
  abbrev Unheard : List Effect → Type 0
  Unheard es = (ys : List Effect) → list_any (is_told s is_zero) ys ≡ false → replies_of_step s b ys ≡ [] → replies_of_step s b (es ++ ys) ≡ []

  unheard_said : (after : State) (es : List Effect) (reports : List ℕ) → Unheard es → replies_of_step s b (after_rites after es reports).effects ≡ []
  unheard_said after es reports quiet = by_armed (is_event_armed after rites_event) reports
    where
      alone : replies_of_step s b es ≡ []
      alone = ap (replies_of_step s b) (sym (append-nil es)) ∙ quiet [] refl refl

      by_armed : (d : Bool) (rs : List ℕ)
          → replies_of_step s b (cond d (after_first_report after es rs) (record { state = after; reports = rs; effects = es })).effects ≡ []
      by_armed true [] = alone
      by_armed false rs = alone
      by_armed true (dead ∷ later) = quiet (map (as_rites dead) (deliver after rites_event (report_text dead)).effects) (no_zero_said s dead after)
          (mute_whole s b (map (as_rites dead) (deliver after rites_event (report_text dead)).effects)
          (mute_rites s b dead (deliver after rites_event (report_text dead)).effects (tame_deliver after rites_event (report_text dead))))

  module _ (es : EventState) (turn : choice es.state ≡ Some s) (a : ℕ) (gone : IsGone es.state a) (text : List ℕ) where
    abbrev reply : Call
    reply = call.Reply a text

    step_is : step es.state reply ≡ step_outcome s reply (refusal_case es.state error.NonExist)
    unfolding step step_by
    step_is = ap (step_if es.state reply) turn ∙ ap (step_outcome s reply) (the_absent_are_refused es.state s a gone.dead reply (eq-eqb a a refl))

    refused_unheard : Unheard (step es.state reply).effects
    refused_unheard ys none quiet = ap (λ (out : Outcome). replies_of_step s b (out.effects ++ ys)) step_is
        ∙ ap (λ d. cond (eqb s s && d) (reply_to b reply) []) rest ∙ by_never (eqb s s)
      where
        by_never : (d : Bool) → cond (d && false) (reply_to b reply) [] ≡ []
        by_never true = refl
        by_never false = refl

        by_end : (d : Bool) → list_any (is_told s is_zero) (cond d (effect.Ended es.state.status ∷ []) [] ++ ys) ≡ false
        by_end true = none
        by_end false = none

        rest : list_any (is_told s is_zero) ((effect.Answered s (answer.Refused error.NonExist) ∷ end_effects es.state) ++ ys) ≡ false
        rest = (λ i. and_never (eqb s s) i || by_end (ends es.state) i)

    reply_unheard : replies_of_step s b (event_step es reply).effects ≡ []
    reply_unheard = ap (λ (out : Outcome). replies_of_step s b out.effects) (event_is es s reply turn) ∙ by_pending es.pending
      where
        said : (out : Trapping) → Unheard out.effects → replies_of_step s b (done_by es out).effects ≡ []
        said out quiet = unheard_said out.state out.effects (reports_after es.state out.state es.reports out.effects) quiet

        by_given : (e : ℕ) (g d : Bool)
            → Unheard (effect.Trapped s e
            ∷ (cond g (after_call es.state es.trapped s reply) (cond d (after_machine_step es.trapped
            (but_call (step es.state (call.ExcNotify e)))) (after_machine_step es.trapped (but_call (step es.state (call.Destroy s)))))).effects)
        by_given e true d ys none quiet = ap (λ (out : Trapping). replies_of_step s b (out.effects ++ ys)) (made_plain es.state es.trapped s reply refl refl)
            ∙ refused_unheard ys none quiet
        by_given e false true ys none quiet = mute_but s b es.state (call.ExcNotify e) ys quiet
        by_given e false false ys none quiet = mute_but s b es.state (call.Destroy s) ys quiet

        by_pending : (p : Option ℕ) → replies_of_step s b (done_by es (after_trap_and_call es.state es.trapped s reply p)).effects ≡ []
        by_pending None = said (after_call es.state es.trapped s reply)
            (λ ys none quiet. ap (λ (out : Trapping). replies_of_step s b (out.effects ++ ys)) (made_plain es.state es.trapped s reply refl refl)
            ∙ refused_unheard ys none quiet)
        by_pending (Some e) = said (after_trap_and_call es.state es.trapped s reply (Some e))
            (by_given e (passes is_given (notice es.state s e)) (passes is_catch (notice es.state s e)))

  -- no call of a session that is late is heard, if its agent is gone
  pub late_unheard : (es : EventState) → choice es.state ≡ Some s → (a : ℕ) → IsGone es.state a → (c : Call) → LateCall a c
      → replies_of_step s b (event_step es c).effects ≡ []
  late_unheard es turn a gone c (RepliesNothing none) = mute_event s b es s c turn (mute_unreplied s b c (none b))
  late_unheard es turn a gone c (RepliesTo text is) = ap (λ c. replies_of_step s b (event_step es c).effects) is ∙ reply_unheard es turn a gone text

-- ---- the end of a session

-- who has one frame and returns is gone
pub returns_end : (s : ℕ) (es : EventState) → Lawful es.state None → choice es.state ≡ Some s → marks_in es.state s ≡ mark.Frame ∷ []
    → is_thread es.state s ≡ true → IsGone (event_step es call.Return).after.state s
returns_end s es was turn marks lives = subst (λ (out : Outcome). IsGone out.after s) (sym (event_is es s call.Return turn)) (by_pending es.pending)
  where
    said : (out : Trapping) → IsGone out.state s → IsGone (done_by es out).after s
    said out gone = gone_said s out.state out.effects (reports_after es.state out.state es.reports out.effects) gone

    by_pending : (p : Option ℕ) → IsGone (done_by es (after_trap_and_call es.state es.trapped s call.Return p)).after s
    by_pending None = subst (λ (out : Trapping). IsGone (done_by es out).after s) (sym (made_plain es.state es.trapped s call.Return refl refl)) (said
        (after_machine_step es.trapped (step es.state call.Return)) (returned_is_gone es.state was s turn marks))
    by_pending (Some e) = subst (λ (out : Trapping). IsGone (done_by es out).after s) (sym (sprung_is es.state es.trapped s call.Return e marks))
        (said
        (record {
          state = (step es.state (call.Destroy s)).after;
          trapped = es.trapped;
          effects = effect.Trapped s e ∷ drop 1 (step es.state (call.Destroy s)).effects;
        })
        (destroyed_is_gone es.state was s s turn lives))

-- who asks for an agent is answered the next number, if any
pub agent_given : (s : ℕ) (st : State) → choice st ≡ Some s → (e b : ℕ) → answers_to s (step st (call.Agent e)).effects ≡ answer.Thread b ∷ [] → b ≡ st.births
unfolding step step_by
agent_given s st turn e b told = by_checks (checked st _ _)
  where
    ask : Call
    ask = call.Agent e

    told_so : answers_to s (step_outcome s ask (case_of st s ask)).effects ≡ answer.Thread b ∷ []
    told_so = sym (ap (λ o. answers_to s (step_if st ask o).effects) turn) ∙ told

    by_checks : Checked st (((eqb e 0) || nat_lt 32 e, error.InvalidArg) ∷ is_full 256 st.agents ∷ is_at_limit st.births st ∷ [])
        (answer_case (after_agent_birth st s e) (answer.Thread st.births))
        → b ≡ st.births
    by_checks (Struck why is) = absurd (let bad : answer.Refused why ∷ []
        ≡ answer.Thread b ∷ [] = sym (ap (λ made. answers_to s (step_outcome s ask made).effects) is ∙ told_itself s ask (refusal_case st why)) ∙ told_so in
        cc)
    by_checks (Free passed is) = let same : answer.Thread st.births ∷ []
        ≡ answer.Thread b
        ∷ [] = sym (ap (λ made. answers_to s (step_outcome s ask made).effects) is
        ∙ told_itself s ask (answer_case (after_agent_birth st s e) (answer.Thread st.births)))
        ∙ told_so in
        cc
