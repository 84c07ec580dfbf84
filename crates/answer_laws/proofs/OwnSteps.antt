-- What the two of a talk call themselves, in a pod with its own events.
use Rattle.answer_laws.proofs.Dying.{gone_said, gone_thread, no_notice, returned_is_gone, destroyed_is_gone}
use Rattle.answer_laws.proofs.Others.{deliveries_leave_it}
use Rattle.answer_laws.proofs.PodSteps.{becomes_said, births_said, rests_said, step_texts, tame_deliver}
use Rattle.answer_laws.proofs.SessionSteps.{hears_no_mail, sessions_calls_are_events, told_any}
use Rattle.answer_laws.proofs.Events.{rites_same}
use Rattle.answer_laws.proofs.StoreSteps.{StoreDoes, StoreDoes.DoesReceive, StoreDoes.DoesReply, StoreDoes.DoesStop, does_by, stores_calls_are_events}
use Rattle.answer_laws.proofs.TalkSteps.{attends_seen, attentive}
use Rattle.answer_laws.specs.Clients.{replies_of_step, reply_to, sends_well}
use Rattle.answer_laws.specs.Events.{machine_of}
use Rattle.answer_laws.specs.Owns.{OthersReplyNothing, PodsSessionsCallsAreEvents, PodsStoresCallsAreEvents, SessionComes}
use Rattle.answer_laws.specs.Owns.{SessionComes.GoesOn, SessionComes.IsTurnedAway, SessionComes.Dies}
use Rattle.answer_laws.specs.Sights.{IsDelivered, IsLeft, IsWoken, Sight, answers_to, is_attentive, sight}
use Rattle.answer_laws.specs.Stands.{Becomes, OpensInVain, block_of, goes_on_with, is_posted, is_short_reply, is_short_to, mail_letters, texts_in}
use Rattle.answer_laws.specs.Talks.{Mail.Received, after_events}
use Rattle.line_server.specs.Commands.{Command, command_of}
use Rattle.line_server.specs.Sessions.{SessionBody, session_by, session_next, session_at, session_turn_after_agent, session_turn_after_letter}
use Rattle.line_server.specs.Sessions.{session_receives, session_returns, session_sends, session_turn_after_reply}
use Rattle.line_server.specs.Stores.{StoreBody, store_by, store_next}
use Rattle.line_server.specs.Tables.{is_quit}
use Rattle.line_server.specs.Turns.{Turn, is_replied, stops}
use Rattle.line_server.specs.declared.session.SessionPlace.{SessionPlace}
use Rattle.line_server.specs.declared.session.SessionPlace.TheVariants as at
use Rattle.lwp_types.specs.Agents.{deliver, is_event_armed}
use Rattle.lwp_types.specs.Choice.{choice}
use Rattle.lwp_types.specs.Counts.{timers_of}
use Rattle.lwp_types.specs.Lawful.{Lawful}
use Rattle.lwp_types.specs.Names.{Names}
use Rattle.lwp_types.specs.State.{Outcome, State, ThreadRow, is_thread, marks_in, passes, thread_of}
use Rattle.lwp_types.specs.Step.{case_of, end_effects, ends, own_effects, step, step_by, step_if}
use Rattle.lwp_types.specs.Unblock.{nonexist, zero_answer}
use Rattle.lwp_types.specs.declared.call.Answer.{Answer}
use Rattle.lwp_types.specs.declared.call.Call.{Call}
use Rattle.lwp_types.specs.declared.call.Effect.{Effect}
use Rattle.lwp_types.specs.declared.call.LwpErr.{LwpErr}
use Rattle.lwp_types.specs.declared.rows.Block.{Block}
use Rattle.pod_events.proofs.MildCalls.{case_toll, is_tame}
use Rattle.pod_events.specs.Events.{EventState, after_pass_on, after_take_trap, is_trapped, rites_event, take_event}
use Rattle.pod_events.specs.Rites.{after_first_report, as_rites, report_text, reports_after, after_rites}
use Rattle.pod_events.specs.Step.{event_step, event_step_by, event_step_if}
use Rattle.pod_events.specs.Traps.{Trapping, after_call, after_call_as, after_machine_step, after_trap, after_trap_and_call, agent_event_of}
use Rattle.pod_events.specs.Traps.{but_call, is_catch, is_given, notice, after_refusal, trap_of, trap_refusal}
use Rattle.pod_laws.proofs.Elements.{differ}
use Rattle.pod_laws.proofs.EveryStep.{Lawful-step}
use Rattle.pod_laws.specs.Forgotten.{IsGone}
use Rattle.pod_laws.specs.Waiters.{is_told, is_zero}
use Rattle.std.proofs.Common.{Bool, List, None, Option, Some, [], ap, append-nil, append_assoc, arith, cond, drop, eqb}
use Rattle.std.proofs.Common.{false, inl, inr, refl, subst, sym, true, ℕ, ◌&&◌, ◌++◌, ◌∙◌, ◌∷◌, ◌≡◌, ◌≤◌, ◌||◌, ◌⊎◌}
use Rattle.std.proofs.lemmas.Bool.{eq-eqb}
use Rattle.std.specs.List.{list_all, list_any}
use Rattle.std.specs.Prelude.{codes, is_some, map, option_map}
use Rattle.lwp_types.specs.declared.call.Answer.TheVariants as answer
use Rattle.lwp_types.specs.declared.call.Call.TheVariants as call
use Rattle.lwp_types.specs.declared.call.Effect.TheVariants as effect
use Rattle.lwp_types.specs.declared.call.LwpErr.TheVariants as error
use Rattle.lwp_types.specs.declared.rows.Block.TheVariants as block
use Rattle.lwp_types.specs.declared.rows.Mark.TheVariants as mark

-- the machine after a call, with the report after it
abbrev pub done_by : EventState → Trapping → Outcome
done_by es out = let said = after_rites out.state out.effects (reports_after es.state out.state es.reports out.effects) in record {
  after = said.state;
  effects = said.effects;
}

pub event_is : (es : EventState) (t : ℕ) (c : Call) → choice es.state ≡ Some t
    → machine_of (event_step es c) ≡ done_by es (after_trap_and_call es.state es.trapped t c es.pending)
unfolding event_step event_step_by
event_is es t c turn = ap (λ o. machine_of (event_step_if es c o)) turn

-- ---- replies

module _ (s a : ℕ) where
  -- whatever is told after these effects, a reply of s isn't among them
  abbrev pub Mute : List Effect → Type 0
  Mute es = (ys : List Effect) → replies_of_step s a ys ≡ [] → replies_of_step s a (es ++ ys) ≡ []

  pub mute_then : (xs ys : List Effect) → Mute xs → Mute ys → Mute (xs ++ ys)
  mute_then xs ys one two zs none = ap (replies_of_step s a) (append_assoc xs ys zs) ∙ one (ys ++ zs) (two zs none)

  pub mute_whole : (es : List Effect) → Mute es → replies_of_step s a es ≡ []
  mute_whole es mute = ap (replies_of_step s a) (sym (append-nil es)) ∙ mute [] refl

  mute_tame : (es : List Effect) → list_all is_tame es ≡ true → Mute es
  mute_tame [] tame ys none = none
  mute_tame (effect.Called t c ∷ es) tame ys none = absurd (cc)
  mute_tame (effect.Answered t x ∷ es) tame ys none = refl
  mute_tame (effect.Exited t reg c x ∷ es) tame ys none = refl
  mute_tame (effect.Died t ∷ es) tame ys none = refl
  mute_tame (effect.Delivered b e ∷ es) tame ys none = refl
  mute_tame (effect.Ticked now ∷ es) tame ys none = refl
  mute_tame (effect.Ended status ∷ es) tame ys none = absurd (cc)
  mute_tame (effect.Trapped t e ∷ es) tame ys none = absurd (cc)
  mute_tame (effect.Rites b d ∷ es) tame ys none = absurd (cc)

  pub mute_rites : (dead : ℕ) (es : List Effect) → list_all is_tame es ≡ true → Mute (map (as_rites dead) es)
  mute_rites dead [] tame ys none = none
  mute_rites dead (effect.Called t c ∷ es) tame ys none = absurd (cc)
  mute_rites dead (effect.Answered t x ∷ es) tame ys none = refl
  mute_rites dead (effect.Exited t reg c x ∷ es) tame ys none = refl
  mute_rites dead (effect.Died t ∷ es) tame ys none = refl
  mute_rites dead (effect.Delivered b e ∷ es) tame ys none = refl
  mute_rites dead (effect.Ticked now ∷ es) tame ys none = refl
  mute_rites dead (effect.Ended status ∷ es) tame ys none = absurd (cc)
  mute_rites dead (effect.Trapped t e ∷ es) tame ys none = absurd (cc)
  mute_rites dead (effect.Rites b d ∷ es) tame ys none = absurd (cc)

  -- without its call a step tells of none
  pub mute_but : (st : State) (c : Call) → Mute (drop 1 (step st c).effects)
  unfolding step step_by
  mute_but st c = by_choice (choice st)
    where
      own_mute : (t : ℕ) (o : Option Answer) → Mute (own_effects t o)
      own_mute t None ys none = none
      own_mute t (Some x) ys none = refl

      end_mute : (st : State) (b : Bool) → Mute (cond b (effect.Ended st.status ∷ []) [])
      end_mute st true ys none = refl
      end_mute st false ys none = none

      by_choice : (o : Option ℕ) → Mute (drop 1 (step_if st c o).effects)
      by_choice None = λ ys none. none
      by_choice (Some t) =
          let made = case_of st t c in
          mute_then made.others (own_effects t made.own ++ end_effects made.after) (mute_tame made.others (case_toll st t c).tame)
          (mute_then (own_effects t made.own) (end_effects made.after) (own_mute t made.own) (end_mute made.after (ends made.after)))

  -- a call that is no reply of s to a, whatever is told after it
  module _ (t : ℕ) (c : Call) (none : (es : List Effect) → Mute (effect.Called t c ∷ es)) where
    mute_step : (st : State) → choice st ≡ Some t → Mute (step st c).effects
    unfolding step step_by
    mute_step st turn = subst (λ o. Mute (step_if st c o).effects) (sym turn) (none (drop 1 (step_by st t c).effects))

    mute_made : (st : State) (trapped : List Bool) → choice st ≡ Some t → Mute (after_call st trapped t c).effects
    mute_made st trapped turn = by_trap (trap_of c)
      where
        by_refusal : (e : ℕ) (o : Option LwpErr) → Mute (after_trap st trapped t c e o).effects
        by_refusal e None = none (effect.Answered t zero_answer ∷ [])
        by_refusal e (Some why) = none (effect.Answered t (answer.Refused why) ∷ [])

        by_agent : (b : Bool) → Mute (cond b (after_refusal st trapped t c error.InUse) (after_machine_step trapped (step st c))).effects
        by_agent true = none (effect.Answered t (answer.Refused error.InUse) ∷ [])
        by_agent false = mute_step st turn

        by_trap : (o : Option ℕ) → Mute (after_call_as st trapped t c o).effects
        by_trap None = by_agent (passes (is_trapped trapped) (agent_event_of c))
        by_trap (Some e) = by_refusal e (trap_refusal st trapped e)

    mute_pending : (st : State) (trapped : List Bool) (pending : Option ℕ) → choice st ≡ Some t → Mute (after_trap_and_call st trapped t c pending).effects
    mute_pending st trapped None turn = mute_made st trapped turn
    mute_pending st trapped (Some e) turn = by_given (passes is_given (notice st t e)) (passes is_catch (notice st t e))
      where
        by_given : (b d : Bool)
            → Mute (effect.Trapped t e
            ∷ (cond b (after_call st trapped t c) (cond d (after_machine_step trapped (but_call (step st (call.ExcNotify e))))
            (after_machine_step trapped (but_call (step st (call.Destroy t)))))).effects)
        by_given true d ys rest = mute_made st trapped turn ys rest
        by_given false true ys rest = mute_but st (call.ExcNotify e) ys rest
        by_given false false ys rest = mute_but st (call.Destroy t) ys rest

  -- nor is a report
  pub mute_said : (after : State) (es : List Effect) (reports : List ℕ) → Mute es → replies_of_step s a (after_rites after es reports).effects ≡ []
  mute_said after es reports mute = by_armed (is_event_armed after rites_event) reports
    where
      by_armed : (b : Bool) (rs : List ℕ)
          → replies_of_step s a (cond b (after_first_report after es rs) (record { state = after; reports = rs; effects = es })).effects ≡ []
      by_armed true [] = mute_whole es mute
      by_armed false rs = mute_whole es mute
      by_armed true (dead ∷ later) = let sent = (deliver after rites_event (report_text dead)).effects in
          mute_whole (es ++ map (as_rites dead) sent)
          (mute_then es (map (as_rites dead) sent) mute (mute_rites dead sent (tame_deliver after rites_event (report_text dead))))

  taken_mute : (es : EventState) (e : ℕ) (text : List ℕ) → replies_of_step s a (take_event es e text).effects ≡ []
  unfolding take_event
  taken_mute es e text = by_trapped (is_trapped es.trapped e)
    where
      by_trapped : (b : Bool) → replies_of_step s a (cond b (after_take_trap es e) (after_pass_on es (deliver es.state e text))).effects ≡ []
      by_trapped true = refl
      by_trapped false = mute_whole (deliver es.state e text).effects (mute_tame (deliver es.state e text).effects (tame_deliver es.state e text))

  pub mute_event : (es : EventState) (t : ℕ) (c : Call) → choice es.state ≡ Some t → ((fs : List Effect) → Mute (effect.Called t c ∷ fs))
      → replies_of_step s a (event_step es c).effects ≡ []
  mute_event es t c turn none =
      let out = after_trap_and_call es.state es.trapped t c es.pending in
      ap (λ (out : Outcome). replies_of_step s a out.effects) (event_is es t c turn)
      ∙ mute_said out.state out.effects (reports_after es.state out.state es.reports out.effects) (mute_pending t c none es.state es.trapped es.pending turn)

  -- another's call is none
  mute_other : (t : ℕ) → eqb t s ≡ false → (c : Call) (es : List Effect) → Mute (effect.Called t c ∷ es)
  mute_other t other c es ys none = rw other refl

  -- nor is a call of s that is no reply to a
  pub mute_unreplied : (c : Call) → reply_to a c ≡ [] → (es : List Effect) → Mute (effect.Called s c ∷ es)
  mute_unreplied c none es ys rest = ap (λ xs. cond (eqb s s && list_any (is_told s is_zero) (es ++ ys)) xs []) none
      ∙ by_test (eqb s s && list_any (is_told s is_zero) (es ++ ys))
    where
      by_test : (b : Bool) → cond {A = List (List ℕ)} b [] [] ≡ []
      by_test true = refl
      by_test false = refl

pub others_reply_nothing : OthersReplyNothing
others_reply_nothing s a es = (λ t turn other c. mute_event s a es t c turn (mute_other s a t other c), λ e text. taken_mute s a es e text)

-- ---- who is there

pub alive_seen : (st : State) (u : ℕ) (b : Block) → (sight st u).waits ≡ Some b → is_thread st u ≡ true
alive_seen st u b seen = by_row (thread_of st u) seen
  where
    by_row : (o : Option ThreadRow) → option_map (λ (row : ThreadRow). row.block) o ≡ Some b → is_some o ≡ true
    by_row None e = absurd (cc)
    by_row (Some row) e = refl

-- ---- traps in the caller

-- where it has no handler, a trap is its end
pub sprung_is : (st : State) (trapped : List Bool) (t : ℕ) (c : Call) (e : ℕ) → marks_in st t ≡ mark.Frame ∷ []
    → after_trap_and_call st trapped t c (Some e)
    ≡ record { state = (step st (call.Destroy t)).after; trapped = trapped; effects = effect.Trapped t e ∷ drop 1 (step st (call.Destroy t)).effects }
sprung_is st trapped t c e marks = let none = no_notice st t e marks in
    by_tests (passes is_given (notice st t e)) (passes is_catch (notice st t e)) none.0 none.1
  where
    by_tests : (b d : Bool) → b ≡ false → d ≡ false
        → (let out = cond b (after_call st trapped t c)
        (cond d (after_machine_step trapped (but_call (step st (call.ExcNotify e)))) (after_machine_step trapped (but_call (step st (call.Destroy t))))) in
        record out {
          effects = effect.Trapped t e ∷ out.effects;
        })
        ≡ record { state = (step st (call.Destroy t)).after; trapped = trapped; effects = effect.Trapped t e ∷ drop 1 (step st (call.Destroy t)).effects }
    by_tests true d f g = absurd (cc)
    by_tests false true f g = absurd (cc)
    by_tests false false f g = refl

-- a call that sets no trap and asks for no agent is the machine's
pub made_plain : (st : State) (trapped : List Bool) (t : ℕ) (c : Call) → trap_of c ≡ None → agent_event_of c ≡ None
    → after_call st trapped t c ≡ after_machine_step trapped (step st c)
made_plain st trapped t c none away = ap (after_call_as st trapped t c) none
    ∙ ap (λ o. cond (passes (is_trapped trapped) o) (after_refusal st trapped t c error.InUse) (after_machine_step trapped (step st c))) away

-- ---- the store

pub record Replying (c : Call) : Type 0 where
  pub to : ℕ
  pub text : List ℕ
  pub is : c ≡ call.Reply to text

pub record Plain (c : Call) : Type 0 where
  pub trap : trap_of c ≡ None
  pub agent : agent_event_of c ≡ None
  pub stop : goes_on_with c ≡ false → c ≡ call.Return
  pub short : (is_short_reply c ≡ true) ⊎ Replying c

pub plain_store : (turn : Turn StoreBody) → StoreDoes turn → Plain turn.0
plain_store turn (DoesReceive body is) =
    subst (λ (t : Turn StoreBody). Plain t.0) (sym is) (record { trap = refl; agent = refl; stop = λ e. absurd (cc); short = inl refl })
plain_store turn (DoesReply v text body is) = subst (λ (t : Turn StoreBody). Plain t.0) (sym is)
    (record { trap = refl; agent = refl; stop = λ e. absurd (cc); short = inr (record { to = v; text = text; is = refl }) })
plain_store turn (DoesStop is) = subst Plain (sym is) (record { trap = refl; agent = refl; stop = λ e. refl; short = inl refl })

pub pods_stores_calls_are_events : PodsStoresCallsAreEvents
unfolding store_next
pods_stores_calls_are_events s k a es was talk waiting h s_k turn x hears names = subst Goal (sym (event_is es k c turn)) (by_pending es.pending)
  where
    c : Call
    c = (store_next talk.store names x).0

    plain : Plain c
    plain = plain_store (store_by talk.store x talk.store.place) (does_by talk.store x talk.store.place)

    marks : marks_in es.state k ≡ mark.Frame ∷ []
    marks = ap (λ (v : Sight). v.marks) (h.keeper s_k)

    lives : is_thread es.state k ≡ true
    lives = alive_seen es.state k (block_of None talk.keeper) (ap (λ (v : Sight). v.waits) (h.keeper s_k))

    Goal : Outcome → Type 0
    Goal out = is_thread out.after k ≡ true → ((sent : List ℕ) → talk.mail ≡ Received sent → is_short_to s c ≡ true)
        → (talk.session.place ≡ at.Start → out.after.births ≤ a)
        → Becomes s k a talk talk.session (store_next talk.store names x).1 waiting (texts_in a None out.effects) [] out

    gone : (out : Trapping) → IsGone out.state k → Goal (done_by es out)
    gone out off = λ alive short low. differ (sym alive
        ∙ gone_thread (after_rites out.state out.effects (reports_after es.state out.state es.reports out.effects)).state k
        (gone_said k out.state out.effects (reports_after es.state out.state es.reports out.effects) off))

    by_stop : (b : Bool) → goes_on_with c ≡ b → Goal (done_by es (after_machine_step es.trapped (step es.state c)))
    by_stop true on = λ alive short low.
        becomes_said s k a talk waiting talk.session (store_next talk.store names x).1 [] (step es.state c).after (step es.state c).effects
        (reports_after es.state (step es.state c).after es.reports (step es.state c).effects) (Lawful-step es.state was c) (step_texts a es.state c)
        (stores_calls_are_events s k a es.state was talk waiting h s_k turn x hears names on short
        (λ start.
        omega (
          arith,
          low start,
          births_said (step es.state c).after (step es.state c).effects (reports_after es.state (step es.state c).after es.reports (step es.state c).effects),
        )))
    by_stop false off = gone (after_machine_step es.trapped (step es.state c))
        (subst (λ c. IsGone (step es.state c).after k) (sym (plain.stop off)) (returned_is_gone es.state was k turn marks))

    by_pending : (p : Option ℕ) → Goal (done_by es (after_trap_and_call es.state es.trapped k c p))
    by_pending None = subst (λ out. Goal (done_by es out)) (sym (made_plain es.state es.trapped k c plain.trap plain.agent)) (by_stop (goes_on_with c) refl)
    by_pending (Some e) =
        subst (λ out. Goal (done_by es out)) (sym (sprung_is es.state es.trapped k c e marks)) (gone (record {
          state = (step es.state (call.Destroy k)).after;
          trapped = es.trapped;
          effects = effect.Trapped k e ∷ drop 1 (step es.state (call.Destroy k)).effects;
        }) (destroyed_is_gone es.state was k k turn lives))

-- ---- the session

-- what a session calls, by its place
pub data Calls (place : SessionPlace) (c : Call) : Type 0 where
  Asks : (e : ℕ) → place ≡ at.Start → c ≡ call.Agent e → Calls place c
  Plainly : Plain c → Calls place c

module _ (body : SessionBody) (names : Names) (place : SessionPlace) where
  plain_stop : (c : Call) → c ≡ call.Return → Calls place c
  plain_stop c e = Plainly (subst Plain (sym e) (record { trap = refl; agent = refl; stop = λ f. refl; short = inl refl }))

  plain_reply : (v : ℕ) (text : List ℕ) → Calls place (call.Reply v text)
  plain_reply v text = Plainly (record { trap = refl; agent = refl; stop = λ f. absurd (cc); short = inr (record { to = v; text = text; is = refl }) })

  plain_receives : (body : SessionBody) → Calls place (session_receives body).0
  plain_receives body = Plainly (record { trap = refl; agent = refl; stop = λ f. absurd (cc); short = inl refl })

  plain_after : (b : Bool) (goes : Turn SessionBody) → Calls place goes.0 → Calls place (cond b goes (stops body)).0
  plain_after true goes h = h
  plain_after false goes h = plain_stop call.Return refl

  plain_sends : (text : List ℕ) (o : Option Command) → Calls place (session_sends body names text o).0
  plain_sends text None = plain_reply _ _
  plain_sends text (Some c) = Plainly (record { trap = refl; agent = refl; stop = λ f. absurd (cc); short = inl refl })

  plain_reads : (text : List ℕ) (b : Bool)
      → Calls place (cond b (call.Reply body.agent (codes "bye"), session_at body at.Bye) (session_sends body names text (command_of text))).0
  plain_reads text true = plain_reply _ _
  plain_reads text false = plain_sends text (command_of text)

  plain_opened : (x : Answer) → Calls place (session_turn_after_agent body x).0
  plain_opened (answer.Thread b) = plain_receives (record body { agent = b })
  plain_opened (answer.Refused e) = plain_stop _ refl
  plain_opened (answer.Letter from text room) = plain_stop _ refl
  plain_opened (answer.Value v) = plain_stop _ refl
  plain_opened (answer.Monitor t) = plain_stop _ refl
  plain_opened (answer.Cond t) = plain_stop _ refl
  plain_opened (answer.Reply text) = plain_stop _ refl
  plain_opened (answer.Bound f arg) = plain_stop _ refl
  plain_opened (answer.Caught d m p) = plain_stop _ refl
  plain_opened (answer.Ids n ns) = plain_stop _ refl

  plain_received : (x : Answer) → Calls place (session_turn_after_letter body names x).0
  plain_received (answer.Letter from text room) = plain_reads text (is_quit text)
  plain_received (answer.Refused e) = plain_stop _ refl
  plain_received (answer.Thread b) = plain_stop _ refl
  plain_received (answer.Value v) = plain_stop _ refl
  plain_received (answer.Monitor t) = plain_stop _ refl
  plain_received (answer.Cond t) = plain_stop _ refl
  plain_received (answer.Reply text) = plain_stop _ refl
  plain_received (answer.Bound f arg) = plain_stop _ refl
  plain_received (answer.Caught d m p) = plain_stop _ refl
  plain_received (answer.Ids n ns) = plain_stop _ refl

  plain_told : (x : Answer) → Calls place (session_turn_after_reply body x).0
  plain_told (answer.Reply text) = plain_reply _ _
  plain_told (answer.Refused e) = plain_reply _ _
  plain_told (answer.Letter from text room) = plain_stop _ refl
  plain_told (answer.Thread b) = plain_stop _ refl
  plain_told (answer.Value v) = plain_stop _ refl
  plain_told (answer.Monitor t) = plain_stop _ refl
  plain_told (answer.Cond t) = plain_stop _ refl
  plain_told (answer.Bound f arg) = plain_stop _ refl
  plain_told (answer.Caught d m p) = plain_stop _ refl
  plain_told (answer.Ids n ns) = plain_stop _ refl

pub session_calls_by : (body : SessionBody) (names : Names) (x : Answer) (p : SessionPlace) → Calls p (session_by body names x p).0
session_calls_by body names x at.Start = Asks body.event refl refl
session_calls_by body names x at.Agent = plain_opened body names at.Agent x
session_calls_by body names x at.Recv = plain_received body names at.Recv x
session_calls_by body names x at.Send = plain_told body names at.Send x
session_calls_by body names x at.Reply = plain_after body names at.Reply (is_replied x) (session_receives body) (plain_receives body names at.Reply body)
session_calls_by body names x at.Bye = plain_after body names at.Bye (is_replied x) (session_returns body) (plain_stop body names at.Bye _ refl)
session_calls_by body names x at.End = plain_stop body names at.End _ refl

-- what a report tells s isn't 0
no_zero_said : (s dead : ℕ) (after : State) → Lawful after None → (b : Block) → (sight after s).waits ≡ Some b → is_attentive b ≡ true
    → timers_of after.timers s ≡ 0
    → list_any (is_told s is_zero) (map (as_rites dead) (deliver after rites_event (report_text dead)).effects) ≡ false
no_zero_said s dead after was b seen attentive none = told_any s (map (as_rites dead) (deliver after rites_event (report_text dead)).effects)
    ∙ ap (list_any is_zero) (rites_same s dead (deliver after rites_event (report_text dead)).effects)
    ∙ by_fate (deliveries_leave_it after was s (attends_seen after s b seen attentive) none rites_event (report_text dead))
  where
    by_right : {from : Option ℕ} {heard : Answer} → IsDelivered (report_text dead) from heard ⊎ ((heard ≡ nonexist) × (is_some from ≡ true))
        → is_zero heard ≡ false
    by_right {from} {heard} (inl d) = ap is_zero d.letter
    by_right {from} {heard} (inr n) = ap is_zero n.0

    one_zero : (heard : Answer) → is_zero heard ≡ false → list_any is_zero (heard ∷ []) ≡ false
    one_zero heard none = ap (λ b. b || false) none

    by_fate : IsLeft s after (deliver after rites_event (report_text dead))
        ⊎ IsWoken s (IsDelivered (report_text dead)) after (deliver after rites_event (report_text dead))
        → list_any is_zero (answers_to s (deliver after rites_event (report_text dead)).effects) ≡ false
    by_fate (inl left) = ap (list_any is_zero) left.quiet
    by_fate (inr woken) = ap (list_any is_zero) woken.told ∙ one_zero woken.heard (by_right woken.right)

any_append : {X : Type 0} (p : X → Bool) (xs ys : List X) → list_any p ys ≡ false → list_any p (xs ++ ys) ≡ list_any p xs
any_append p [] ys none = none
any_append p (x ∷ xs) ys none = ap (λ b. p x || b) (any_append p xs ys none)

module _ (s a : ℕ) where
  replied_more : (st : State) (c : Call) → choice st ≡ Some s → (ys : List Effect) → list_any (is_told s is_zero) ys ≡ false
      → replies_of_step s a ((step st c).effects ++ ys) ≡ replies_of_step s a (step st c).effects
  unfolding step step_by
  replied_more st c turn ys none = subst (λ o. replies_of_step s a ((step_if st c o).effects ++ ys) ≡ replies_of_step s a (step_if st c o).effects) (sym turn)
      (ap (λ b. cond (eqb s s && b) (reply_to a c) []) (any_append (is_told s is_zero) (drop 1 (step_by st s c).effects) ys none))

  -- so a reply is told of after a report as before it
  replied_said : (st : State) (c : Call) → choice st ≡ Some s → Lawful (step st c).after None → (b : Block)
      → (sight (step st c).after s).waits ≡ Some b → is_attentive b ≡ true → timers_of (step st c).after.timers s ≡ 0 → (reports : List ℕ)
      → replies_of_step s a (after_rites (step st c).after (step st c).effects reports).effects ≡ replies_of_step s a (step st c).effects
  replied_said st c turn was b seen attentive none reports = by_armed (is_event_armed (step st c).after rites_event) reports
    where
      by_armed : (b : Bool) (rs : List ℕ)
          → replies_of_step s a (cond b (after_first_report (step st c).after (step st c).effects rs)
          (record { state = (step st c).after; reports = rs; effects = (step st c).effects })).effects
          ≡ replies_of_step s a (step st c).effects
      by_armed true [] = refl
      by_armed false rs = refl
      by_armed true (dead ∷ later) =
          replied_more st c turn (map (as_rites dead) (deliver (step st c).after rites_event (report_text dead)).effects)
          (no_zero_said s dead (step st c).after was b seen attentive none)

pub pods_sessions_calls_are_events : PodsSessionsCallsAreEvents
unfolding session_next
pods_sessions_calls_are_events s k a es was talk waiting h turn x hears names = subst Goal (sym (event_is es s c turn)) (by_pending es.pending refl)
  where
    c : Call
    c = (session_next talk.session names x).0

    kind : Calls talk.session.place c
    kind = session_calls_by talk.session names x talk.session.place

    marks : marks_in es.state s ≡ mark.Frame ∷ []
    marks = ap (λ (v : Sight). v.marks) h.client

    lives : is_thread es.state s ≡ true
    lives = alive_seen es.state s (block_of (Some a) talk.client) (ap (λ (v : Sight). v.waits) h.client)

    seen : sight es.state s ≡ record { waits = Some block.Not; marks = mark.Frame ∷ []; letters = [] }
    seen = h.client
        ∙ (λ i. record {
          waits = Some (block_of (Some a) (hears i));
          marks = mark.Frame ∷ [];
          letters = mail_letters s k (hears_no_mail x talk.mail (subst (λ c. is_posted c talk.mail ≡ true) hears h.posted) i);
        })

    Goal : Outcome → Type 0
    Goal out = (talk.agent_lives ≡ true → is_short_reply c ≡ true) → (es.pending ≡ None → sends_well s k c ≡ true)
        → (talk.session.place ≡ at.Start → (b : ℕ) → answers_to s (step es.state c).effects ≡ answer.Thread b ∷ [] → b ≡ a)
        → SessionComes s k a talk waiting (session_next talk.session names x).1 out

    gone : (out : Trapping) → IsGone out.state s → Mute s a out.effects → Goal (done_by es out)
    gone out off mute = λ short only given. Dies (gone_said s out.state out.effects (reports_after es.state out.state es.reports out.effects) off) (mute_said
        s a out.state out.effects (reports_after es.state out.state es.reports out.effects) mute)

    turned : (out : Trapping) → Lawful out.state None → OpensInVain s talk (record { after = out.state; effects = out.effects })
        → Mute s a out.effects → SessionComes s k a talk waiting (session_next talk.session names x).1 (done_by es out)
    turned out then v mute =
        let reports = reports_after es.state out.state es.reports out.effects in
        let r = rests_said s (answer.Refused v.why ∷ []) out.state out.effects reports
        then (record { client = v.client; untimed = v.untimed; told = v.told }) in
        IsTurnedAway (record { client = r.client; untimed = r.untimed; place = v.place; why = v.why; told = r.told })
        (mute_said s a out.state out.effects reports mute)

    starts : talk.session.place ≡ at.Start → reply_to a c ≡ []
    starts start = ap (λ p. reply_to a (session_by talk.session names x p).0) start

    stop : goes_on_with c ≡ false → Calls talk.session.place c → c ≡ call.Return
    stop off (Asks e place is) = differ (sym (ap goes_on_with is) ∙ off)
    stop off (Plainly plain) = plain.stop off

    stepped_by : es.pending ≡ None → (b : Bool) → goes_on_with c ≡ b → Goal (done_by es (after_machine_step es.trapped (step es.state c)))
    stepped_by free true on =
        λ short only given. by_coming (sessions_calls_are_events s k a es.state was talk waiting h turn x hears names on short (only free) given)
      where
        reports : List ℕ
        reports = reports_after es.state (step es.state c).after es.reports (step es.state c).effects

        by_coming : Becomes s k a talk (session_next talk.session names x).1 talk.store waiting []
            (replies_of_step s a (step es.state c).effects) (step es.state c)
            ⊎ OpensInVain s talk (step es.state c)
            → SessionComes s k a talk waiting (session_next talk.session names x).1 (done_by es (after_machine_step es.trapped (step es.state c)))
        by_coming (inl b) =
            GoesOn (subst (λ xs. Becomes s k a talk (session_next talk.session names x).1 talk.store waiting (texts_in a None
            (done_by es (after_machine_step es.trapped (step es.state c))).effects) xs (done_by es (after_machine_step es.trapped (step es.state c))))
            (sym (replied_said s a es.state c turn (Lawful-step es.state was c) (block_of (Some a) (after_events s a talk b.events).client)
            (ap (λ (v : Sight). v.waits) b.stands.client) (attentive (Some a) (after_events s a talk b.events).client) b.stands.untimed reports))
            (becomes_said s k a talk waiting (session_next talk.session names x).1 talk.store
            (replies_of_step s a (step es.state c).effects) (step es.state c).after (step es.state c).effects reports
            (Lawful-step es.state was c) (step_texts a es.state c) b))
        by_coming (inr v) = turned (after_machine_step es.trapped (step es.state c)) (Lawful-step es.state was c) v
            (mute_step s a s c (mute_unreplied s a c (starts v.place)) es.state turn)
    stepped_by free false off =
        let is = stop off kind in
        gone (after_machine_step es.trapped (step es.state c))
        (subst (λ c. IsGone (step es.state c).after s) (sym is) (returned_is_gone es.state was s turn marks))
        (mute_step s a s c (mute_unreplied s a c (ap (reply_to a) is)) es.state turn)

    made_by : es.pending ≡ None → Calls talk.session.place c → Goal (done_by es (after_call es.state es.trapped s c))
    made_by free (Plainly plain) =
        subst (λ out. Goal (done_by es out)) (sym (made_plain es.state es.trapped s c plain.trap plain.agent)) (stepped_by free (goes_on_with c) refl)
    made_by free (Asks e place is) = subst (λ out. Goal (done_by es out)) (sym (ap (after_call_as es.state es.trapped s c) (ap trap_of is)))
        (by_agent (passes (is_trapped es.trapped) (agent_event_of c)))
      where
        by_agent : (b : Bool) → Goal (done_by es (cond b (after_refusal es.state es.trapped s c error.InUse) (after_machine_step es.trapped (step es.state c))))
        by_agent false = stepped_by free (goes_on_with c) refl
        by_agent true = λ short only given. turned (after_refusal es.state es.trapped s c error.InUse) was
            (record { client = seen; untimed = h.untimed; place = place; why = error.InUse; told = rw (eq-eqb s s refl) refl })
            (mute_unreplied s a c (starts place) (effect.Answered s (answer.Refused error.InUse) ∷ []))

    by_pending : (p : Option ℕ) → es.pending ≡ p → Goal (done_by es (after_trap_and_call es.state es.trapped s c p))
    by_pending None free = made_by free kind
    by_pending (Some e) is =
        subst (λ out. Goal (done_by es out)) (sym (sprung_is es.state es.trapped s c e marks)) (gone (record {
          state = (step es.state (call.Destroy s)).after;
          trapped = es.trapped;
          effects = effect.Trapped s e ∷ drop 1 (step es.state (call.Destroy s)).effects;
        })
        (destroyed_is_gone es.state was s s turn lives) (λ ys none. mute_but s a es.state (call.Destroy s) ys none))
