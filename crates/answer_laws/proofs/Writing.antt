-- What is written of a client: a step's call, as it is told of, and the replies of the thread that makes it.
use Rattle.answer_laws.proofs.AgentTexts.{At, at_of}
use Rattle.answer_laws.proofs.Events.{rites_same}
use Rattle.answer_laws.proofs.Others.{deliveries_leave_it}
use Rattle.answer_laws.proofs.OwnSteps.{done_by, event_is, mute_but, mute_said, others_reply_nothing}
use Rattle.answer_laws.proofs.Owners.{blocked_row, other_row, told_itself}
use Rattle.answer_laws.proofs.Owning.{IsOwned, is_of_another, owned_at_birth, owned_by_call, owned_by_take, owned_thread, receivers_own, same_owner}
use Rattle.answer_laws.proofs.PodSteps.{tame_deliver}
use Rattle.answer_laws.proofs.SessionSteps.{told_any}
use Rattle.answer_laws.proofs.Sights.{answers_append}
use Rattle.answer_laws.proofs.StoreSteps.{Checked, Checked.Free, Checked.Struck, checked}
use Rattle.answer_laws.proofs.TalkSteps.{attends_seen, unborn_absent, unsome}
use Rattle.answer_laws.proofs.Naming.{from_null_names}
use Rattle.answer_laws.proofs.Openings.{sessions_are_reached}
use Rattle.answer_laws.proofs.Servings.{Grows, gone_grows, moved_fades, moved_lawful}
use Rattle.answer_laws.specs.Clients.{Step, replies_of_step, replies_accepted, reply_to}
use Rattle.answer_laws.specs.Events.{machine_of}
use Rattle.answer_laws.specs.Served.{CanGoOn, after_move, after_moves, step_of, steps_of}
use Rattle.answer_laws.specs.Written.{ClientsAreWritten, OwnersAloneReply, RepliesAreWritten, is_asking_of}
use Rattle.answer_laws.specs.Written.{is_reply_of, is_reply_to, owns, replies_are_of, text_lines}
use Rattle.lwp_types.specs.Names.{names_for_poll}
use Rattle.pod_laws.proofs.Opening.{Lawful-opening}
use Rattle.pod_runner.specs.Play.{play}
use Rattle.pod_runner.specs.Session as Sessions
use Rattle.pod_runner.specs.Session.{Session, Setting, call_move, move, move_by, move_row, opening_session, row_of, take_move}
use Rattle.pod_runner.specs.declared.session.Row.{Row}
use Rattle.pod_runner.specs.declared.session.Took.{Took}
use Rattle.lwp_serve.specs.Answers.Replies.{Known, agent_event, agents_after, call_in, is_event, known_after_steps, known_after_step}
use Rattle.lwp_serve.specs.Answers.Replies.{nothing_known, replies_in, reply_line, texts_told, with_agent}
use Rattle.lwp_serve.specs.Answers.Replies.{agent_born as asked_of}
use Rattle.script_body.specs.Bodies.{bodies_of}
use Rattle.script_body.specs.declared.thread_body.ThreadBody.{ThreadBody}
use Rattle.script_session.specs.SoFar.{session_at, setting_of}
use Rattle.script_text.specs.Script.{params_of}
use Rattle.std.proofs.lemmas.Grind.{flat_map-append}
use Rattle.std.proofs.lemmas.List.{map-append}
use Rattle.std.proofs.lemmas.List.Folds.{list_all-append}
use Rattle.answer_laws.specs.Sights.{IsDelivered, IsLeft, IsWoken, answers_to, sight}
use Rattle.lwp_types.specs.Agents.{after_agent_birth, deliver, is_event_armed}
use Rattle.lwp_types.specs.Case.{Case, answer_case, is_at_limit, is_full, is_no_id, refusal_case, with_zero}
use Rattle.lwp_types.specs.Choice.{choice}
use Rattle.lwp_types.specs.CountLaws.{count_found_and, one}
use Rattle.lwp_types.specs.Counts.{is_timed, timers_of}
use Rattle.lwp_types.specs.Lawful.{Lawful}
use Rattle.lwp_types.specs.Messages.{received_letter, after_reply, without_letter, with_holding}
use Rattle.lwp_types.specs.State.{Outcome, State, ThreadRow, is_agent, is_id, is_not_blocked, is_number, passes, still, thread_of}
use Rattle.lwp_types.specs.Step.{case_of, end_effects, ends, own_effects, step, step_by, step_if, step_outcome}
use Rattle.lwp_types.specs.Unblock.{unblock, zero_answer}
use Rattle.lwp_types.specs.declared.call.Answer.{Answer}
use Rattle.lwp_types.specs.declared.call.Call.{Call}
use Rattle.lwp_types.specs.declared.call.Effect.{Effect}
use Rattle.lwp_types.specs.declared.call.LwpErr.{LwpErr}
use Rattle.lwp_types.specs.declared.rows.Block.{Block}
use Rattle.lwp_types.specs.declared.rows.Letter.{Letter}
use Rattle.pod_events.proofs.Mild.{NoSuchAgent}
use Rattle.pod_events.proofs.MildCalls.{case_toll, is_tame}
use Rattle.pod_events.specs.Events.{EventState, is_trapped, rites_event}
use Rattle.pod_events.specs.Fates.{births_by}
use Rattle.pod_events.specs.Rites.{after_first_report, as_rites, report_text, reports_after, after_rites}
use Rattle.pod_events.specs.Step.{event_step}
use Rattle.pod_events.specs.Traps.{Trapping, after_call as traps_made, after_call_as, after_machine_step, after_trap, after_trap_and_call as traps_called}
use Rattle.pod_events.specs.Traps.{agent_event_of, but_call, is_catch, is_given, notice, after_refusal, trap_of, trap_refusal}
use Rattle.pod_laws.proofs.Chosen.{chosen}
use Rattle.pod_laws.proofs.Elements.{differ}
use Rattle.pod_laws.proofs.EveryStep.{Lawful-step}
use Rattle.pod_laws.proofs.Fading.{deliver_fades}
use Rattle.pod_laws.proofs.Rowed.{once_threads}
use Rattle.pod_laws.specs.Waiters.{is_told, is_zero}
use Rattle.pod_runner.specs.Calls.{call_after_effect, call_with_answer, call_by_effect, call_of_effects, unanswered_call}
use Rattle.pod_runner.specs.Calls.{is_zero as made_zero}
use Rattle.pod_runner.specs.Session.{thread_in}
use Rattle.pod_runner.specs.declared.session.Made.{Made}
use Rattle.std.proofs.Common.{Bool, List, None, Option, Some, [], ap, append-nil, append_assoc, arith, cond, drop, eqb, false, inl}
use Rattle.std.proofs.Common.{inr, length, not, refl, subst, sym, true, ℕ, ◌&&◌, ◌++◌, ◌<◌, ◌∙◌, ◌∷◌, ◌≡◌, ◌≢◌, ◌≤◌, ◌||◌, ◌⊎◌}
use Rattle.std.proofs.lemmas.Bool.{and_from, and_parts, cases_eq, cases_lt, eq-eqb, eqb-true, ne_eqb, or_parts}
use Rattle.std.specs.List.{fold, list_all, list_any}
use Rattle.std.specs.Option.{option_to_list}
use Rattle.std.specs.Prelude.{is_none, is_some, map, nat_lt, option_map}
use Rattle.lwp_types.specs.declared.call.Answer.TheVariants as answer
use Rattle.lwp_types.specs.declared.call.Call.TheVariants as call
use Rattle.lwp_types.specs.declared.call.Effect.TheVariants as effect
use Rattle.lwp_types.specs.declared.call.LwpErr.TheVariants as error
use Rattle.lwp_types.specs.declared.rows.Block.TheVariants as block

-- ---- a step's call, by its effects

-- whether the last answer is zero, and which thread it gives
abbrev pub last_zero : Bool → List Answer → Bool
last_zero b xs = fold (λ before x. made_zero x) b xs

abbrev pub last_thread : Option ℕ → List Answer → Option ℕ
last_thread o xs = fold (λ before x. thread_in x) o xs

-- a call goes on as the same call
pub same_call : (m : Made) (es : List Effect) → ((fold call_after_effect m es).call ≡ m.call) × ((fold call_after_effect m es).tid ≡ m.tid)
same_call m [] = (refl, refl)
same_call m (e ∷ es) = let rest = same_call (call_after_effect m e) es in let one = by_effect e in (rest.0 ∙ one.0, rest.1 ∙ one.1)
  where
    by_test : (b : Bool) (a : Answer) → ((cond b (call_with_answer m a) m).call ≡ m.call) × ((cond b (call_with_answer m a) m).tid ≡ m.tid)
    by_test true a = (refl, refl)
    by_test false a = (refl, refl)

    by_effect : (e : Effect) → ((call_after_effect m e).call ≡ m.call) × ((call_after_effect m e).tid ≡ m.tid)
    by_effect (effect.Answered t a) = by_test (eqb t m.tid) a
    by_effect (effect.Called t c) = (refl, refl)
    by_effect (effect.Exited t reg c a) = (refl, refl)
    by_effect (effect.Died t) = (refl, refl)
    by_effect (effect.Delivered a e) = (refl, refl)
    by_effect (effect.Ticked now) = (refl, refl)
    by_effect (effect.Ended status) = (refl, refl)
    by_effect (effect.Trapped t e) = (refl, refl)
    by_effect (effect.Rites a d) = (refl, refl)

-- and is answered as its thread is
pub heard_call : (m : Made) (es : List Effect)
    → ((fold call_after_effect m es).zero ≡ last_zero m.zero (answers_to m.tid es))
    × ((fold call_after_effect m es).thread ≡ last_thread m.thread (answers_to m.tid es))
heard_call m [] = (refl, refl)
heard_call m (effect.Answered t a ∷ es) = by_test (eqb t m.tid) (λ n. heard_call n es)
  where
    push : Option Answer → List Answer → List Answer
    push None rest = rest
    push (Some a) rest = a ∷ rest

    by_test : (b : Bool)
        → ((n : Made)
        → ((fold call_after_effect n es).zero ≡ last_zero n.zero (answers_to n.tid es))
        × ((fold call_after_effect n es).thread ≡ last_thread n.thread (answers_to n.tid es)))
        → ((fold call_after_effect (cond b (call_with_answer m a) m) es).zero ≡ last_zero m.zero (push (cond b (Some a) None) (answers_to m.tid es)))
        × ((fold call_after_effect (cond b (call_with_answer m a) m) es).thread ≡ last_thread m.thread (push (cond b (Some a) None) (answers_to m.tid es)))
    by_test true rest = rest (call_with_answer m a)
    by_test false rest = rest m
heard_call m (effect.Called t c ∷ es) = heard_call m es
heard_call m (effect.Exited t reg c a ∷ es) = heard_call m es
heard_call m (effect.Died t ∷ es) = heard_call m es
heard_call m (effect.Delivered a e ∷ es) = heard_call m es
heard_call m (effect.Ticked now ∷ es) = heard_call m es
heard_call m (effect.Ended status ∷ es) = heard_call m es
heard_call m (effect.Trapped t e ∷ es) = heard_call m es
heard_call m (effect.Rites a d ∷ es) = heard_call m es

-- after a call no other is taken
pub call_stays : (m : Made) (es : List Effect) → fold call_by_effect (Some m) es ≡ Some (fold call_after_effect m es)
call_stays m [] = refl
call_stays m (e ∷ es) = call_stays (call_after_effect m e) es

-- effects that tell of no call
abbrev pub Callless : List Effect → Type 0
Callless es = (ys : List Effect) → call_of_effects ys ≡ None → call_of_effects (es ++ ys) ≡ None

callless_then : (xs ys : List Effect) → Callless xs → Callless ys → Callless (xs ++ ys)
callless_then xs ys one two zs none = ap call_of_effects (append_assoc xs ys zs) ∙ one (ys ++ zs) (two zs none)

callless_whole : (es : List Effect) → Callless es → call_of_effects es ≡ None
callless_whole es none = ap call_of_effects (sym (append-nil es)) ∙ none [] refl

callless_tame : (es : List Effect) → list_all is_tame es ≡ true → Callless es
callless_tame [] tame ys none = none
callless_tame (effect.Called t c ∷ es) tame ys none = absurd (cc)
callless_tame (effect.Answered t x ∷ es) tame ys none = callless_tame es tame ys none
callless_tame (effect.Exited t reg c x ∷ es) tame ys none = callless_tame es tame ys none
callless_tame (effect.Died t ∷ es) tame ys none = callless_tame es tame ys none
callless_tame (effect.Delivered b e ∷ es) tame ys none = callless_tame es tame ys none
callless_tame (effect.Ticked now ∷ es) tame ys none = callless_tame es tame ys none
callless_tame (effect.Ended status ∷ es) tame ys none = absurd (cc)
callless_tame (effect.Trapped t e ∷ es) tame ys none = absurd (cc)
callless_tame (effect.Rites b d ∷ es) tame ys none = absurd (cc)

callless_rites : (dead : ℕ) (es : List Effect) → list_all is_tame es ≡ true → Callless (map (as_rites dead) es)
callless_rites dead [] tame ys none = none
callless_rites dead (effect.Called t c ∷ es) tame ys none = absurd (cc)
callless_rites dead (effect.Answered t x ∷ es) tame ys none = callless_rites dead es tame ys none
callless_rites dead (effect.Exited t reg c x ∷ es) tame ys none = callless_rites dead es tame ys none
callless_rites dead (effect.Died t ∷ es) tame ys none = callless_rites dead es tame ys none
callless_rites dead (effect.Delivered b e ∷ es) tame ys none = callless_rites dead es tame ys none
callless_rites dead (effect.Ticked now ∷ es) tame ys none = callless_rites dead es tame ys none
callless_rites dead (effect.Ended status ∷ es) tame ys none = absurd (cc)
callless_rites dead (effect.Trapped t e ∷ es) tame ys none = absurd (cc)
callless_rites dead (effect.Rites b d ∷ es) tame ys none = absurd (cc)

callless_but : (st : State) (c : Call) → Callless (drop 1 (step st c).effects)
unfolding step step_by
callless_but st c = by_choice (choice st)
  where
    own_none : (t : ℕ) (o : Option Answer) → Callless (own_effects t o)
    own_none t None ys none = none
    own_none t (Some x) ys none = none

    end_none : (st : State) (b : Bool) → Callless (cond b (effect.Ended st.status ∷ []) [])
    end_none st true ys none = none
    end_none st false ys none = none

    by_choice : (o : Option ℕ) → Callless (drop 1 (step_if st c o).effects)
    by_choice None = λ ys none. none
    by_choice (Some t) =
        let made = case_of st t c in
        callless_then made.others (own_effects t made.own ++ end_effects made.after) (callless_tame made.others (case_toll st t c).tame)
        (callless_then (own_effects t made.own) (end_effects made.after) (own_none t made.own) (end_none made.after (ends made.after)))

callless_said : (after : State) (es : List Effect) (reports : List ℕ) → Callless es → call_of_effects (after_rites after es reports).effects ≡ None
callless_said after es reports callless = by_armed (is_event_armed after rites_event) reports
  where
    by_armed : (b : Bool) (rs : List ℕ)
        → call_of_effects (cond b (after_first_report after es rs) (record { state = after; reports = rs; effects = es })).effects ≡ None
    by_armed true [] = callless_whole es callless
    by_armed false rs = callless_whole es callless
    by_armed true (dead ∷ later) = let sent = (deliver after rites_event (report_text dead)).effects in
        callless_whole (es ++ map (as_rites dead) sent)
        (callless_then es (map (as_rites dead) sent) callless (callless_rites dead sent (tame_deliver after rites_event (report_text dead))))

-- ---- threads at rest

free_is : (b : Block) → is_not_blocked b ≡ true → b ≡ block.Not
free_is block.Not e = refl
free_is (block.Joining t) e = absurd (cc)
free_is block.Sending e = absurd (cc)
free_is (block.Receiving from) e = absurd (cc)
free_is (block.Entering m) e = absurd (cc)
free_is (block.Waiting c) e = absurd (cc)
free_is block.Sleeping e = absurd (cc)

-- it waits for nothing
abbrev pub IsFree : State → ℕ → Type 0
IsFree st t = (sight st t).waits ≡ Some block.Not

free_untimed : (st : State) → Lawful st None → (t : ℕ) → IsFree st t → timers_of st.timers t ≡ 0
free_untimed st was t free = let here = at_of st t block.Not free in
    omega (
      arith,
      was.nine.blocks.4.0 t,
      count_found_and (is_number t) (λ row. is_timed row.block) st.threads here.row here.known (once_threads st None was.nine t),
      ap (λ b. one (is_timed b)) here.waits,
    )

pub chosen_free : (st : State) → Lawful st None → (t : ℕ) → choice st ≡ Some t → IsFree st t
chosen_free st was t turn =
    let run = chosen st was.nine t turn in
    ap (option_map (λ (row : ThreadRow). row.block)) run.known
    ∙ ap Some (free_is run.row.block (and_parts (not run.row.suspended) (is_not_blocked run.row.block) run.eligible).1)

-- a report tells it nothing
unreported : (t dead : ℕ) (after : State) → Lawful after None → IsFree after t
    → answers_to t (map (as_rites dead) (deliver after rites_event (report_text dead)).effects) ≡ []
unreported t dead after was free = rites_same t dead (deliver after rites_event (report_text dead)).effects
    ∙ by_fate (deliveries_leave_it after was t (attends_seen after t block.Not free refl) (free_untimed after was t free) rites_event (report_text dead))
  where
    by_fate : IsLeft t after (deliver after rites_event (report_text dead))
        ⊎ IsWoken t (IsDelivered (report_text dead)) after (deliver after rites_event (report_text dead))
        → answers_to t (deliver after rites_event (report_text dead)).effects ≡ []
    by_fate (inl left) = left.quiet
    by_fate (inr woken) = absurd (let bad : Some block.Not ≡ Some (block.Receiving woken.from) = sym free ∙ woken.waited in cc)

-- ---- what a caller is told

-- v is there, and if it is an agent, t is its owner
pub record IsRepliedTo (t v : ℕ) (st : State) : Type 0 where
  pub there : is_id st v ≡ true
  pub owned : NoSuchAgent (is_of_another t v) st

-- the number was the next to be given, and it was
pub record IsGiven (b : ℕ) (st after : State) : Type 0 where
  pub next : b ≡ st.births
  pub born : b < after.births

-- of a call of t: an accepted reply is the last word, and goes to somebody who was there, an agent's to that of t; and an agent that is
-- given is new
pub record Heard (t : ℕ) (st : State) (c : Call) (after : State) (xs : List Answer) : Type 0 where
  pub reply : (v : ℕ) (text : List ℕ) → c ≡ call.Reply v text → (last_zero false xs ≡ list_any is_zero xs) × (list_any is_zero xs ≡ true → IsRepliedTo t v st)
  pub agent : (e b : ℕ) → c ≡ call.Agent e → last_thread None xs ≡ Some b → IsGiven b st after

-- its effects so
pub record Says (t : ℕ) (st : State) (c : Call) (after : State) (es : List Effect) : Type 0 where
  pub rest : List Effect
  pub is : es ≡ effect.Called t c ∷ rest
  pub heard : Heard t st c after (answers_to t rest)

-- what becomes of a step: its call is told, perhaps after a trap, or none is
pub data Form (t : ℕ) (st : State) (c : Call) (after : State) (es : List Effect) : Type 0 where
  Plain : Says t st c after es → Form t st c after es
  Behind : (e : ℕ) (fs : List Effect) → es ≡ effect.Trapped t e ∷ fs → Says t st c after fs → Form t st c after es
  Muffled : call_of_effects es ≡ None → ((s a : ℕ) → replies_of_step s a es ≡ []) → Form t st c after es

module _ (t : ℕ) (c : Call) where
  abbrev Headed : List Effect → Type 0
  Headed es = es ≡ effect.Called t c ∷ drop 1 es

  headed_append : (es xs : List Effect) → Headed es → Headed (es ++ xs)
  headed_append es xs h = ap (λ zs. zs ++ xs) h ∙ ap (λ zs. effect.Called t c ∷ zs) (sym (ap (λ zs. drop 1 (zs ++ xs)) h))

  headed_said : (after : State) (es : List Effect) (reports : List ℕ) → Headed es → Headed (after_rites after es reports).effects
  headed_said after es reports h = by_armed (is_event_armed after rites_event) reports
    where
      by_armed : (b : Bool) (rs : List ℕ) → Headed (cond b (after_first_report after es rs) (record { state = after; reports = rs; effects = es })).effects
      by_armed true [] = h
      by_armed false rs = h
      by_armed true (dead ∷ later) = headed_append es (map (as_rites dead) (deliver after rites_event (report_text dead)).effects) h

  said_answers : (after : State) (es : List Effect) (reports : List ℕ) → Lawful after None → IsFree after t
      → answers_to t (after_rites after es reports).effects ≡ answers_to t es
  said_answers after es reports was free = by_armed (is_event_armed after rites_event) reports
    where
      by_armed : (b : Bool) (rs : List ℕ)
          → answers_to t (cond b (after_first_report after es rs) (record { state = after; reports = rs; effects = es })).effects ≡ answers_to t es
      by_armed true [] = refl
      by_armed false rs = refl
      by_armed true (dead ∷ later) = answers_append t es (map (as_rites dead) (deliver after rites_event (report_text dead)).effects)
          ∙ ap (λ xs. answers_to t es ++ xs) (unreported t dead after was free) ∙ append-nil (answers_to t es)

-- a report takes no number back
said_births : (after : State) (es : List Effect) (reports : List ℕ) → after.births ≤ (after_rites after es reports).state.births
said_births after es reports = by_armed (is_event_armed after rites_event) reports
  where
    by_armed : (b : Bool) (rs : List ℕ)
        → after.births ≤ (cond b (after_first_report after es rs) (record { state = after; reports = rs; effects = es })).state.births
    by_armed true [] = omega arith
    by_armed false rs = omega arith
    by_armed true (dead ∷ later) = (deliver_fades 0 after rites_event (report_text dead)).births

module _ (st : State) (was : Lawful st None) (t : ℕ) (turn : choice st ≡ Some t) where
  free_now : IsFree st t
  free_now = chosen_free st was t turn

  step_is : (c : Call) → step st c ≡ step_outcome t c (case_of st t c)
  unfolding step step_by
  step_is c = ap (step_if st c) turn

  headed_made : (trapped : List Bool) (c : Call) → Headed t c (traps_made st trapped t c).effects
  headed_made trapped c = by_trap (trap_of c)
    where
      headed_step : Headed t c (step st c).effects
      headed_step = ap (λ (out : Outcome). out.effects) (step_is c)
          ∙ ap (λ zs. effect.Called t c ∷ zs) (sym (ap (λ (out : Outcome). drop 1 out.effects) (step_is c)))

      by_refusal : (e : ℕ) (o : Option LwpErr) → Headed t c (after_trap st trapped t c e o).effects
      by_refusal e None = refl
      by_refusal e (Some why) = refl

      by_agent : (b : Bool) → Headed t c (cond b (after_refusal st trapped t c error.InUse) (after_machine_step trapped (step st c))).effects
      by_agent true = refl
      by_agent false = headed_step

      by_trap : (o : Option ℕ) → Headed t c (after_call_as st trapped t c o).effects
      by_trap None = by_agent (passes (is_trapped trapped) (agent_event_of c))
      by_trap (Some e) = by_refusal e (trap_refusal st trapped e)

  -- ---- a reply

  record Replied (v : ℕ) (out : Outcome) : Type 0 where
    agrees : last_zero false (answers_to t out.effects) ≡ list_any is_zero (answers_to t out.effects)
    there : list_any is_zero (answers_to t out.effects) ≡ true → IsRepliedTo t v st
    free : IsFree out.after t

  replied_made : (v : ℕ) (text : List ℕ) (made : Case) (xs : List Answer) → answers_to t made.others ++ option_to_list made.own ≡ xs
      → last_zero false xs ≡ list_any is_zero xs → (list_any is_zero xs ≡ true → IsRepliedTo t v st) → IsFree made.after t
      → Replied v (step_outcome t (call.Reply v text) made)
  replied_made v text made xs is agrees there free =
      let told_so = told_itself t (call.Reply v text) made ∙ is in
      record {
        agrees = ap (last_zero false) told_so ∙ agrees ∙ ap (list_any is_zero) (sym told_so);
        there = λ any. there (ap (list_any is_zero) (sym told_so) ∙ any);
        free = free;
      }

  replied_step : (v : ℕ) (text : List ℕ) → Replied v (step st (call.Reply v text))
  replied_step v text = subst (Replied v) (sym (step_is (call.Reply v text))) (by_checks (checked st _ _))
    where
      not_not : (b : Bool) → not b ≡ false → b ≡ true
      not_not true e = refl
      not_not false e = absurd (cc)

      woken : (w : Bool) → eqb v t ≡ w → IsFree (unblock (answer.Reply text) v (record st { letters = without_letter v st.letters })).after t
      woken w e = by_same (cases_eq v t)
        where
          here : At st t block.Not
          here = at_of st t block.Not free_now

          by_same : (v ≡ t) ⊎ (v ≢ t) → IsFree (unblock (answer.Reply text) v (record st { letters = without_letter v st.letters })).after t
          by_same (inl same) = ap (option_map (λ (row : ThreadRow). row.block))
              (subst (λ n. thread_of (unblock (answer.Reply text) n (record st { letters = without_letter v st.letters })).after t
              ≡ Some (record here.row { block = block.Not })) (sym same) (blocked_row t block.Not st.threads here.row here.known))
          by_same (inr other) = ap (option_map (λ (row : ThreadRow). row.block)) (other_row v t block.Not st.threads other) ∙ free_now

      by_kind : IsRepliedTo t v st → (b d : Bool) → eqb v t ≡ d
          → (case_of st t (call.Reply v text)
          ≡ with_zero (cond b (still (record st { letters = without_letter v st.letters; agents = with_holding v false st.agents }))
          (unblock (answer.Reply text) v (record st { letters = without_letter v st.letters }))))
          → Replied v (step_outcome t (call.Reply v text) (case_of st t (call.Reply v text)))
      by_kind there true d e is = subst (λ made. Replied v (step_outcome t (call.Reply v text) made)) (sym is) (replied_made v text
          (with_zero (still (record st { letters = without_letter v st.letters; agents = with_holding v false st.agents })))
          (zero_answer ∷ []) refl refl (λ any. there) free_now)
      by_kind there false true e is = subst (λ made. Replied v (step_outcome t (call.Reply v text) made)) (sym is)
          (replied_made v text (with_zero (unblock (answer.Reply text) v (record st { letters = without_letter v st.letters })))
          (answer.Reply text ∷ zero_answer ∷ []) (rw e refl) refl (λ any. there) (woken true e))
      by_kind there false false e is = subst (λ made. Replied v (step_outcome t (call.Reply v text) made)) (sym is)
          (replied_made v text (with_zero (unblock (answer.Reply text) v (record st { letters = without_letter v st.letters })))
          (zero_answer ∷ []) (rw e refl) refl (λ any. there) (woken false e))

      by_checks : Checked st
          (is_no_id st v ∷ (is_none (received_letter st.letters t v), error.NoWait)
          ∷ (passes (λ (letter : Letter). nat_lt letter.room (length text)) (received_letter st.letters t v), error.InvalidArg) ∷ [])
          (with_zero (after_reply v text st))
          → Replied v (step_outcome t (call.Reply v text) (case_of st t (call.Reply v text)))
      by_checks (Struck e is) = subst (λ made. Replied v (step_outcome t (call.Reply v text) made)) (sym is)
          (replied_made v text (refusal_case st e) (answer.Refused e ∷ []) refl refl (λ any. absurd (cc)) free_now)
      by_checks (Free passed is) =
          by_kind (record { there = not_not (is_id st v) passed.0; owned = receivers_own st was t v passed.1.0 }) (is_agent st v) (eqb v t) refl is

  -- ---- an agent

  record Given (out : Trapping) : Type 0 where
    new : (b : ℕ) → last_thread None (answers_to t out.effects) ≡ Some b → IsGiven b st out.state
    lawful : Lawful out.state None
    free : IsFree out.state t

  given_made : (trapped : List Bool) (e : ℕ) → Given (traps_made st trapped t (call.Agent e))
  given_made trapped e = by_agent (is_trapped trapped e)
    where
      ask : Call
      ask = call.Agent e

      new_of : (out : Outcome) (xs : List Answer) → answers_to t out.effects ≡ xs
          → ((b : ℕ) → last_thread None xs ≡ Some b → IsGiven b st out.after) → (b : ℕ)
          → last_thread None (answers_to t out.effects) ≡ Some b → IsGiven b st out.after
      new_of out xs is new b given = new b (ap (last_thread None) (sym is) ∙ given)

      by_checks : Checked st (((eqb e 0) || nat_lt 32 e, error.InvalidArg) ∷ is_full 256 st.agents ∷ is_at_limit st.births st ∷ [])
          (answer_case (after_agent_birth st t e) (answer.Thread st.births))
          → ((b : ℕ) → last_thread None (answers_to t (step_outcome t (call.Agent e) (case_of st t (call.Agent e))).effects) ≡ Some b
          → IsGiven b st (step_outcome t (call.Agent e) (case_of st t (call.Agent e))).after)
          × IsFree (step_outcome t (call.Agent e) (case_of st t (call.Agent e))).after t
      by_checks (Struck why is) = (
        new_of (step_outcome t (call.Agent e) (case_of st t (call.Agent e))) (answer.Refused why ∷ [])
            (ap (λ made. answers_to t (step_outcome t (call.Agent e) made).effects) is ∙ told_itself t (call.Agent e) (refusal_case st why))
            (λ b bad. absurd (cc)),
        ap (λ made. (sight (step_outcome t (call.Agent e) made).after t).waits) is ∙ free_now,
      )
      by_checks (Free passed is) = (
        new_of (step_outcome t (call.Agent e) (case_of st t (call.Agent e))) (answer.Thread st.births ∷ [])
            (ap (λ made. answers_to t (step_outcome t (call.Agent e) made).effects) is
            ∙ told_itself t (call.Agent e) (answer_case (after_agent_birth st t e) (answer.Thread st.births)))
            (λ b same.
            record { next = sym (unsome same); born = omega (arith, unsome same, ap (λ (made : Case). made.after.births) is) }),
        ap (λ made. (sight (step_outcome t (call.Agent e) made).after t).waits) is ∙ free_now,
      )

      stepped_so : ((b : ℕ) → last_thread None (answers_to t (step st (call.Agent e)).effects) ≡ Some b → IsGiven b st (step st (call.Agent e)).after)
          × IsFree (step st (call.Agent e)).after t
      stepped_so = subst
          (λ (out : Outcome). ((b : ℕ) → last_thread None (answers_to t out.effects) ≡ Some b → IsGiven b st out.after) × IsFree out.after t)
          (sym (step_is (call.Agent e))) (by_checks (checked st _ _))

      refused_so : answers_to t (effect.Called t (call.Agent e) ∷ effect.Answered t (answer.Refused error.InUse) ∷ []) ≡ answer.Refused error.InUse ∷ []
      refused_so = rw (eq-eqb t t refl) refl

      by_agent : (b : Bool) → Given (cond b (after_refusal st trapped t (call.Agent e) error.InUse) (after_machine_step trapped (step st (call.Agent e))))
      by_agent true = record {
        new = λ b given. absurd (let bad : None ≡ Some b = ap (last_thread None) (sym refused_so) ∙ given in cc);
        lawful = was;
        free = free_now;
      }
      by_agent false = record { new = stepped_so.0; lawful = Lawful-step st was (call.Agent e); free = stepped_so.1 }

  -- ---- any call

  module _ (trapped : List Bool) (reports : List ℕ) where
    abbrev All : Call → List Effect
    All c = (after_rites (traps_made st trapped t c).state (traps_made st trapped t c).effects reports).effects

    headed_all : (c : Call) → Headed t c (All c)
    headed_all c = headed_said t c (traps_made st trapped t c).state (traps_made st trapped t c).effects reports (headed_made trapped c)

    -- the call itself answers nobody
    rest_told : (c : Call) → answers_to t (drop 1 (All c)) ≡ answers_to t (All c)
    rest_told c = sym (ap (answers_to t) (headed_all c))

    abbrev After : Call → State
    After c = (after_rites (traps_made st trapped t c).state (traps_made st trapped t c).effects reports).state

    abbrev ReplyGoal : ℕ → Call → Type 0
    ReplyGoal v c = (last_zero false (answers_to t (drop 1 (All c))) ≡ list_any is_zero (answers_to t (drop 1 (All c))))
        × (list_any is_zero (answers_to t (drop 1 (All c))) ≡ true → IsRepliedTo t v st)

    abbrev AgentGoal : ℕ → Call → Type 0
    AgentGoal b c = last_thread None (answers_to t (drop 1 (All c))) ≡ Some b → IsGiven b st (After c)

    reply_goal : (v : ℕ) (text : List ℕ) → ReplyGoal v (call.Reply v text)
    reply_goal v text =
        let r = replied_step v text in
        let told_so = rest_told (call.Reply v text)
        ∙ said_answers t (call.Reply v text) (step st (call.Reply v text)).after (step st (call.Reply v text)).effects reports
        (Lawful-step st was (call.Reply v text)) r.free in (
          ap (last_zero false) told_so ∙ r.agrees ∙ ap (list_any is_zero) (sym told_so),
          λ any. r.there (ap (list_any is_zero) (sym told_so) ∙ any),
        )

    agent_goal : (e b : ℕ) → AgentGoal b (call.Agent e)
    agent_goal e b given =
        let g = given_made trapped e in
        let out = traps_made st trapped t (call.Agent e) in
        let new = g.new b (ap (last_thread None) (sym (rest_told (call.Agent e) ∙ said_answers t (call.Agent e) out.state out.effects reports g.lawful g.free))
        ∙ given) in
        record { next = new.next; born = omega (arith, new.born, said_births out.state out.effects reports) }

  says_made : (trapped : List Bool) (c : Call) (reports : List ℕ)
      → Says t st c (after_rites (traps_made st trapped t c).state (traps_made st trapped t c).effects reports).state
      (after_rites (traps_made st trapped t c).state (traps_made st trapped t c).effects reports).effects
  says_made trapped c reports = record {
    rest = drop 1 (All trapped reports c);
    is = headed_all trapped reports c;
    heard = record {
      reply = λ v text is. subst (ReplyGoal trapped reports v) (sym is) (reply_goal trapped reports v text);
      agent = λ e b is. subst (AgentGoal trapped reports b) (sym is) (agent_goal trapped reports e b);
    };
  }

trapped_said : (t e : ℕ) (after : State) (es : List Effect) (reports : List ℕ)
    → (after_rites after (effect.Trapped t e ∷ es) reports).effects ≡ effect.Trapped t e ∷ (after_rites after es reports).effects
trapped_said t e after es reports = by_armed (is_event_armed after rites_event) reports
  where
    by_armed : (b : Bool) (rs : List ℕ)
        → (cond b (after_first_report after (effect.Trapped t e ∷ es) rs) (record { state = after; reports = rs; effects = effect.Trapped t e ∷ es })).effects
        ≡ effect.Trapped t e ∷ (cond b (after_first_report after es rs) (record { state = after; reports = rs; effects = es })).effects
    by_armed true [] = refl
    by_armed false rs = refl
    by_armed true (dead ∷ later) = refl

trapped_state : (t e : ℕ) (after : State) (es : List Effect) (reports : List ℕ)
    → (after_rites after es reports).state ≡ (after_rites after (effect.Trapped t e ∷ es) reports).state
trapped_state t e after es reports = by_armed (is_event_armed after rites_event) reports
  where
    by_armed : (b : Bool) (rs : List ℕ)
        → (cond b (after_first_report after es rs) (record { state = after; reports = rs; effects = es })).state
        ≡ (cond b (after_first_report after (effect.Trapped t e ∷ es) rs) (record { state = after; reports = rs; effects = effect.Trapped t e ∷ es })).state
    by_armed true [] = refl
    by_armed false rs = refl
    by_armed true (dead ∷ later) = refl

module _ (es : EventState) (was : Lawful es.state None) (t : ℕ) (turn : choice es.state ≡ Some t) (c : Call) where
  abbrev Done : Trapping → Outcome
  Done out = done_by es out

  abbrev FormOf : Outcome → Type 0
  FormOf out = Form t es.state c out.after out.effects

  form_by : (p : Option ℕ) → FormOf (Done (traps_called es.state es.trapped t c p))
  form_by None = let out = traps_made es.state es.trapped t c in
      Plain (says_made es.state was t turn es.trapped c (reports_after es.state out.state es.reports out.effects))
  form_by (Some e) = by_given (passes is_given (notice es.state t e)) (passes is_catch (notice es.state t e))
    where
      muffled : (d : Call)
          → FormOf (Done (record { state = (step es.state d).after; trapped = es.trapped; effects = effect.Trapped t e ∷ drop 1 (step es.state d).effects }))
      muffled d =
          let fs = effect.Trapped t e ∷ drop 1 (step es.state d).effects in
          let reports = reports_after es.state (step es.state d).after es.reports fs in
          Muffled (callless_said (step es.state d).after fs reports (λ ys none. callless_but es.state d ys none))
          (λ s a. mute_said s a (step es.state d).after fs reports (λ ys none. mute_but s a es.state d ys none))

      by_given : (b d : Bool)
          → FormOf
          (Done
          (let out = cond b (traps_made es.state es.trapped t c) (cond d (after_machine_step es.trapped
          (but_call (step es.state (call.ExcNotify e)))) (after_machine_step es.trapped (but_call (step es.state (call.Destroy t))))) in
          record out {
            effects = effect.Trapped t e ∷ out.effects;
          }))
      by_given true d =
          let out = traps_made es.state es.trapped t c in
          let reports = reports_after es.state out.state es.reports (effect.Trapped t e ∷ out.effects) in
          Behind e (after_rites out.state out.effects reports).effects (trapped_said t e out.state out.effects reports)
          (subst (λ (now : State). Says t es.state c now (after_rites out.state out.effects reports).effects)
          (trapped_state t e out.state out.effects reports) (says_made es.state was t turn es.trapped c reports))
      by_given false true = muffled (call.ExcNotify e)
      by_given false false = muffled (call.Destroy t)

  pub form_of : FormOf (machine_of (event_step es c))
  form_of = subst FormOf (sym (event_is es t c turn)) (form_by es.pending)

-- ---- what it comes to

-- a call: a reply, or one that asks for an agent, or neither
pub data Kind (c : Call) : Type 0 where
  IsReply : (v : ℕ) (text : List ℕ) → c ≡ call.Reply v text → Kind c
  IsAgent : (e : ℕ) → c ≡ call.Agent e → Kind c
  IsOther : ((agents : List ℕ) → reply_line agents c ≡ []) → ((a : ℕ) → reply_to a c ≡ []) → ((a : ℕ) → is_reply_to a c ≡ false) → agent_event c ≡ None → Kind c

pub kind_of : (c : Call) → Kind c
kind_of (call.Reply v text) = IsReply v text refl
kind_of (call.Agent e) = IsAgent e refl
kind_of _ = IsOther (λ agents. refl) (λ a. refl) (λ a. refl) refl

-- the agent of the event that a call has made, if there is one
abbrev pub asked : Option ℕ → Option Made → Option ℕ
asked event None = None
asked event (Some made) = asked_of event made

-- of a step's call, and of the accepted replies of s to a in the step
pub record Facts (s e a : ℕ) (st after : State) (o : Option Made) (rs : List (List ℕ)) : Type 0 where
  pub written : is_reply_of s a o ≡ true → texts_told (a ∷ []) o ≡ text_lines rs
  pub unborn : st.births ≤ a → rs ≡ []
  pub new : (b : ℕ) → asked (Some e) o ≡ Some b → b ≡ st.births
  pub untold : texts_told [] o ≡ []
  -- nobody replies to who isn't born, and to an agent of s nobody else
  pub unreplied : st.births ≤ a → is_reply_of s a o ≡ true
  pub of_owner : IsOwned s a st → is_reply_of s a o ≡ true
  -- if s asks for a, that is the next to be born, and s owns it
  pub asks : is_asking_of s a o ≡ true → (a ≡ st.births) × IsOwned s a after

no_facts : (s e a : ℕ) (st after : State) → Facts s e a st after None []
no_facts s e a st after = record {
  written = λ of. refl;
  unborn = λ low. refl;
  new = λ b bad. absurd (cc);
  untold = refl;
  unreplied = λ low. refl;
  of_owner = λ owned. refl;
  asks = λ bad. differ (sym bad);
}

eqb_turned : (m n : ℕ) → eqb m n ≡ eqb n m
eqb_turned m n = by_same (cases_eq m n)
  where
    by_same : (m ≡ n) ⊎ (m ≢ n) → eqb m n ≡ eqb n m
    by_same (inl same) = eq-eqb m n same ∙ sym (eq-eqb n m (sym same))
    by_same (inr other) = ne_eqb m n other ∙ sym (ne_eqb n m (λ e. other (sym e)))

one_line : (text : List ℕ) (z p q d any : Bool) → p ≡ q → (d ≡ true → any ≡ z) → (not (q && z) || d) ≡ true
    → cond z (cond (p || false) (text ++ 10 ∷ []) []) [] ≡ text_lines (cond (d && any) (cond q (text ∷ []) []) [])
one_line text false p q true true same agrees of = differ (agrees refl)
one_line text false p q true false same agrees of = refl
one_line text false p q false any same agrees of = refl
one_line text true true true true true same agrees of = sym (append-nil (text ++ 10 ∷ []))
one_line text true true true true false same agrees of = differ (sym (agrees refl))
one_line text true true true false any same agrees of = absurd (cc)
one_line text true true false d any same agrees of = differ same
one_line text true false true d any same agrees of = differ (sym same)
one_line text true false false true true same agrees of = refl
one_line text true false false true false same agrees of = refl
one_line text true false false false any same agrees of = refl

no_line : (a : ℕ) (b : Bool) (c : Call) → reply_to a c ≡ [] → cond b (reply_to a c) [] ≡ []
no_line a true c none = none
no_line a false c none = refl

none_of : {X : Type 0} (b : Bool) (xs : List X) → xs ≡ [] → cond b xs [] ≡ []
none_of true xs none = none
none_of false xs none = refl

-- an accepted reply of another is refuted
reply_so : (z q d : Bool) → (z ≡ true → q ≡ true → d ≡ false → ⊥) → (not (q && z) || d) ≡ true
reply_so z false d refuted = refl
reply_so false true d refuted = refl
reply_so true true true refuted = refl
reply_so true true false refuted = absurd (refuted refl refl refl)

module _ (s e a : ℕ) (st after : State) (was : Lawful st None) (t : ℕ) where
  -- what comes of it where s is given a
  abbrev pub Bears : Call → Type 0
  Bears c = births_by c ≡ 0 → t ≡ s → a ≡ st.births → a < after.births → IsOwned s a after

  module _ (rest : List Effect) where
    abbrev z : Bool
    z = last_zero false (answers_to t rest)

    -- by the call's own words
    facts_made : (c : Call) → Bears c → Heard t st c after (answers_to t rest) → (m : Made) → m.call ≡ c → m.tid ≡ t
        → m.zero ≡ last_zero false (answers_to t rest) → m.thread ≡ last_thread None (answers_to t rest)
        → Facts s e a st after (Some m) (replies_of_step s a (effect.Called t c ∷ rest))
    facts_made c bears heard m call_is tid_is zero_is thread_is = by_kind (kind_of c)
      where
        told_is : (agents : List ℕ) → texts_told agents (Some m) ≡ cond z (reply_line agents c) []
        told_is agents = λ i. cond (zero_is i) (reply_line agents (call_is i)) []

        of_is : is_reply_of s a (Some m) ≡ (not (is_reply_to a c && z) || eqb t s)
        of_is = λ i. not (is_reply_to a (call_is i) && zero_is i) || eqb (tid_is i) s

        any_is : (v : ℕ) (text : List ℕ) → c ≡ call.Reply v text → eqb t s ≡ true → list_any (is_told s is_zero) rest ≡ z
        any_is v text is same = told_any s rest ∙ ap (λ n. list_any is_zero (answers_to n rest)) (sym (eqb-true t s same)) ∙ sym (heard.reply v text is).0

        asked_is : asked (Some e) (Some m) ≡ cond (is_event (Some e) (agent_event c)) (last_thread None (answers_to t rest)) None
        asked_is = λ i. cond (is_event (Some e) (agent_event (call_is i))) (thread_is i) None

        asking_is : is_asking_of s a (Some m) ≡ ((is_some (agent_event c) && passes (λ b. eqb b a) (last_thread None (answers_to t rest))) && eqb t s)
        asking_is = λ i. (is_some (agent_event (call_is i)) && passes (λ b. eqb b a) (thread_is i)) && eqb (tid_is i) s

        -- what asks for no agent
        not_asking : (o : Option ℕ) → o ≡ None → agent_event c ≡ o → is_asking_of s a (Some m) ≡ true → (a ≡ st.births) × IsOwned s a after
        not_asking o none is asking =
            differ (sym asking ∙ asking_is ∙ ap (λ o. (is_some o && passes (λ b. eqb b a) (last_thread None (answers_to t rest))) && eqb t s) (is ∙ none))

        -- what is no reply to a
        not_reply : is_reply_to a c ≡ false → is_reply_of s a (Some m) ≡ true
        not_reply none = of_is ∙ ap (λ b. not (b && z) || eqb t s) none

        never : (o : Option ℕ) → o ≡ None → (b : ℕ) → asked (Some e) (Some m) ≡ Some b → agent_event c ≡ o → b ≡ st.births
        never o none b given is = absurd (let bad : None
            ≡ Some b = sym (ap (λ o. cond (is_event (Some e) o) (last_thread None (answers_to t rest)) None) (is ∙ none)) ∙ sym asked_is ∙ given in
            cc)

        by_kind : Kind c → Facts s e a st after (Some m) (replies_of_step s a (effect.Called t c ∷ rest))
        by_kind (IsOther lines replies unsaid asks) = record {
          written = λ of. told_is (a ∷ []) ∙ none_of z (reply_line (a ∷ []) c) (lines (a ∷ []))
              ∙ ap text_lines (sym (no_line a (eqb t s && list_any (is_told s is_zero) rest) c (replies a)));
          unborn = λ low. no_line a (eqb t s && list_any (is_told s is_zero) rest) c (replies a);
          new = λ b given. never None refl b given asks;
          untold = told_is [] ∙ none_of z (reply_line [] c) (lines []);
          unreplied = λ low. not_reply (unsaid a);
          of_owner = λ owned. not_reply (unsaid a);
          asks = not_asking None refl asks;
        }
        by_kind (IsAgent n is) = record {
          written = λ of. told_is (a ∷ []) ∙ none_of z (reply_line (a ∷ []) c) (ap (reply_line (a ∷ [])) is)
              ∙ ap text_lines (sym (no_line a (eqb t s && list_any (is_told s is_zero) rest) c (ap (reply_to a) is)));
          unborn = λ low. no_line a (eqb t s && list_any (is_told s is_zero) rest) c (ap (reply_to a) is);
          new = λ b given. by_event b (eqb n e)
              (sym (ap (λ o. cond (is_event (Some e) o) (last_thread None (answers_to t rest)) None) (ap agent_event is)) ∙ sym asked_is ∙ given);
          untold = told_is [] ∙ none_of z (reply_line [] c) (ap (reply_line []) is);
          unreplied = λ low. not_reply (ap (is_reply_to a) is);
          of_owner = λ owned. not_reply (ap (is_reply_to a) is);
          asks = λ asking.
              by_parts (and_parts (is_some (agent_event c) && passes (λ b. eqb b a) (last_thread None (answers_to t rest))) (eqb t s) (sym asking_is ∙ asking));
        }
          where
            by_event : (b : ℕ) (d : Bool) → cond d (last_thread None (answers_to t rest)) None ≡ Some b → b ≡ st.births
            by_event b true given = (heard.agent n b is given).next
            by_event b false given = absurd (cc)

            by_thread : (o : Option ℕ) → last_thread None (answers_to t rest) ≡ o → passes (λ b. eqb b a) o ≡ true → eqb t s ≡ true
                → (a ≡ st.births) × IsOwned s a after
            by_thread None none bad caller = differ (sym bad)
            by_thread (Some b) given same caller =
                let new = heard.agent n b is given in
                let next : a ≡ st.births = sym (eqb-true b a same) ∙ new.next in
                (next, bears (ap births_by is) (eqb-true t s caller) next (omega (arith, eqb-true b a same, new.born)))

            by_parts : ((is_some (agent_event c) && passes (λ b. eqb b a) (last_thread None (answers_to t rest))) ≡ true) × (eqb t s ≡ true)
                → (a ≡ st.births) × IsOwned s a after
            by_parts both = by_thread (last_thread None (answers_to t rest)) refl
                (and_parts (is_some (agent_event c)) (passes (λ b. eqb b a) (last_thread None (answers_to t rest))) both.0).1 both.1
        by_kind (IsReply v text is) = record {
          written = λ of. told_is (a ∷ []) ∙ ap (λ c. cond z (reply_line (a ∷ []) c) []) is
              ∙ one_line text z (eqb a v) (eqb v a) (eqb t s) (list_any (is_told s is_zero) rest) (eqb_turned a v) (any_is v text is)
              (sym (ap (λ c. not (is_reply_to a c && z) || eqb t s) is) ∙ sym of_is ∙ of)
              ∙ ap (λ c. text_lines (cond (eqb t s && list_any (is_told s is_zero) rest) (reply_to a c) [])) (sym is);
          unborn = λ low. ap (λ c. cond (eqb t s && list_any (is_told s is_zero) rest) (reply_to a c) []) is
              ∙ by_tests low (eqb t s) (list_any (is_told s is_zero) rest) (eqb v a) refl refl refl;
          new = λ b given. never None refl b given (ap agent_event is);
          untold = told_is [] ∙ none_of z (reply_line [] c) (ap (reply_line []) is);
          unreplied = λ low. of_is ∙ ap (λ c. not (is_reply_to a c && z) || eqb t s) is
              ∙ reply_so z (eqb v a) (eqb t s) (λ accepted same other. unborn_reply low accepted same);
          of_owner = λ owned. of_is ∙ ap (λ c. not (is_reply_to a c && z) || eqb t s) is
              ∙ reply_so z (eqb v a) (eqb t s) (λ accepted same other. others_reply owned accepted same other);
          asks = not_asking None refl (ap agent_event is);
        }
          where
            -- whom an accepted reply goes to
            replied_to : z ≡ true → eqb v a ≡ true → IsRepliedTo t a st
            replied_to accepted same =
                subst (λ n. IsRepliedTo t n st) (eqb-true v a same) ((heard.reply v text is).1 (sym (heard.reply v text is).0 ∙ accepted))

            unborn_reply : st.births ≤ a → z ≡ true → eqb v a ≡ true → ⊥
            unborn_reply low accepted same = differ (sym (replied_to accepted same).there ∙ unborn_absent st was a low)

            others_reply : IsOwned s a st → z ≡ true → eqb v a ≡ true → eqb t s ≡ false → ⊥
            others_reply owned accepted same other =
                let to = replied_to accepted same in
                differ (sym (eq-eqb t s (same_owner s t a st to.there (owned_thread s a st owned) owned.no_other to.owned)) ∙ other)

            by_tests : st.births ≤ a → (d any q : Bool) → eqb t s ≡ d → list_any (is_told s is_zero) rest ≡ any → eqb v a ≡ q
                → cond (d && any) (cond q (text ∷ []) []) [] ≡ []
            by_tests low false any q e f g = refl
            by_tests low true false q e f g = refl
            by_tests low true true false e f g = refl
            by_tests low true true true e f g = absurd (unborn_reply low (sym (any_is v text is e) ∙ f) g)

    facts_called : (c : Call) → Bears c → Heard t st c after (answers_to t rest)
        → Facts s e a st after (call_of_effects (effect.Called t c ∷ rest)) (replies_of_step s a (effect.Called t c ∷ rest))
    facts_called c bears heard =
        let m = unanswered_call t c in
        subst (λ o. Facts s e a st after o (replies_of_step s a (effect.Called t c ∷ rest))) (sym (call_stays m rest))
        (facts_made c bears heard (fold call_after_effect m rest) (same_call m rest).0 (same_call m rest).1 (heard_call m rest).0 (heard_call m rest).1)

  facts_said : (c : Call) (es : List Effect) → Bears c → Says t st c after es → Facts s e a st after (call_of_effects es) (replies_of_step s a es)
  facts_said c es bears says =
      subst (λ es. Facts s e a st after (call_of_effects es) (replies_of_step s a es)) (sym says.is) (facts_called says.rest c bears says.heard)

  pub facts_form : (c : Call) (es : List Effect) → Bears c → Form t st c after es → Facts s e a st after (call_of_effects es) (replies_of_step s a es)
  facts_form c es bears (Plain says) = facts_said c es bears says
  facts_form c es bears (Behind n fs is says) =
      subst (λ es. Facts s e a st after (call_of_effects es) (replies_of_step s a es)) (sym is) (facts_said c fs bears says)
  facts_form c es bears (Muffled none mute) =
      subst (λ o. Facts s e a st after o (replies_of_step s a es)) (sym none) (subst (Facts s e a st after None) (sym (mute s a)) (no_facts s e a st after))

-- ---- over a session

-- some more after these
record More (xs ys : List ℕ) : Type 0 where
  rest : List ℕ
  is : ys ≡ xs ++ rest

fold_push : {X Y : Type 0} (f : Y → X → Y) (z : Y) (xs : List X) (x : X) → fold f z (xs ++ x ∷ []) ≡ f (fold f z xs) x
fold_push f z [] x = refl
fold_push f z (y ∷ ys) x = fold_push f (f z y) ys x

module _ {B : Type 0} (setting : Setting B) (s e a : ℕ) where
  abbrev made_of : Session B → Option Took → Sessions.Made
  made_of session None = record { take = None; effects = (move setting.next setting.bodies session.live).effects }
  made_of session (Some took) = record { take = Some took; effects = (take_move setting.bodies took session.live).effects }

  abbrev call_of : Session B → Option Took → Option Made
  call_of session m = call_in (made_of session m).take (made_of session m).effects

  abbrev known : Session B → Known
  known session = known_after_steps (Some e) session.steps

  abbrev said : Session B → List (List ℕ)
  said session = replies_accepted s a (steps_of session.steps)

  pushed : (session : Session B) (m : Option Took) → (after_move setting session m).steps ≡ session.steps ++ made_of session m ∷ []
  pushed session None = refl
  pushed session (Some took) = refl

  agents_then : (session : Session B) (m : Option Took)
      → (known (after_move setting session m)).agents ≡ with_agent (known session).agents (asked (Some e) (call_of session m))
  agents_then session m = ap (λ steps. (known_after_steps (Some e) steps).agents) (pushed session m)
      ∙ ap (λ (k : Known). k.agents) (fold_push (known_after_step (Some e)) nothing_known session.steps (made_of session m)) ∙ by_call (call_of session m)
    where
      by_call : (o : Option Made) → agents_after (Some e) (known session).agents o ≡ with_agent (known session).agents (asked (Some e) o)
      by_call None = refl
      by_call (Some made) = refl

  replies_then : (session : Session B) (m : Option Took)
      → (known (after_move setting session m)).replies ≡ (known session).replies ++ texts_told (known session).agents (call_of session m)
  replies_then session m = ap (λ steps. (known_after_steps (Some e) steps).replies) (pushed session m)
      ∙ ap (λ (k : Known). k.replies) (fold_push (known_after_step (Some e)) nothing_known session.steps (made_of session m))

  said_then : (session : Session B) (m : Option Took) → said (after_move setting session m) ≡ said session ++ replies_of_step s a (made_of session m).effects
  said_then session m = ap (λ steps. replies_accepted s a (steps_of steps)) (pushed session m)
      ∙ ap (replies_accepted s a) (map-append step_of session.steps (made_of session m ∷ []))
      ∙ flat_map-append (λ (step : Step). replies_of_step s a step.effects) (steps_of session.steps) (step_of (made_of session m) ∷ [])
      ∙ ap (λ xs. said session ++ xs) (append-nil (replies_of_step s a (made_of session m).effects))

  -- ---- a move

  move_facts : (session : Session B) (m : Option Took) → Lawful session.live.pod.state None
      → Facts s e a session.live.pod.state (after_move setting session m).live.pod.state (call_of session m) (replies_of_step s a (made_of session m).effects)
  unfolding move call_move take_move
  move_facts session None was = by_choice (choice session.live.pod.state) refl
    where
      pod : EventState
      pod = session.live.pod

      by_row : (t : ℕ) → choice pod.state ≡ Some t → (o : Option (Row B))
          → Facts s e a pod.state (move_row setting.next setting.bodies session.live t o).live.pod.state
          (call_of_effects (move_row setting.next setting.bodies session.live t o).effects)
          (replies_of_step s a (move_row setting.next setting.bodies session.live t o).effects)
      by_row t turn None = no_facts s e a pod.state pod.state
      by_row t turn (Some row) =
          let c = (setting.next row.body (names_for_poll t session.live.names) row.answer).0 in
          facts_form s e a pod.state (event_step pod c).after.state was t c (event_step pod c).effects
          (λ none caller next born. owned_at_birth s t a pod was c turn none caller (omega (arith, next)) born) (form_of pod was t turn c)

      by_choice : (o : Option ℕ) → choice pod.state ≡ o
          → Facts s e a pod.state (move_by setting.next setting.bodies session.live o).live.pod.state
          (call_of_effects (move_by setting.next setting.bodies session.live o).effects)
          (replies_of_step s a (move_by setting.next setting.bodies session.live o).effects)
      by_choice None is = no_facts s e a pod.state pod.state
      by_choice (Some t) is = by_row t is (row_of t session.live.rows)
  move_facts session (Some took) was =
      subst (Facts s e a session.live.pod.state (after_move setting session (Some took)).live.pod.state None)
      (sym ((others_reply_nothing s a session.live.pod).1 took.event took.line.text))
      (no_facts s e a session.live.pod.state (after_move setting session (Some took)).live.pod.state)

  -- the agents so far stay
  agents_stay : (moves : List (Option Took)) (session : Session B) → More (known session).agents (known (after_moves setting moves session)).agents
  agents_stay [] session = record { rest = []; is = sym (append-nil (known session).agents) }
  agents_stay (m ∷ ms) session = by_asked (asked (Some e) (call_of session m)) (agents_then session m) (agents_stay ms (after_move setting session m))
    where
      by_asked : (o : Option ℕ) → (known (after_move setting session m)).agents ≡ with_agent (known session).agents o
          → More (known (after_move setting session m)).agents (known (after_moves setting ms (after_move setting session m))).agents
          → More (known session).agents (known (after_moves setting ms (after_move setting session m))).agents
      by_asked None is more = record { rest = more.rest; is = more.is ∙ ap (λ xs. xs ++ more.rest) is }
      by_asked (Some b) is more = record {
        rest = b ∷ more.rest;
        is = more.is ∙ ap (λ xs. xs ++ more.rest) is ∙ append_assoc (known session).agents (b ∷ []) more.rest;
      }

  first_is : (agents end : List ℕ) (b : ℕ) → agents ≡ b ∷ [] → end ≡ a ∷ [] → More agents end → b ≡ a
  first_is agents end b one last more = let same : b ∷ more.rest ≡ a ∷ [] = sym (more.is ∙ ap (λ xs. xs ++ more.rest) one) ∙ last in cc

  no_second : (agents end : List ℕ) (b : ℕ) → agents ≡ a ∷ b ∷ [] → end ≡ a ∷ [] → More agents end → ⊥
  no_second agents end b two last more = let same : a ∷ b ∷ more.rest ≡ a ∷ [] = sym (more.is ∙ ap (λ xs. xs ++ more.rest) two) ∙ last in cc

  -- before the agent is made it isn't born
  unborn_before : (moves : List (Option Took)) (session : Session B) → Lawful session.live.pod.state None → CanGoOn setting moves session
      → (known session).agents ≡ [] → (known (after_moves setting moves session)).agents ≡ a ∷ [] → session.live.pod.state.births ≤ a
  unborn_before [] session was can none last = absurd (let bad : [] ≡ a ∷ [] = sym none ∙ last in cc)
  unborn_before (m ∷ ms) session was can none last =
      by_asked (asked (Some e) (call_of session m)) refl (agents_then session m ∙ ap (λ xs. with_agent xs (asked (Some e) (call_of session m))) none)
      (λ still. unborn_before ms (after_move setting session m) (moved_lawful setting session m can.0 was) can.1 still last)
    where
      by_asked : (o : Option ℕ) → asked (Some e) (call_of session m) ≡ o
          → (known (after_move setting session m)).agents ≡ with_agent [] (asked (Some e) (call_of session m))
          → ((known (after_move setting session m)).agents ≡ [] → (after_move setting session m).live.pod.state.births ≤ a) → session.live.pod.state.births ≤ a
      by_asked None is agents later = omega (arith, later (agents ∙ ap (with_agent []) is), (moved_fades setting 0 session m).births)
      by_asked (Some b) is agents later =
          let same = first_is (known (after_move setting session m)).agents
          (known (after_moves setting ms (after_move setting session m))).agents b (agents ∙ ap (with_agent []) is) last
          (agents_stay ms (after_move setting session m)) in
          omega (arith, same, (move_facts session m was).new b is)

  -- what was told so far are the replies, from the birth of the agent on
  data Stage (session : Session B) : Type 0 where
    Before : (known session).agents ≡ [] → (known session).replies ≡ [] → said session ≡ [] → Stage session
    During : (known session).agents ≡ a ∷ [] → (known session).replies ≡ text_lines (said session) → Stage session

  spelled_append : (xs ys : List (List ℕ)) → text_lines xs ++ text_lines ys ≡ text_lines (xs ++ ys)
  spelled_append xs ys = sym (flat_map-append (λ (text : List ℕ). text ++ 10 ∷ []) xs ys)

  both_none : {X : Type 0} (xs ys : List X) → xs ≡ [] → ys ≡ [] → xs ++ ys ≡ []
  both_none xs ys one two = λ i. one i ++ two i

  stage_next : (session : Session B) (m : Option Took) → Lawful session.live.pod.state None
      → ((known session).agents ≡ [] → session.live.pod.state.births ≤ a) → is_reply_of s a (call_of session m) ≡ true
      → (end : List ℕ) → end ≡ a ∷ [] → More (known (after_move setting session m)).agents end → Stage session → Stage (after_move setting session m)
  stage_next session m was low of end last more (Before none unsaid silent) =
      by_asked (asked (Some e) (call_of session m)) (agents_then session m ∙ ap (λ xs. with_agent xs (asked (Some e) (call_of session m))) none)
    where
      facts : Facts s e a session.live.pod.state (after_move setting session m).live.pod.state (call_of session m)
          (replies_of_step s a (made_of session m).effects)
      facts = move_facts session m was

      said_none : said (after_move setting session m) ≡ []
      said_none = said_then session m ∙ both_none (said session) (replies_of_step s a (made_of session m).effects) silent (facts.unborn (low none))

      replies_none : (known (after_move setting session m)).replies ≡ []
      replies_none = replies_then session m
          ∙ both_none (known session).replies (texts_told (known session).agents (call_of session m)) unsaid
          (ap (λ xs. texts_told xs (call_of session m)) none ∙ facts.untold)

      by_asked : (o : Option ℕ) → (known (after_move setting session m)).agents ≡ with_agent [] o → Stage (after_move setting session m)
      by_asked None agents = Before agents replies_none said_none
      by_asked (Some b) agents =
          During (agents ∙ ap (λ n. n ∷ []) (first_is (known (after_move setting session m)).agents end b agents last more))
          (replies_none ∙ ap text_lines (sym said_none))
  stage_next session m was low of end last more (During one told_so) =
      by_asked (asked (Some e) (call_of session m)) (agents_then session m ∙ ap (λ xs. with_agent xs (asked (Some e) (call_of session m))) one)
    where
      facts : Facts s e a session.live.pod.state (after_move setting session m).live.pod.state (call_of session m)
          (replies_of_step s a (made_of session m).effects)
      facts = move_facts session m was

      replies_so : (known (after_move setting session m)).replies ≡ text_lines (said (after_move setting session m))
      replies_so = replies_then session m ∙ (λ i. told_so i ++ (ap (λ xs. texts_told xs (call_of session m)) one ∙ facts.written of) i)
          ∙ spelled_append (said session) (replies_of_step s a (made_of session m).effects) ∙ ap text_lines (sym (said_then session m))

      by_asked : (o : Option ℕ) → (known (after_move setting session m)).agents ≡ with_agent (a ∷ []) o → Stage (after_move setting session m)
      by_asked None agents = During agents replies_so
      by_asked (Some b) agents = absurd (no_second (known (after_move setting session m)).agents end b agents last more)

  -- of the steps in the end, those so far pass, and the next one
  passes_next : (session : Session B) (m : Option Took) (end : List Sessions.Made) → Grows setting (after_move setting session m).steps end
      → replies_are_of s a end ≡ true → is_reply_of s a (call_of session m) ≡ true
  passes_next session m end grows all =
      let is : end
      ≡ session.steps
      ++ (made_of session m ∷ grows.rest) = grows.is ∙ ap (λ xs. xs ++ grows.rest) (pushed session m)
      ∙ append_assoc session.steps (made_of session m ∷ []) grows.rest in
      let parts = and_parts (replies_are_of s a session.steps) (replies_are_of s a (made_of session m ∷ grows.rest))
      (sym (list_all-append (λ (step : Sessions.Made). is_reply_of s a (call_in step.take step.effects)) session.steps (made_of session m ∷ grows.rest))
      ∙ ap (replies_are_of s a) (sym is) ∙ all) in
      (and_parts (is_reply_of s a (call_of session m)) (replies_are_of s a grows.rest) parts.1).0

  stages : (moves : List (Option Took)) (session : Session B) → Lawful session.live.pod.state None → CanGoOn setting moves session
      → Stage session → (known (after_moves setting moves session)).agents ≡ a ∷ []
      → replies_are_of s a (after_moves setting moves session).steps ≡ true → Stage (after_moves setting moves session)
  stages [] session was can stage last all = stage
  stages (m ∷ ms) session was can stage last all =
      let next = after_move setting session m in
      stages ms next (moved_lawful setting session m can.0 was) can.1
      (stage_next session m was (λ none. unborn_before (m ∷ ms) session was can none last)
      (passes_next session m (after_moves setting ms next).steps (gone_grows setting ms next) all)
      (known (after_moves setting ms next)).agents last (agents_stay ms next) stage)
      last all

  written_of : (session : Session B) → (known session).agents ≡ a ∷ [] → Stage session → (known session).replies ≡ text_lines (said session)
  written_of session last (Before none unsaid silent) = absurd (let bad : [] ≡ a ∷ [] = sym none ∙ last in cc)
  written_of session last (During one told_so) = told_so

  -- ---- who replies to an agent

  -- a isn't born yet, or was and s hasn't asked for it, or s owns it; in the first case and the last all replies to it so far are of s
  data Holding (session : Session B) : Type 0 where
    Unborn : session.live.pod.state.births ≤ a → owns s a session.steps ≡ false → replies_are_of s a session.steps ≡ true → Holding session
    Anothers : a < session.live.pod.state.births → owns s a session.steps ≡ false → Holding session
    Held : IsOwned s a session.live.pod.state → replies_are_of s a session.steps ≡ true → Holding session

  replies_next : (session : Session B) (m : Option Took) → replies_are_of s a session.steps ≡ true
      → is_reply_of s a (call_of session m) ≡ true → replies_are_of s a (after_move setting session m).steps ≡ true
  replies_next session m so next =
      ap (replies_are_of s a) (pushed session m)
      ∙ list_all-append (λ (step : Sessions.Made). is_reply_of s a (call_in step.take step.effects)) session.steps (made_of session m ∷ [])
      ∙ and_from (replies_are_of s a session.steps) (replies_are_of s a (made_of session m ∷ [])) so
      (and_from (is_reply_of s a (call_of session m)) true next refl)

  owns_push : (steps : List Sessions.Made) (step : Sessions.Made) → owns s a steps ≡ false
      → is_asking_of s a (call_in step.take step.effects) ≡ false → owns s a (steps ++ step ∷ []) ≡ false
  owns_push [] step none next = rw next refl
  owns_push (x ∷ steps) step none next =
      let parts = or_parts (is_asking_of s a (call_in x.take x.effects)) (owns s a steps) none in
      rw (parts.0) (owns_push steps step parts.1 next)

  owns_next : (session : Session B) (m : Option Took) → owns s a session.steps ≡ false → is_asking_of s a (call_of session m) ≡ false
      → owns s a (after_move setting session m).steps ≡ false
  owns_next session m so next = ap (owns s a) (pushed session m) ∙ owns_push session.steps (made_of session m) so next

  moved_owned : (session : Session B) (m : Option Took) → IsOwned s a session.live.pod.state → IsOwned s a (after_move setting session m).live.pod.state
  unfolding move call_move take_move
  moved_owned session None owned = by_choice (choice session.live.pod.state)
    where
      by_row : (t : ℕ) (o : Option (Row B)) → IsOwned s a (move_row setting.next setting.bodies session.live t o).live.pod.state
      by_row t None = owned
      by_row t (Some row) = owned_by_call s a session.live.pod (setting.next row.body (names_for_poll t session.live.names) row.answer).0 owned

      by_choice : (o : Option ℕ) → IsOwned s a (move_by setting.next setting.bodies session.live o).live.pod.state
      by_choice None = owned
      by_choice (Some t) = by_row t (row_of t session.live.rows)
  moved_owned session (Some took) owned = owned_by_take s a session.live.pod took.event took.line.text owned

  holding_next : (session : Session B) (m : Option Took) → Lawful session.live.pod.state None → Holding session → Holding (after_move setting session m)
  holding_next session m was (Held owned of) = Held (moved_owned session m owned) (replies_next session m of ((move_facts session m was).of_owner owned))
  holding_next session m was (Anothers high none) = by_asking (is_asking_of s a (call_of session m)) refl
    where
      by_asking : (b : Bool) → is_asking_of s a (call_of session m) ≡ b → Holding (after_move setting session m)
      by_asking true asking = absurd (omega (arith, high, ((move_facts session m was).asks asking).0))
      by_asking false silent = Anothers (omega (arith, high, (moved_fades setting 0 session m).births)) (owns_next session m none silent)
  holding_next session m was (Unborn low none of) = by_asking (is_asking_of s a (call_of session m)) refl
    where
      next : Session B
      next = after_move setting session m

      of_next : replies_are_of s a next.steps ≡ true
      of_next = replies_next session m of ((move_facts session m was).unreplied low)

      by_births : owns s a next.steps ≡ false → (a < next.live.pod.state.births) ⊎ (next.live.pod.state.births ≤ a) → Holding next
      by_births none (inl high) = Anothers high none
      by_births none (inr low) = Unborn low none of_next

      by_asking : (b : Bool) → is_asking_of s a (call_of session m) ≡ b → Holding next
      by_asking true asking = Held ((move_facts session m was).asks asking).1 of_next
      by_asking false silent = by_births (owns_next session m none silent) (cases_lt a next.live.pod.state.births)

  holdings : (moves : List (Option Took)) (session : Session B) → Lawful session.live.pod.state None → CanGoOn setting moves session
      → Holding session → Holding (after_moves setting moves session)
  holdings [] session was can holding = holding
  holdings (m ∷ ms) session was can holding =
      holdings ms (after_move setting session m) (moved_lawful setting session m can.0 was) can.1 (holding_next session m was holding)

  held_replies : (session : Session B) → owns s a session.steps ≡ true → Holding session → replies_are_of s a session.steps ≡ true
  held_replies session its (Unborn low none of) = of
  held_replies session its (Anothers high none) = differ (sym its ∙ none)
  held_replies session its (Held owned of) = of

pub owners_alone_reply : (B : Type 0) → OwnersAloneReply B
owners_alone_reply B setting least most takes n defined s a its =
    let r = sessions_are_reached B setting takes n defined in
    let start = opening_session setting in
    let is : (play setting takes n).steps ≡ (after_moves setting r.moves start).steps = ap (λ (x : Session B). x.steps) r.is in
    ap (replies_are_of s a) is
    ∙ held_replies setting s 0 a (after_moves setting r.moves start) (ap (owns s a) (sym is) ∙ its)
    (holdings setting s 0 a r.moves start (Lawful-opening setting.params least most) r.can (opened (cases_lt a start.live.pod.state.births)))
  where
    opened : (a < (opening_session setting).live.pod.state.births) ⊎ ((opening_session setting).live.pod.state.births ≤ a)
        → Holding setting s 0 a (opening_session setting)
    opened (inl high) = Anothers high refl
    opened (inr low) = Unborn low refl refl

pub replies_are_written : (B : Type 0) → RepliesAreWritten B
unfolding replies_in
replies_are_written B setting least most takes n defined s e a agents of =
    let r = sessions_are_reached B setting takes n defined in
    let start = opening_session setting in
    let is : (play setting takes n).steps ≡ (after_moves setting r.moves start).steps = ap (λ (x : Session B). x.steps) r.is in
    let last : (known_after_steps (Some e) (after_moves setting r.moves start).steps).agents
    ≡ a ∷ [] = ap (λ steps. (known_after_steps (Some e) steps).agents) (sym is) ∙ agents in
    ap (λ steps. (known_after_steps (Some e) steps).replies) is
    ∙ written_of setting s e a (after_moves setting r.moves start) last (stages setting s e a r.moves start
    (Lawful-opening setting.params least most) r.can (Before refl refl refl) last (ap (replies_are_of s a) (sym is) ∙ of))
    ∙ ap (λ steps. text_lines (replies_accepted s a (steps_of steps))) (sym is)

pub clients_are_written : ClientsAreWritten
clients_are_written script least most takes n defined s k in_s in_k event place apart early begins_s body_s begins_k body_k serves lines
    client e a event_is agents of =
    record {
      texts = replies_accepted s a (steps_of (session_at script takes n).steps);
      first = from_null_names (bodies_of script) (params_of script) (length script.names.threads) (length script.names.mons)
          (length script.names.conds) least most takes n defined s k in_s in_k event place apart early begins_s body_s begins_k body_k serves lines a;
      written = ap (λ o. replies_in o (session_at script takes n).steps) event_is
          ∙ replies_are_written ThreadBody (setting_of script) least most takes n defined s e a agents of;
    }
