-- What a call of another does to a thread that attends, in a pod with its own events.
use Rattle.answer_laws.proofs.Dying.{not_destroyed, thread_said}
use Rattle.answer_laws.proofs.Leaving.{Ready}
use Rattle.answer_laws.proofs.Others.{attends_of, deliver_turn, step_turn}
use Rattle.answer_laws.proofs.Sights.{Attends, Turn, Turn.Left, Turn.Woken, answers_append, attends_after, turn_then}
use Rattle.answer_laws.proofs.TalkSteps.{Ends, Ends.Destroys, Ends.Spared, ends_of}
use Rattle.answer_laws.specs.Events.{IsSentOrReported, PodsLeaveIt, TakesLeaveIt, machine_of}
use Rattle.answer_laws.specs.Sights.{IsDelivered, IsLeft, IsWoken, Spares, answers_to, attends, open_letters}
use Rattle.lwp_types.specs.Agents.{deliver, is_event_armed}
use Rattle.lwp_types.specs.Choice.{choice}
use Rattle.lwp_types.specs.CountLaws.{count-append}
use Rattle.lwp_types.specs.Counts.{timers_of}
use Rattle.lwp_types.specs.Lawful.{Lawful}
use Rattle.lwp_types.specs.Messages.{takes_from}
use Rattle.lwp_types.specs.State.{Outcome, State, and_then, is_thread, passes}
use Rattle.lwp_types.specs.Step.{step, step_by, step_if}
use Rattle.lwp_types.specs.Unblock.{is_timer_of}
use Rattle.lwp_types.specs.declared.call.Answer.{Answer}
use Rattle.lwp_types.specs.declared.call.Call.{Call}
use Rattle.lwp_types.specs.declared.call.Effect.{Effect}
use Rattle.lwp_types.specs.declared.call.LwpErr.{LwpErr}
use Rattle.pod_events.specs.Events.{EventState, after_pass_on, after_take_trap, is_trapped, rites_event, take_event}
use Rattle.pod_events.specs.Rites.{after_first_report, as_rites, report_text, reports_after, after_rites}
use Rattle.pod_events.specs.Step.{event_step, event_step_by, event_step_if}
use Rattle.pod_events.specs.Traps.{after_call, after_call_as, after_machine_step, after_trap, after_trap_and_call, agent_event_of}
use Rattle.pod_events.specs.Traps.{but_call, is_catch, is_given, notice, after_refusal, trap_of, trap_refusal}
use Rattle.pod_laws.proofs.EveryStep.{Lawful-step}
use Rattle.pod_laws.proofs.TimerMoves.{no_timer_comes_unasked}
use Rattle.pod_laws.specs.Timers.{ticks_of, timers_of_call, timers_by}
use Rattle.std.proofs.Common.{Bool, List, None, Option, Some, [], ap, arith, cond, count_by, drop, eqb, false}
use Rattle.std.proofs.Common.{inl, inr, refl, subst, sym, true, ℕ, ◌++◌, ◌∙◌, ◌∷◌, ◌≡◌, ◌≢◌, ◌⊎◌}
use Rattle.std.proofs.lemmas.Bool.{eq-eqb, ne_eqb}
use Rattle.std.specs.Prelude.{is_some, map}
use Rattle.lwp_types.specs.declared.call.Answer.TheVariants as answer
use Rattle.lwp_types.specs.declared.call.Call.TheVariants as call
use Rattle.lwp_types.specs.declared.call.Effect.TheVariants as effect
use Rattle.lwp_types.specs.declared.call.LwpErr.TheVariants as error
use Rattle.lwp_types.specs.declared.rows.Block.TheVariants as block

-- a report answers as the delivery that it is
pub rites_same : (u dead : ℕ) (es : List Effect) → answers_to u (map (as_rites dead) es) ≡ answers_to u es
rites_same u dead [] = refl
rites_same u dead (e ∷ es) = answers_append u (as_rites dead e ∷ []) (map (as_rites dead) es)
    ∙ (λ i. one_same e i ++ rites_same u dead es i) ∙ sym (answers_append u (e ∷ []) es)
  where
    one_same : (e : Effect) → answers_to u (as_rites dead e ∷ []) ≡ answers_to u (e ∷ [])
    one_same (effect.Called t c) = refl
    one_same (effect.Answered t a) = refl
    one_same (effect.Exited t reg c a) = refl
    one_same (effect.Died t) = refl
    one_same (effect.Delivered a f) = refl
    one_same (effect.Ticked now) = refl
    one_same (effect.Ended status) = refl
    one_same (effect.Trapped t f) = refl
    one_same (effect.Rites a d) = refl

module _ (u : ℕ) (Fits : Option ℕ → Answer → Type 0) (s : State) where
  -- other effects that answer alike
  turn_as : (out : Outcome) (es : List Effect) → answers_to u es ≡ answers_to u out.effects → Turn u Fits s out
      → Turn u Fits s (record { after = out.after; effects = es })
  turn_as out es same (Left a) = Left (record { same = a.same; quiet = same ∙ a.quiet })
  turn_as out es same (Woken a) =
      Woken (record { from = a.from; waited = a.waited; goes_on = a.goes_on; heard = a.heard; told = same ∙ a.told; right = a.right })

  as_turn : (out : Outcome) → IsLeft u s out ⊎ IsWoken u Fits s out → Turn u Fits s out
  as_turn out (inl a) = Left a
  as_turn out (inr a) = Woken a

  of_turn : (out : Outcome) → Turn u Fits s out → IsLeft u s out ⊎ IsWoken u Fits s out
  of_turn out (Left a) = inl a
  of_turn out (Woken a) = inr a

-- without its call a step answers alike
pub but_same : (u : ℕ) (s : State) (c : Call) → answers_to u (drop 1 (step s c).effects) ≡ answers_to u (step s c).effects
unfolding step step_by
but_same u s c = by_choice (choice s)
  where
    by_choice : (o : Option ℕ) → answers_to u (drop 1 (step_if s c o).effects) ≡ answers_to u (step_if s c o).effects
    by_choice None = refl
    by_choice (Some v) = refl

abbrev is_notice : Call → Bool
is_notice (call.ExcNotify e) = true
is_notice _ = false

abbrev is_send : Call → Bool
is_send (call.Send u room text) = true
is_send _ = false

-- how the machine stands before the report
pub record Calls (u : ℕ) (Fits : Option ℕ → Answer → Type 0) (s after : State) (es : List Effect) : Type 0 where
  pub turn : Turn u Fits s (record { after = after; effects = es })
  pub lawful : Lawful after None
  pub timers : timers_of after.timers u ≡ 0

module _ (u t : ℕ) (Fits : Option ℕ → Answer → Type 0) (s : State) (was : Lawful s None) (turn : choice s ≡ Some t) (apart : t ≢ u)
    (ready : Ready u Fits t s) (none : timers_of s.timers u ≡ 0) where
  abbrev After : State → List Effect → Type 0
  After after es = Calls u Fits s after es

  -- no timer comes but the caller's
  step_timers : (c : Call) → timers_of (step s c).after.timers u ≡ 0
  step_timers c = omega (
    arith,
    none,
    (no_timer_comes_unasked s (is_timer_of u)).called c,
    count-append (is_timer_of u) s.timers (timers_of_call s (choice s) c),
    ap (λ o. count_by (is_timer_of u) (timers_of_call s o c)) turn,
    by_ticks (ticks_of c),
  )
    where
      by_ticks : (o : Option ℕ) → count_by (is_timer_of u) (timers_by s t o) ≡ 0
      by_ticks None = refl
      by_ticks (Some ticks) = rw (ne_eqb t u apart) refl

  -- the call spares it and those to whom it has written; or it is there after the call, and has written to nobody
  abbrev Fine : Call → State → Type 0
  Fine c after = Spares s u c ⊎ ((is_thread after u ≡ true) × ((v : ℕ) → open_letters s u v ≡ 0))

  spared_by : (c : Call) → Fine c (step s c).after → Spares s u c
  spared_by c (inl spared) = spared
  spared_by c (inr alive) = by_end (ends_of c)
    where
      by_end : Ends c → Spares s u c
      by_end (Spared fine free) = fine s u
      by_end (Destroys v e) = subst (Spares s u) (sym e) (not_destroyed s was t u v turn (ap is_some ready.attends.known) c e alive.0, alive.1 v)

  -- a call of the machine
  after_step : (c : Call) → Spares s u c
      → ((room : ℕ) (text : List ℕ) → c ≡ call.Send u room text → (from : Option ℕ) → takes_from t (block.Receiving from) ≡ true
      → Fits from (answer.Letter t text room))
      → After (step s c).after (step s c).effects
  after_step c spared sent = record {
    turn = as_turn u Fits s (step s c) (step_turn u t Fits s was turn apart ready c spared sent);
    lawful = Lawful-step s was c;
    timers = step_timers c;
  }

  -- a call that the machine doesn't see
  after_none : (c : Call) (a : Answer) → After s (effect.Called t c ∷ effect.Answered t a ∷ [])
  after_none c a = record { turn = Left (record { same = refl; quiet = rw (ne_eqb t u apart) refl }); lawful = was; timers = none }

  -- without the call itself
  after_but : (c : Call) → After (step s c).after (step s c).effects → After (but_call (step s c)).after (but_call (step s c)).effects
  after_but c calls = record {
    turn = turn_as u Fits s (step s c) (drop 1 (step s c).effects) (but_same u s c) calls.turn;
    lawful = calls.lawful;
    timers = calls.timers;
  }

  -- after a trap
  after_trapped : (e : ℕ) (after : State) (es : List Effect) → After after es → After after (effect.Trapped t e ∷ es)
  after_trapped e after es calls = record {
    turn = turn_as u Fits s (record { after = after; effects = es }) (effect.Trapped t e ∷ es) refl calls.turn;
    lawful = calls.lawful;
    timers = calls.timers;
  }

  module _ (trapped : List Bool) (c : Call) (sent : (room : ℕ) (text : List ℕ) → c ≡ call.Send u room text → (from : Option ℕ)
      → takes_from t (block.Receiving from) ≡ true → Fits from (answer.Letter t text room)) where
    after_made : Fine c (after_call s trapped t c).state → After (after_call s trapped t c).state (after_call s trapped t c).effects
    after_made = by_trap (trap_of c)
      where
        by_refusal : (e : ℕ) (o : Option LwpErr) → Fine c (after_trap s trapped t c e o).state
            → After (after_trap s trapped t c e o).state (after_trap s trapped t c e o).effects
        by_refusal e None fine = after_none c _
        by_refusal e (Some why) fine = after_none c _

        by_agent : (b : Bool) → Fine c (cond b (after_refusal s trapped t c error.InUse) (after_machine_step trapped (step s c))).state
            → After (cond b (after_refusal s trapped t c error.InUse) (after_machine_step trapped (step s c))).state
            (cond b (after_refusal s trapped t c error.InUse) (after_machine_step trapped (step s c))).effects
        by_agent true fine = after_none c _
        by_agent false fine = after_step c (spared_by c fine) sent

        by_trap : (o : Option ℕ) → Fine c (after_call_as s trapped t c o).state
            → After (after_call_as s trapped t c o).state (after_call_as s trapped t c o).effects
        by_trap None fine = by_agent (passes (is_trapped trapped) (agent_event_of c)) fine
        by_trap (Some e) fine = by_refusal e (trap_refusal s trapped e) fine

    pub after_called : (pending : Option ℕ) → Fine c (after_trap_and_call s trapped t c pending).state
        → After (after_trap_and_call s trapped t c pending).state (after_trap_and_call s trapped t c pending).effects
    after_called None fine = after_made fine
    after_called (Some e) fine = by_given (passes is_given (notice s t e)) (passes is_catch (notice s t e)) fine
      where
        by_given : (b d : Bool)
            → Fine c (cond b (after_call s trapped t c) (cond d (after_machine_step trapped (but_call (step s (call.ExcNotify e))))
            (after_machine_step trapped (but_call (step s (call.Destroy t)))))).state
            → After
            (cond b (after_call s trapped t c) (cond d (after_machine_step trapped (but_call (step s (call.ExcNotify e))))
            (after_machine_step trapped (but_call (step s (call.Destroy t)))))).state
            (effect.Trapped t e
            ∷ (cond b (after_call s trapped t c) (cond d (after_machine_step trapped (but_call (step s (call.ExcNotify e))))
            (after_machine_step trapped (but_call (step s (call.Destroy t)))))).effects)
        by_given true d fine = after_trapped e _ _ (after_made fine)
        by_given false true fine = after_trapped e _ _
            (after_but (call.ExcNotify e) (after_step (call.ExcNotify e) tt (λ room text no. absurd (let bad : true ≡ false = ap is_notice no in cc))))
        by_given false false fine = after_trapped e _ _ (after_but (call.Destroy t)
            (after_step (call.Destroy t) (ne_eqb t u apart, ready.away) (λ room text no. absurd (let bad : false ≡ true = ap is_send no in cc))))

-- and then the report
after_said : (u : ℕ) (Fits : Option ℕ → Answer → Type 0) (from s : State) (es : List Effect) (reports : List ℕ) → Attends u Fits from
    → ((dead agent : ℕ) (f : Option ℕ) → takes_from agent (block.Receiving f) ≡ true → Fits f (answer.Letter agent (report_text dead) 240))
    → Calls u Fits from s es
    → Turn u Fits from (record { after = (after_rites s es reports).state; effects = (after_rites s es reports).effects })
unfolding and_then
after_said u Fits from s es reports here fits calls = by_armed (is_event_armed s rites_event) reports
  where
    by_armed : (b : Bool) (rs : List ℕ)
        → Turn u Fits from (record {
          after = (cond b (after_first_report s es rs) (record { state = s; reports = rs; effects = es })).state;
          effects = (cond b (after_first_report s es rs) (record { state = s; reports = rs; effects = es })).effects;
        })
    by_armed true [] = calls.turn
    by_armed true (dead ∷ later) =
        let out = deliver s rites_event (report_text dead) in
        let told = deliver_turn u Fits s calls.lawful.nine (attends_after u Fits from (record { after = s; effects = es }) here calls.turn)
        calls.timers rites_event (report_text dead) (fits dead) in
        turn_as u Fits from (record { after = out.after; effects = es ++ out.effects }) (es ++ map (as_rites dead) out.effects)
        (answers_append u es (map (as_rites dead) out.effects) ∙ ap (λ x. answers_to u es ++ x) (rites_same u dead out.effects)
        ∙ sym (answers_append u es out.effects))
        (turn_then u Fits from (record { after = s; effects = es }) (λ now. deliver now rites_event (report_text dead)) calls.turn told)
    by_armed false rs = calls.turn

module _ (es : EventState) (was : Lawful es.state None) (t u : ℕ) (turn : choice es.state ≡ Some t) (other : eqb t u ≡ false)
    (attentive : attends es.state u ≡ true) (none : timers_of es.state.timers u ≡ 0) (away : open_letters es.state u t ≡ 0) (c : Call) where
  abbrev FitsCall : Option ℕ → Answer → Type 0
  FitsCall from heard = IsSentOrReported t u c from heard

  apart : t ≢ u
  apart e = let bad : true ≡ false = sym (eq-eqb t u e) ∙ other in cc

  ready : Ready u FitsCall t es.state
  ready = record { attends = attends_of u FitsCall es.state attentive; away = away }

  abbrev FineCall : State → Type 0
  FineCall after = Fine u t FitsCall es.state was turn apart ready none c after

  fine_before : (after : State) (fs : List Effect) (reports : List ℕ) → FineCall (after_rites after fs reports).state → FineCall after
  fine_before after fs reports (inl spared) = inl spared
  fine_before after fs reports (inr alive) = inr (sym (thread_said u after fs reports) ∙ alive.0, alive.1)

  fine_leave_it : FineCall (event_step es c).after.state
      → IsLeft u es.state (machine_of (event_step es c)) ⊎ IsWoken u FitsCall es.state (machine_of (event_step es c))
  unfolding event_step event_step_by
  fine_leave_it fine =
      let out = after_trap_and_call es.state es.trapped t c es.pending in
      subst
      (λ o. FineCall (event_step_if es c o).after.state
      → IsLeft u es.state (machine_of (event_step_if es c o)) ⊎ IsWoken u FitsCall es.state (machine_of (event_step_if es c o)))
      (sym turn)
      (λ fine. of_turn u FitsCall es.state _ (after_said u FitsCall es.state out.state out.effects (reports_after es.state out.state
      es.reports out.effects) ready.attends (λ dead agent f takes. inr (dead, record { agent = agent; letter = refl; named = takes }))
      (after_called u t FitsCall es.state was turn apart ready none es.trapped c
      (λ room text e from takes. inl (record { room = room; text = text; sends = e; letter = refl; named = takes })) es.pending
      (fine_before out.state out.effects (reports_after es.state out.state es.reports out.effects) fine)))) fine

pub pods_leave_it : PodsLeaveIt
pods_leave_it es was t u turn other attentive none away c spared = fine_leave_it es was t u turn other attentive none away c (inl spared)

-- a thread that is there after the call, and has written to nobody, was spared
pub living_is_left : (es : EventState) → Lawful es.state None → (t u : ℕ) → choice es.state ≡ Some t → eqb t u ≡ false
    → attends es.state u ≡ true → timers_of es.state.timers u ≡ 0 → ((v : ℕ) → open_letters es.state u v ≡ 0)
    → (c : Call) → is_thread (event_step es c).after.state u ≡ true
    → IsLeft u es.state (machine_of (event_step es c)) ⊎ IsWoken u (IsSentOrReported t u c) es.state (machine_of (event_step es c))
living_is_left es was t u turn other attentive none away c lives = fine_leave_it es was t u turn other attentive none (away t) c (inr (lives, away))

pub takes_leave_it : TakesLeaveIt
unfolding take_event
takes_leave_it es was u attentive none e text = by_trapped (is_trapped es.trapped e)
  where
    Fits : Option ℕ → Answer → Type 0
    Fits from heard = IsDelivered text from heard

    by_trapped : (b : Bool)
        → IsLeft u es.state (machine_of (cond b (after_take_trap es e) (after_pass_on es (deliver es.state e text))))
        ⊎ IsWoken u Fits es.state (machine_of (cond b (after_take_trap es e) (after_pass_on es (deliver es.state e text))))
    by_trapped true = inl (record { same = refl; quiet = refl })
    by_trapped false = of_turn u Fits es.state (deliver es.state e text) (deliver_turn u Fits es.state was.nine
        (attends_of u Fits es.state attentive) none e text (λ agent from takes. record { agent = agent; letter = refl; named = takes }))
