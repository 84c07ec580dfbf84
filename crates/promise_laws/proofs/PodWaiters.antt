-- In a call of a pod with its own events, who waits for one that dies is told so once, and rightly.
use Rattle.lwp_types.specs.Agents.{deliver, is_event_armed}
use Rattle.lwp_types.specs.Choice.{choice}
use Rattle.lwp_types.specs.CountLaws.{count-append, count-cons, one}
use Rattle.lwp_types.specs.Death.{death}
use Rattle.lwp_types.specs.Lawful.{Lawful}
use Rattle.lwp_types.specs.State.{State, ThreadRow, is_thread, passes, thread_of}
use Rattle.lwp_types.specs.Step.{step, step_by, step_if}
use Rattle.lwp_types.specs.declared.call.Answer.{Answer}
use Rattle.lwp_types.specs.declared.call.Call.{Call}
use Rattle.lwp_types.specs.declared.call.Effect.{Effect}
use Rattle.lwp_types.specs.declared.call.LwpErr.{LwpErr}
use Rattle.lwp_types.specs.declared.call.Call.TheVariants as call
use Rattle.lwp_types.specs.declared.call.Effect.TheVariants as effect
use Rattle.lwp_types.specs.declared.call.LwpErr.TheVariants as error
use Rattle.pod_events.specs.Events.{EventState, after_pass_on, after_take_trap, is_trapped, rites_event, take_event}
use Rattle.pod_events.specs.Moves.{ToCall, ToTake}
use Rattle.pod_events.specs.Rites.{after_first_report, after_rites, as_rites, report_text}
use Rattle.pod_events.specs.Step.{event_step, event_step_by, event_step_if}
use Rattle.pod_events.specs.Traps.{after_call, after_call_as, after_machine_step, after_refusal, after_trap, after_trap_and_call, agent_event_of}
use Rattle.pod_events.specs.Traps.{but_call, is_catch, is_given, notice, trap_of, trap_refusal}
use Rattle.pod_laws.proofs.Absent.{deliveries_are_quiet}
use Rattle.pod_laws.proofs.StepAnswers.{steps_answer_waiters}
use Rattle.pod_laws.proofs.Waiters.{waiters_are_answered}
use Rattle.pod_laws.specs.Forgotten.{is_died}
use Rattle.pod_laws.specs.Waiters.{IsAnsweredOnce, TellsOf, is_nonexist, is_reply, is_told, is_zero}
use Rattle.promise_laws.proofs.Resting.{report_untold, rites_same, step_rests, waits}
use Rattle.promise_laws.specs.Waiters.{PodsAnswerWaiters}
use Rattle.session_laws.proofs.Pods.{dies_in_step}
use Rattle.std.proofs.Common.{Bool, List, None, Option, Some, [], ap, arith, cond, count_by, drop, false}
use Rattle.std.proofs.Common.{map, not, refl, true, ℕ, ◌++◌, ◌∙◌, ◌∷◌, ◌≡◌, ◌≤◌, ◌||◌}

once_as : (u : ℕ) (right : Answer → Bool) (es xs : List Effect) → ((g : Answer → Bool) → count_by (is_told u g) xs ≡ count_by (is_told u g) es)
    → IsAnsweredOnce u right es → IsAnsweredOnce u right xs
once_as u right es xs same was = record { once = same (λ a. true) ∙ was.once; none_wrong = same (λ a. not (right a)) ∙ was.none_wrong }

-- of the death of n the thread u, whose row this is, is told rightly by these effects; and then it waits no more
record Told (s after : State) (es : List Effect) (n u : ℕ) (row : ThreadRow) : Type 0 where
  lives : is_thread s n ≡ true
  tells : TellsOf s n u row es
  rests : count_by (is_told u (λ a. true)) (death n s).effects ≡ 1 → waits u after ≡ 0

-- of each death, each thread
abbrev Tells : State → State → List Effect → Type 0
Tells s after es = (n : ℕ) → 1 ≤ count_by (is_died n) es → (u : ℕ) (row : ThreadRow) → thread_of s u ≡ Some row → Told s after es n u row

tells_step : (s : State) → Lawful s None → (c : Call) → Tells s (step s c).after (step s c).effects
tells_step s was c n some u row known = record {
  lives = (dies_in_step s was c n).lived some;
  tells = steps_answer_waiters s was c n some u row known;
  rests = step_rests u s was c n some;
}

-- nobody dies
tells_none : (s after : State) (es : List Effect) → ((n : ℕ) → count_by (is_died n) es ≡ 0) → Tells s after es
tells_none s after es none n some u row known = absurd (omega (arith, some, none n))

-- other effects that tell of the same deaths and answers
tells_as : (s after : State) (es xs : List Effect) → ((n : ℕ) → count_by (is_died n) xs ≡ count_by (is_died n) es)
    → ((u : ℕ) (g : Answer → Bool) → count_by (is_told u g) xs ≡ count_by (is_told u g) es) → Tells s after es → Tells s after xs
tells_as s after es xs dead told tells n some u row known =
    let was = tells n (omega (arith, some, dead n)) u row known in
    record {
      lives = was.lives;
      tells = record {
        joiner = λ e. once_as u is_zero es xs (told u) (was.tells.joiner e);
        receiver = λ e. once_as u is_nonexist es xs (told u) (was.tells.receiver e);
        sender = λ sends sent. once_as u (λ a. is_nonexist a || is_reply a) es xs (told u) (was.tells.sender sends sent);
      };
      rests = was.rests;
    }

-- ---- a call, before the report

but_call_same : (s : State) (c : Call) (q : Effect → Bool) → ((t : ℕ) → q (effect.Called t c) ≡ false)
    → count_by q (drop 1 (step s c).effects) ≡ count_by q (step s c).effects
unfolding step step_by
but_call_same s c q asks = by_choice (choice s)
  where
    by_choice : (o : Option ℕ) → count_by q (drop 1 (step_if s c o).effects) ≡ count_by q (step_if s c o).effects
    by_choice None = refl
    by_choice (Some u) = omega (arith, count-cons q (effect.Called u c) (drop 1 (step_by s u c).effects), ap one (asks u))

tells_unasked : (s : State) → Lawful s None → (c : Call) → Tells s (but_call (step s c)).after (but_call (step s c)).effects
tells_unasked s was c = tells_as s (step s c).after (step s c).effects (drop 1 (step s c).effects)
    (λ n. but_call_same s c (is_died n) (λ t. refl)) (λ u g. but_call_same s c (is_told u g) (λ t. refl)) (tells_step s was c)

tells_trapped : (s after : State) (es : List Effect) (t e : ℕ) → Tells s after es → Tells s after (effect.Trapped t e ∷ es)
tells_trapped s after es t e tells = tells_as s after es (effect.Trapped t e ∷ es)
    (λ n. omega (arith, count-cons (is_died n) (effect.Trapped t e) es))
    (λ u g. omega (arith, count-cons (is_told u g) (effect.Trapped t e) es)) tells

tells_made : (s : State) → Lawful s None → (trapped : List Bool) (t : ℕ) (c : Call)
    → Tells s (after_call s trapped t c).state (after_call s trapped t c).effects
tells_made s was trapped t c = by_trap (trap_of c)
  where
    by_refusal : (e : ℕ) (o : Option LwpErr) → Tells s (after_trap s trapped t c e o).state (after_trap s trapped t c e o).effects
    by_refusal e None = tells_none s _ _ (λ n. refl)
    by_refusal e (Some why) = tells_none s _ _ (λ n. refl)

    by_agent : (b : Bool)
        → Tells s (cond b (after_refusal s trapped t c error.InUse) (after_machine_step trapped (step s c))).state
        (cond b (after_refusal s trapped t c error.InUse) (after_machine_step trapped (step s c))).effects
    by_agent true = tells_none s _ _ (λ n. refl)
    by_agent false = tells_step s was c

    by_trap : (o : Option ℕ) → Tells s (after_call_as s trapped t c o).state (after_call_as s trapped t c o).effects
    by_trap None = by_agent (passes (is_trapped trapped) (agent_event_of c))
    by_trap (Some e) = by_refusal e (trap_refusal s trapped e)

tells_called : (s : State) → Lawful s None → (trapped : List Bool) (t : ℕ) (c : Call) (pending : Option ℕ)
    → Tells s (after_trap_and_call s trapped t c pending).state (after_trap_and_call s trapped t c pending).effects
tells_called s was trapped t c None = tells_made s was trapped t c
tells_called s was trapped t c (Some e) = by_given (passes is_given (notice s t e)) (passes is_catch (notice s t e))
  where
    by_given : (b d : Bool) → Tells s
        (cond b (after_call s trapped t c) (cond d (after_machine_step trapped (but_call (step s (call.ExcNotify e))))
        (after_machine_step trapped (but_call (step s (call.Destroy t)))))).state
        (effect.Trapped t e
        ∷ (cond b (after_call s trapped t c) (cond d (after_machine_step trapped (but_call (step s (call.ExcNotify e))))
        (after_machine_step trapped (but_call (step s (call.Destroy t)))))).effects)
    by_given true d = tells_trapped s _ _ t e (tells_made s was trapped t c)
    by_given false true = tells_trapped s _ _ t e (tells_unasked s was (call.ExcNotify e))
    by_given false false = tells_trapped s _ _ t e (tells_unasked s was (call.Destroy t))

-- ---- with the report after it

module _ (s : State) (was : Lawful s None) (now : State) (es : List Effect) (tells : Tells s now es) (n u : ℕ) (row : ThreadRow)
    (known : thread_of s u ≡ Some row) where
  reported_tells : (dead : ℕ) → 1 ≤ count_by (is_died n) (es ++ map (as_rites dead) (deliver now rites_event (report_text dead)).effects)
      → TellsOf s n u row (es ++ map (as_rites dead) (deliver now rites_event (report_text dead)).effects)
  reported_tells dead some = record {
    joiner = λ e. with_report is_zero (there.joiner e).once (told.tells.joiner e);
    receiver = λ e. with_report is_nonexist (there.receiver e).once (told.tells.receiver e);
    sender = λ sends sent. with_report (λ a. is_nonexist a || is_reply a) (there.sender sends sent).once (told.tells.sender sends sent);
  }
    where
      died : 1 ≤ count_by (is_died n) es
      died = omega (
        arith,
        some,
        count-append (is_died n) es (map (as_rites dead) (deliver now rites_event (report_text dead)).effects),
        rites_same (is_died n) (λ a f d. refl) dead (deliver now rites_event (report_text dead)).effects,
        (deliveries_are_quiet now rites_event (report_text dead)).deaths n,
      )

      told : Told s now es n u row
      told = tells n died u row known

      there : TellsOf s n u row (death n s).effects
      there = waiters_are_answered s was.nine n told.lives u row known

      with_report : (right : Answer → Bool) → count_by (is_told u (λ a. true)) (death n s).effects ≡ 1 → IsAnsweredOnce u right es
          → IsAnsweredOnce u right (es ++ map (as_rites dead) (deliver now rites_event (report_text dead)).effects)
      with_report right once right_now = once_as u right es (es ++ map (as_rites dead) (deliver now rites_event (report_text dead)).effects) (λ g. omega (
        arith,
        count-append (is_told u g) es (map (as_rites dead) (deliver now rites_event (report_text dead)).effects),
        rites_same (is_told u g) (λ a f d. refl) dead (deliver now rites_event (report_text dead)).effects,
        report_untold u now (report_text dead) (told.rests once) g,
      )) right_now

  said_tells : (reports : List ℕ) → 1 ≤ count_by (is_died n) (after_rites now es reports).effects → TellsOf s n u row (after_rites now es reports).effects
  said_tells reports some = by_armed (is_event_armed now rites_event) reports some
    where
      by_armed : (b : Bool) (rs : List ℕ)
          → 1 ≤ count_by (is_died n) (cond b (after_first_report now es rs) (record { state = now; reports = rs; effects = es })).effects
          → TellsOf s n u row (cond b (after_first_report now es rs) (record { state = now; reports = rs; effects = es })).effects
      by_armed true [] h = (tells n h u row known).tells
      by_armed true (dead ∷ later) h = reported_tells dead h
      by_armed false rs h = (tells n h u row known).tells

call_tells : (es : EventState) → Lawful es.state None → (c : Call) (n : ℕ) → 1 ≤ count_by (is_died n) (event_step es c).effects → (u : ℕ) (row : ThreadRow)
    → thread_of es.state u ≡ Some row → TellsOf es.state n u row (event_step es c).effects
unfolding event_step event_step_by
call_tells es was c n some u row known = by_choice (choice es.state) some
  where
    by_choice : (o : Option ℕ) → 1 ≤ count_by (is_died n) (event_step_if es c o).effects → TellsOf es.state n u row (event_step_if es c o).effects
    by_choice None h = absurd (omega (arith, h))
    by_choice (Some t) h = said_tells es.state was _ _ (tells_called es.state was es.trapped t c es.pending) n u row known _ h

-- nobody dies in a take
take_deathless : (es : EventState) (e : ℕ) (text : List ℕ) (n : ℕ) → count_by (is_died n) (take_event es e text).effects ≡ 0
unfolding take_event
take_deathless es e text n = by_trapped (is_trapped es.trapped e)
  where
    by_trapped : (b : Bool) → count_by (is_died n) (cond b (after_take_trap es e) (after_pass_on es (deliver es.state e text))).effects ≡ 0
    by_trapped true = refl
    by_trapped false = (deliveries_are_quiet es.state e text).deaths n

pub pods_answer_waiters : PodsAnswerWaiters
pods_answer_waiters es was (ToCall c) t some u row known = call_tells es was c t some u row known
pods_answer_waiters es was (ToTake e text) t some u row known = absurd (omega (arith, some, take_deathless es e text t))
