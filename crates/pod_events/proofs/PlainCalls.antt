-- A call that is the machine's alone, where no trap is to be raised and no report waits.
use Rattle.lwp_types.specs.State.{State, passes}
use Rattle.lwp_types.specs.Step.{step}
use Rattle.lwp_types.specs.declared.call.Call.{Call}
use Rattle.lwp_types.specs.declared.call.Effect.{Effect}
use Rattle.lwp_types.specs.declared.call.LwpErr.TheVariants as error
use Rattle.pod_events.proofs.Notified.{turn_of}
use Rattle.pod_events.proofs.QuietPods.{said-none}
use Rattle.pod_events.proofs.Tolls.{step_deathless, step_kept, step_unjoined}
use Rattle.pod_events.specs.Events.{EventOutcome, EventState, after_pass_on, has_agent, is_trapped, rites_event}
use Rattle.pod_events.specs.Fates.{asks_no_event, births_by, is_machines, is_plain, victim}
use Rattle.pod_events.specs.Machine.{call_effects, current_of}
use Rattle.pod_events.specs.Rites.{dead_to_report, deaths, reports_after, after_rites}
use Rattle.pod_events.specs.Step.{after_settle, event_step, event_step_by, event_step_if, leads, leads_if, with_rites}
use Rattle.pod_events.specs.Traps.{after_call_as, after_machine_step, after_trap_and_call, agent_event_of, lead, after_refusal, trap_of}
use Rattle.std.proofs.Common.{Bool, Err, List, None, Ok, OnErr, OnOk, Option, Result, Some, [], ap, arith, cond, eqb, false}
use Rattle.std.proofs.Common.{inl, inr, length, not, refl, sym, true, ℕ, ◌&&◌, ◌++◌, ◌+◌, ◌∙◌, ◌≡◌, ◌≤◌, ◌⊎◌, ◌||◌}
use Rattle.std.proofs.lemmas.Bool.{and_parts}
use Rattle.std.specs.Prelude.{is_none, is_some}

nothing_of : {X : Type 0} (o : Option X) → is_none o ≡ true → o ≡ None
nothing_of None h = refl
nothing_of (Some x) h = absurd (cc)

-- what makes a call the machine's alone: nobody dies by it, or nobody hears of deaths
pub record Alone (s : State) (t : ℕ) (c : Call) : Type 0 where
  pub no_trap : trap_of c ≡ None
  pub no_agent : agent_event_of c ≡ None
  pub unheard_deaths : (victim t c ≡ None) ⊎ (has_agent s rites_event ≡ false)

pub alone_parts : (s : State) (t : ℕ) (c : Call) → is_machines s t c ≡ true → Alone s t c
alone_parts s t c alone = by_plain (is_plain t c) refl alone
  where
    unheard : (b : Bool) → not b ≡ true → b ≡ false
    unheard true h = absurd (cc)
    unheard false h = refl

    by_plain : (b : Bool) → is_plain t c ≡ b → (b || (asks_no_event c && not (has_agent s rites_event))) ≡ true → Alone s t c
    by_plain true plain h =
        let three = and_parts ((is_none (victim t c) && eqb (births_by c) 0) && is_none (trap_of c)) (is_none (agent_event_of c)) plain in
        let two = and_parts (is_none (victim t c) && eqb (births_by c) 0) (is_none (trap_of c)) three.0 in
        let one = and_parts (is_none (victim t c)) (eqb (births_by c) 0) two.0 in
        record {
          no_trap = nothing_of (trap_of c) two.1;
          no_agent = nothing_of (agent_event_of c) three.1;
          unheard_deaths = inl (nothing_of (victim t c) one.0);
        }
    by_plain false plain h =
        let both = and_parts (asks_no_event c) (not (has_agent s rites_event)) h in
        let none = and_parts (is_none (trap_of c)) (is_none (agent_event_of c)) both.0 in
        record {
          no_trap = nothing_of (trap_of c) none.0;
          no_agent = nothing_of (agent_event_of c) none.1;
          unheard_deaths = inr (unheard (has_agent s rites_event) both.1);
        }

module _ (es : EventState) (t : ℕ) (c : Call) (turn : current_of es.state ≡ Some t) (alone : Alone es.state t c) (none : es.pending ≡ None) where
  called_alone : after_trap_and_call es.state es.trapped t c es.pending ≡ after_machine_step es.trapped (step es.state c)
  called_alone =
      ap (after_trap_and_call es.state es.trapped t c) none
      ∙ ap (after_call_as es.state es.trapped t c) alone.no_trap
      ∙ ap
      (λ o. cond (passes (is_trapped es.trapped) o) (after_refusal es.state es.trapped t c error.InUse) (after_machine_step es.trapped (step es.state c)))
      alone.no_agent

  -- nobody is there after it who wasn't before, but for the newborn
  pub alone_lives : length (step es.state c).after.threads ≤ length es.state.threads + births_by c
  alone_lives = step_kept es.state t (turn_of es.state t turn).chosen c

  module _ (empty : es.reports ≡ []) where
    none_noted : reports_after es.state (step es.state c).after es.reports (step es.state c).effects ≡ []
    none_noted = ap (λ rs. cond (has_agent (step es.state c).after rites_event) (rs ++ dead_to_report es.state (deaths (step es.state c).effects)) []) empty
        ∙ by_cause alone.unheard_deaths
      where
        either : (b : Bool) → ◌≡◌ {A = List ℕ} (cond b [] []) []
        either true = refl
        either false = refl

        by_cause : (victim t c ≡ None) ⊎ (has_agent es.state rites_event ≡ false)
            → cond (has_agent (step es.state c).after rites_event) (dead_to_report es.state (deaths (step es.state c).effects)) [] ≡ []
        by_cause (inl nobody) =
            ap (λ ds. cond (has_agent (step es.state c).after rites_event) (dead_to_report es.state ds) [])
            (step_deathless es.state t (turn_of es.state t turn).chosen c nobody)
            ∙ either (has_agent (step es.state c).after rites_event)
        by_cause (inr silent) = ap (λ b. cond b (dead_to_report es.state (deaths (step es.state c).effects)) []) (step_unjoined es.state t
            (turn_of es.state t turn).chosen c (λ n e owner. eqb e rites_event) (ap (passes (λ e. eqb e rites_event)) alone.no_agent) silent)

    alone_step : event_step es c ≡ after_pass_on es (step es.state c)
    unfolding event_step event_step_by
    alone_step =
        ap (event_step_if es c) (turn_of es.state t turn).chosen
        ∙ ap (with_rites es) called_alone
        ∙ ap (λ rs. after_settle es.trapped (after_rites (step es.state c).after (step es.state c).effects rs)) none_noted
        ∙ ap (after_settle es.trapped) (said-none (step es.state c).after (step es.state c).effects)
        ∙ ap (λ (o : Option ℕ).
        record { after = record { state = (step es.state c).after; trapped = es.trapped; pending = o; reports = [] }; effects = (step es.state c).effects })
        (sym none)
        ∙ ap (λ (rs : List ℕ). record {
          after = record { state = (step es.state c).after; trapped = es.trapped; pending = es.pending; reports = rs };
          effects = (step es.state c).effects;
        })
        (sym empty)

    pub alone_after : record es { state = (step es.state c).after } ≡ (event_step es c).after
    alone_after = sym (ap (λ (o : EventOutcome). o.after) alone_step)

    -- the call itself, and what the machine told
    pub alone_effects : (told : List Effect) → call_effects (current_of es.state) c ++ told ≡ (step es.state c).effects
        → leads es c ++ told ≡ (event_step es c).effects
    alone_effects told same =
        ap (λ o. leads_if es.pending c o ++ told) (turn_of es.state t turn).chosen
        ∙ ap (λ o. lead o t c ++ told) none
        ∙ sym (ap (λ o. call_effects o c ++ told) turn)
        ∙ same
        ∙ sym (ap (λ (o : EventOutcome). o.effects) alone_step)

-- whose turn it is, by a test that finds it
pub somebody : (o : Option ℕ) → is_some o ≡ true → (t : ℕ) × (o ≡ Some t)
somebody None h = absurd (cc)
somebody (Some t) h = (t, refl)

-- what holds where the machine answers, and what follows from it
pub on_ok : {T E P Q : Type 0} (r : Result T E) → (P → Q) → OnOk r P → OnOk r Q
on_ok (Ok x) f h = f h
on_ok (Err e) f h = tt

-- whether the machine answers or refuses, no more threads are there than were paid for
pub no_more : {T E : Type 0} (births : ℕ) (r : Result T E) (now then before : State) → OnOk r (now ≡ then) → OnErr r (now ≡ before)
    → length then.threads ≤ length before.threads + births → length now.threads ≤ length before.threads + births
no_more births (Ok x) now then before ok err fewer = omega (arith, fewer, ap (λ (s : State). length s.threads) ok)
no_more births (Err e) now then before ok err fewer = omega (arith, ap (λ (s : State). length s.threads) err)

pub none_pends : (o : Option ℕ) (b : Bool) → is_some o ≡ not b → b ≡ true → o ≡ None
none_pends None b h is = refl
none_pends (Some e) b h is = absurd (cc (h, ap not is))
