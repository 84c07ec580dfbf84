-- What the machine's steps and deliveries keep of a state, a pod with its own events keeps: by a call, with the trap
-- before it and the report after it, and by a line that is taken.
use Rattle.lwp_types.specs.Agents.{deliver, is_event_armed}
use Rattle.lwp_types.specs.Choice.{choice}
use Rattle.lwp_types.specs.State.{State, passes}
use Rattle.lwp_types.specs.Step.{step}
use Rattle.lwp_types.specs.declared.call.Call.{Call}
use Rattle.lwp_types.specs.declared.call.Call.TheVariants as call
use Rattle.lwp_types.specs.declared.call.Effect.{Effect}
use Rattle.lwp_types.specs.declared.call.LwpErr.{LwpErr}
use Rattle.lwp_types.specs.declared.call.LwpErr.TheVariants as error
use Rattle.pod_events.proofs.Mild.{AgentTest, NoSuchAgent, mild_deliver}
use Rattle.pod_events.proofs.MildCalls.{NoSuchThread}
use Rattle.pod_events.proofs.Tolls.{step_unborn, step_unjoined}
use Rattle.pod_events.specs.Events.{EventState, after_pass_on, after_take_trap, is_trapped, rites_event, take_event}
use Rattle.pod_events.specs.Fates.{births_by}
use Rattle.pod_events.specs.Rites.{after_first_report, after_rites, report_text, reports_after}
use Rattle.pod_events.specs.Step.{event_step, event_step_by, event_step_if}
use Rattle.pod_events.specs.Traps.{after_call, after_call_as, after_machine_step, after_refusal, after_trap, after_trap_and_call}
use Rattle.pod_events.specs.Traps.{agent_event_of, but_call, is_catch, is_given, notice, trap_of, trap_refusal}
use Rattle.std.proofs.Common.{Bool, List, None, Option, Some, [], ap, cond, false, inl, refl, true, ℕ, ◌∙◌, ◌∷◌, ◌≡◌, ◌⊎◌}
use Rattle.std.specs.List.{list_any}

-- by a line
pub take_keeps : (P : State → Type 0) (es : EventState) (e : ℕ) (text : List ℕ)
    → (is_trapped es.trapped e ≡ false → P (deliver es.state e text).after) → P es.state → P (take_event es e text).after.state
unfolding take_event
take_keeps P es e text delivered holds = by_trapped (is_trapped es.trapped e) refl
  where
    by_trapped : (b : Bool) → is_trapped es.trapped e ≡ b → P (cond b (after_take_trap es e) (after_pass_on es (deliver es.state e text))).after.state
    by_trapped true is = holds
    by_trapped false is = delivered is

-- a step that no thread asked for: the call that a trap comes to
abbrev pub IsOwnCall : Call → Type 0
IsOwnCall c = (agent_event_of c ≡ None) × (births_by c ≡ 0)

module _ (P : State → Type 0) (reported : (s : State) → is_event_armed s rites_event ≡ true → (text : List ℕ) → P s
    → P (deliver s rites_event text).after) where
  by_report : (s : State) (es : List Effect) (reports : List ℕ) → P s → P (after_rites s es reports).state
  by_report s es reports holds = by_armed (is_event_armed s rites_event) refl reports
    where
      by_armed : (b : Bool) → is_event_armed s rites_event ≡ b → (rs : List ℕ)
          → P (cond b (after_first_report s es rs) (record { state = s; reports = rs; effects = es })).state
      by_armed true arms [] = holds
      by_armed true arms (dead ∷ later) = reported s arms (report_text dead) holds
      by_armed false arms rs = holds

  module _ (s : State) (trapped : List Bool) (t : ℕ) (c : Call) (holds : P s)
      (asked : passes (is_trapped trapped) (agent_event_of c) ≡ false → P (step s c).after) (unasked : (d : Call) → IsOwnCall d → P (step s d).after) where
    by_call : P (after_call s trapped t c).state
    by_call = by_trap (trap_of c)
      where
        by_refusal : (e : ℕ) (o : Option LwpErr) → P (after_trap s trapped t c e o).state
        by_refusal e None = holds
        by_refusal e (Some why) = holds

        by_agent : (b : Bool) → passes (is_trapped trapped) (agent_event_of c) ≡ b
            → P (cond b (after_refusal s trapped t c error.InUse) (after_machine_step trapped (step s c))).state
        by_agent true is = holds
        by_agent false is = asked is

        by_trap : (o : Option ℕ) → P (after_call_as s trapped t c o).state
        by_trap None = by_agent (passes (is_trapped trapped) (agent_event_of c)) refl
        by_trap (Some e) = by_refusal e (trap_refusal s trapped e)

    by_trap_and_call : (pending : Option ℕ) → P (after_trap_and_call s trapped t c pending).state
    by_trap_and_call None = by_call
    by_trap_and_call (Some e) = by_given (passes is_given (notice s t e)) (passes is_catch (notice s t e))
      where
        by_given : (b d : Bool)
            → P (cond b (after_call s trapped t c) (cond d (after_machine_step trapped (but_call (step s (call.ExcNotify e))))
            (after_machine_step trapped (but_call (step s (call.Destroy t)))))).state
        by_given true d = by_call
        by_given false true = unasked (call.ExcNotify e) (refl, refl)
        by_given false false = unasked (call.Destroy t) (refl, refl)

  -- by a call
  pub call_keeps : (es : EventState) (c : Call)
      → ((t : ℕ) → choice es.state ≡ Some t → passes (is_trapped es.trapped) (agent_event_of c) ≡ false → P (step es.state c).after)
      → ((t : ℕ) → choice es.state ≡ Some t → (d : Call) → IsOwnCall d → P (step es.state d).after) → P es.state → P (event_step es c).after.state
  unfolding event_step event_step_by
  call_keeps es c asked unasked holds = by_choice (choice es.state) refl
    where
      by_choice : (o : Option ℕ) → choice es.state ≡ o → P (event_step_if es c o).after.state
      by_choice None nobody = holds
      by_choice (Some t) chosen =
          let out = after_trap_and_call es.state es.trapped t c es.pending in
          by_report out.state out.effects (reports_after es.state out.state es.reports out.effects)
          (by_trap_and_call es.state es.trapped t c holds (asked t chosen) (unasked t chosen) es.pending)

-- no agent comes by a call but by an Agent of an event that isn't trapped: the caller's, and the next to be born
pub call_unjoined : (p : AgentTest) (es : EventState) (c : Call)
    → ((t e : ℕ) → choice es.state ≡ Some t → agent_event_of c ≡ Some e → is_trapped es.trapped e ≡ false → p es.state.births e t ≡ false)
    → NoSuchAgent p es.state → NoSuchAgent p (event_step es c).after.state
call_unjoined p es c other none = call_keeps (NoSuchAgent p) (λ s arms text none. (mild_deliver s rites_event text).unjoined p none) es c
    (λ t chosen free. step_unjoined es.state t chosen c p (by_event t chosen (agent_event_of c) refl free) none)
    (λ t chosen d own. step_unjoined es.state t chosen d p (ap (passes (λ e. p es.state.births e t)) own.0) none)
    none
  where
    by_event : (t : ℕ) → choice es.state ≡ Some t → (o : Option ℕ) → agent_event_of c ≡ o → passes (is_trapped es.trapped) o ≡ false
        → passes (λ e. p es.state.births e t) o ≡ false
    by_event t chosen None is free = refl
    by_event t chosen (Some e) is free = other t e chosen is free

-- nor a thread but by a Create
pub call_unborn : (q : ℕ → Bool) (es : EventState) (c : Call) → (births_by c ≡ 0) ⊎ (q es.state.births ≡ false) → NoSuchThread q es.state
    → NoSuchThread q (event_step es c).after.state
call_unborn q es c pays none = call_keeps (NoSuchThread q) (λ s arms text none. ap (list_any q) (mild_deliver s rites_event text).lives ∙ none) es c
    (λ t chosen free. step_unborn es.state t chosen c q pays none)
    (λ t chosen d own. step_unborn es.state t chosen d q (inl (own.1)) none)
    none

-- a line brings neither
pub take_unjoined : (p : AgentTest) (es : EventState) (e : ℕ) (text : List ℕ) → NoSuchAgent p es.state → NoSuchAgent p (take_event es e text).after.state
take_unjoined p es e text none = take_keeps (NoSuchAgent p) es e text (λ free. (mild_deliver es.state e text).unjoined p none) none

pub take_unborn : (q : ℕ → Bool) (es : EventState) (e : ℕ) (text : List ℕ) → NoSuchThread q es.state → NoSuchThread q (take_event es e text).after.state
take_unborn q es e text none = take_keeps (NoSuchThread q) es e text (λ free. ap (list_any q) (mild_deliver es.state e text).lives ∙ none) none
