-- No event is both trapped and heard by an agent.
use Rattle.lwp_types.specs.Choice.{choice}
use Rattle.lwp_types.specs.State.{State, passes}
use Rattle.lwp_types.specs.Step.{step}
use Rattle.lwp_types.specs.declared.call.Call.{Call}
use Rattle.lwp_types.specs.declared.call.Call.TheVariants as call
use Rattle.lwp_types.specs.declared.call.LwpErr.{LwpErr}
use Rattle.lwp_types.specs.declared.call.LwpErr.TheVariants as error
use Rattle.lwp_types.specs.Agents.{deliver}
use Rattle.pod_events.proofs.Carried.{call_unjoined, take_unjoined}
use Rattle.pod_events.proofs.Takes.{none_trapped}
use Rattle.pod_events.specs.Events.{EventState, after_pass_on, after_take_trap, has_agent, is_trapped, take_event}
use Rattle.pod_events.specs.Laws.{TrapsAreUnheard, TrapsHaveNoAgents}
use Rattle.pod_events.specs.Moves.{EventMove, ToCall, ToTake, after_moves, event_move}
use Rattle.pod_events.specs.Step.{event_step, event_step_by, event_step_if}
use Rattle.pod_events.specs.Traps.{after_call, after_call_as, after_machine_step, after_refusal, after_trap, after_trap_and_call}
use Rattle.pod_events.specs.Traps.{agent_event_of, but_call, is_catch, is_given, notice, trap_of, trap_refusal}
use Rattle.std.proofs.Common.{Bool, List, None, Option, Some, [], ap, cond, eqb, false, inl, inr, refl, sym, true, ℕ, ◌∙◌, ◌∷◌, ◌≡◌, ◌||◌, ◌⊎◌}
use Rattle.std.proofs.lemmas.Bool.{cases_eq, ne_eqb, or_parts}
use Rattle.std.proofs.lemmas.List.{get_or-set_other}
use Rattle.std.specs.Prelude.{nat_lt}

-- what a Trap takes has no agent
free_of : (s : State) (trapped : List Bool) (e : ℕ) → trap_refusal s trapped e ≡ None → has_agent s e ≡ false
free_of s trapped e accepted = by_range (eqb e 0 || nat_lt 31 e) (is_trapped trapped e || has_agent s e) refl accepted
  where
    by_range : (b d : Bool) → (is_trapped trapped e || has_agent s e) ≡ d
        → ◌≡◌ {A = Option LwpErr} (cond b (Some error.InvalidArg) (cond d (Some error.InUse) None)) None → has_agent s e ≡ false
    by_range true d is h = absurd (cc)
    by_range false true is h = absurd (cc)
    by_range false false is h = (or_parts (is_trapped trapped e) (has_agent s e) is).1

trap_asks_none : (c : Call) (e : ℕ) → trap_of c ≡ Some e → agent_event_of c ≡ None
trap_asks_none (call.Agent f) e is = absurd (cc)
trap_asks_none _ e is = refl

-- an event that is trapped after a call was trapped before; or it has no agent, and the call is no Agent
abbrev IsSourceOf : EventState → Call → ℕ → Type 0
IsSourceOf es c f = (is_trapped es.trapped f ≡ true) ⊎ ((has_agent es.state f ≡ false) × (agent_event_of c ≡ None))

module _ (es : EventState) (t : ℕ) (c : Call) (f : ℕ) where
  call_source : is_trapped (after_call es.state es.trapped t c).trapped f ≡ true → IsSourceOf es c f
  call_source = by_trap (trap_of c) refl
    where
      by_refusal : (e : ℕ) → trap_of c ≡ Some e → (o : Option LwpErr) → trap_refusal es.state es.trapped e ≡ o
          → is_trapped (after_trap es.state es.trapped t c e o).trapped f ≡ true → IsSourceOf es c f
      by_refusal e asks None accepted is = elim (cases_eq f e) [
        | inl same ↦ inr (ap (has_agent es.state) same ∙ free_of es.state es.trapped e accepted, trap_asks_none c e asks)
        | inr away ↦ inl (sym (get_or-set_other es.trapped e f true false away) ∙ is)
      ]
      by_refusal e asks (Some why) refused is = inl is

      by_agent : (b : Bool)
          → is_trapped (cond b (after_refusal es.state es.trapped t c error.InUse) (after_machine_step es.trapped (step es.state c))).trapped f ≡ true
          → IsSourceOf es c f
      by_agent true is = inl is
      by_agent false is = inl is

      by_trap : (o : Option ℕ) → trap_of c ≡ o → is_trapped (after_call_as es.state es.trapped t c o).trapped f ≡ true → IsSourceOf es c f
      by_trap None none = by_agent (passes (is_trapped es.trapped) (agent_event_of c))
      by_trap (Some e) asks = by_refusal e asks (trap_refusal es.state es.trapped e) refl

  trapped_source : (pending : Option ℕ) → is_trapped (after_trap_and_call es.state es.trapped t c pending).trapped f ≡ true → IsSourceOf es c f
  trapped_source None = call_source
  trapped_source (Some e) = by_given (passes is_given (notice es.state t e)) (passes is_catch (notice es.state t e))
    where
      by_given : (b d : Bool)
          → is_trapped
          (cond b (after_call es.state es.trapped t c) (cond d (after_machine_step es.trapped (but_call (step es.state (call.ExcNotify e))))
          (after_machine_step es.trapped (but_call (step es.state (call.Destroy t)))))).trapped
          f
          ≡ true
          → IsSourceOf es c f
      by_given true d = call_source
      by_given false true = λ is. inl is
      by_given false false = λ is. inl is

step_source : (es : EventState) (c : Call) (f : ℕ) → is_trapped (event_step es c).after.trapped f ≡ true → IsSourceOf es c f
unfolding event_step event_step_by
step_source es c f = by_choice (choice es.state)
  where
    by_choice : (o : Option ℕ) → is_trapped (event_step_if es c o).after.trapped f ≡ true → IsSourceOf es c f
    by_choice None is = inl is
    by_choice (Some t) is = trapped_source es t c f es.pending is

step_unheard : (es : EventState) (c : Call) → TrapsAreUnheard es → TrapsAreUnheard (event_step es c).after
step_unheard es c apart f is = by_source (step_source es c f is)
  where
    kept : ((e : ℕ) → agent_event_of c ≡ Some e → is_trapped es.trapped e ≡ false → eqb e f ≡ false) → has_agent es.state f ≡ false
        → has_agent (event_step es c).after.state f ≡ false
    kept other none = call_unjoined (λ n e owner. eqb e f) es c (λ t e chosen asks free. other e asks free) none

    by_source : IsSourceOf es c f → has_agent (event_step es c).after.state f ≡ false
    by_source (inl was) = kept (λ e asks free. ne_eqb e f (λ same. cc (free, was, same))) (apart f was)
    by_source (inr fresh) = kept (λ e asks free. absurd (cc (fresh.1, asks))) (fresh.0)

-- a line that is taken leaves the traps as they are
take_traps : (es : EventState) (e : ℕ) (text : List ℕ) (f : ℕ) → is_trapped es.trapped f ≡ is_trapped (take_event es e text).after.trapped f
unfolding take_event
take_traps es e text f = by_trapped (is_trapped es.trapped e)
  where
    by_trapped : (b : Bool) → is_trapped es.trapped f ≡ is_trapped (cond b (after_take_trap es e) (after_pass_on es (deliver es.state e text))).after.trapped f
    by_trapped true = refl
    by_trapped false = refl

take_unheard : (es : EventState) (e : ℕ) (text : List ℕ) → TrapsAreUnheard es → TrapsAreUnheard (take_event es e text).after
take_unheard es e text apart f is = take_unjoined (λ n g owner. eqb g f) es e text (apart f (take_traps es e text f ∙ is))

move_unheard : (es : EventState) (move : EventMove) → TrapsAreUnheard es → TrapsAreUnheard (event_move es move).after
move_unheard es (ToCall c) apart = step_unheard es c apart
move_unheard es (ToTake e text) apart = take_unheard es e text apart

moves_unheard : (moves : List EventMove) (es : EventState) → TrapsAreUnheard es → TrapsAreUnheard (after_moves moves es)
moves_unheard [] es apart = apart
moves_unheard (move ∷ moves) es apart = moves_unheard moves (event_move es move).after (move_unheard es move apart)

pub traps_have_no_agents : TrapsHaveNoAgents
traps_have_no_agents = (λ s e is. absurd (cc (none_trapped 32 e, is)), moves_unheard)
