-- Each line that is taken as a trap is raised next.
use Rattle.lwp_types.specs.Agents.{deliver, is_event_armed}
use Rattle.lwp_types.specs.Choice.{choice}
use Rattle.lwp_types.specs.CountLaws.{one}
use Rattle.lwp_types.specs.State.{passes}
use Rattle.lwp_types.specs.declared.call.Call.{Call}
use Rattle.pod_events.proofs.TrapLaws.{traps_are_raised_next, traps_are_raised_once}
use Rattle.pod_events.specs.Events.{EventState, after_pass_on, after_take_trap, has_turn, is_takeable, is_trapped, may_trap, rites_event, take_event}
use Rattle.pod_events.specs.Laws.{RaisesFirst, can_move, is_raised, pends, traps_now}
use Rattle.pod_events.specs.Moves.{EventMove, ToCall, ToTake, event_move}
use Rattle.pod_events.specs.Step.{event_step, event_step_by, event_step_if}
use Rattle.promise_laws.proofs.Steps.{CanGo, in_sessions}
use Rattle.promise_laws.specs.EachStep.{InEachStep}
use Rattle.promise_laws.specs.Traps.{ComesNext, RaisesAll, RaisesTraps, TakesTrap}
use Rattle.session_laws.specs.StepByStep.{SessionsAreStepwise}
use Rattle.std.proofs.Common.{Bool, List, MatchOption, None, Option, Some, [], ap, append-nil, arith, cond, count_by}
use Rattle.std.proofs.Common.{eqb, false, refl, true, ℕ, ◌&&◌, ◌+◌, ◌∙◌, ◌∷◌, ◌≡◌}
use Rattle.std.proofs.lemmas.Bool.{and_parts}
use Rattle.std.specs.Prelude.{is_none, nat_lt}

-- by one move as many are raised or to be raised as were to be before it and are taken by it
one_move : (e : ℕ) (pod : EventState) (move : EventMove) → can_move pod move ≡ true
    → count_by (is_raised e) (event_move pod move).effects + pends e (event_move pod move).after ≡ traps_now e pod move + pends e pod
one_move e pod move may = omega (
  arith,
  traps_are_raised_once e (move ∷ []) pod (may, tt),
  ap (count_by (is_raised e)) (append-nil (event_move pod move).effects),
)

-- where one is to be raised no line of a trapped event is taken
takes_other : (pod : EventState) (f e : ℕ) (text : List ℕ) → is_takeable pod f ≡ true → pod.pending ≡ Some e → (take_event pod f text).after.pending ≡ Some e
unfolding take_event
takes_other pod f e text may pending = by_trapped (is_trapped pod.trapped f) may
  where
    no_more : (o : Option ℕ) → o ≡ Some e → is_none o ≡ true → Some f ≡ Some e
    no_more None is none = absurd (cc)
    no_more (Some g) is none = absurd (cc)

    by_trapped : (b : Bool) → cond b (may_trap pod) (nat_lt f rites_event && is_event_armed pod.state f) ≡ true
        → (cond b (after_take_trap pod f) (after_pass_on pod (deliver pod.state f text))).after.pending ≡ Some e
    by_trapped true h = no_more pod.pending pending (and_parts (is_none pod.pending) (has_turn pod.state) h).0
    by_trapped false h = pending

-- where nobody has the turn nothing happens
call_idle : (pod : EventState) (c : Call) → choice pod.state ≡ None → (event_step pod c).after.pending ≡ pod.pending
unfolding event_step
call_idle pod c is = ap (λ o. (event_step_if pod c o).after.pending) is

call_settles : (pod : EventState) (c : Call) (t : ℕ) → choice pod.state ≡ Some t → (event_step pod c).after.pending ≡ None
unfolding event_step event_step_by
call_settles pod c t is = ap (λ o. (event_step_if pod c o).after.pending) is

take_pends : (pod : EventState) (e : ℕ) (text : List ℕ) → is_trapped pod.trapped e ≡ true → (take_event pod e text).after.pending ≡ Some e
unfolding take_event
take_pends pod e text is = ap (λ b. (cond b (after_take_trap pod e) (after_pass_on pod (deliver pod.state e text))).after.pending) is

take_passes : (pod : EventState) (e : ℕ) (text : List ℕ) → is_trapped pod.trapped e ≡ false → (take_event pod e text).after.pending ≡ pod.pending
unfolding take_event
take_passes pod e text is = ap (λ b. (cond b (after_take_trap pod e) (after_pass_on pod (deliver pod.state e text))).after.pending) is

take_untrapped : (pod : EventState) (e : ℕ) (text : List ℕ) (f : ℕ) → is_trapped pod.trapped e ≡ true
    → count_by (is_raised f) (take_event pod e text).effects ≡ 0
unfolding take_event
take_untrapped pod e text f is = ap (λ b. count_by (is_raised f) (cond b (after_take_trap pod e) (after_pass_on pod (deliver pod.state e text))).effects) is

comes_next : (later : List (Option EventMove)) (e : ℕ) (pod : EventState) → CanGo pod later → pod.pending ≡ Some e → ComesNext e pod later
comes_next [] e pod can pending = pending
comes_next (None ∷ later) e pod can pending = comes_next later e pod can pending
comes_next (Some (ToTake f text) ∷ later) e pod can pending =
    comes_next later e (take_event pod f text).after can.1 (takes_other pod f e text can.0 pending)
comes_next (Some (ToCall c) ∷ later) e pod can pending = by_choice (choice pod.state) refl (λ idle. comes_next later e (event_step pod c).after can.1 idle)
  where
    by_choice : (o : Option ℕ) → choice pod.state ≡ o
        → ((event_step pod c).after.pending ≡ Some e → ComesNext e (event_step pod c).after later)
        → MatchOption o (ComesNext e (event_step pod c).after later) (λ t. RaisesFirst pod c t e)
    by_choice None is rest = rest (call_idle pod c is ∙ pending)
    by_choice (Some t) is rest = traps_are_raised_next pod c t e is pending

raises_all : (pod : EventState) (c : Call) (t : ℕ) → choice pod.state ≡ Some t → RaisesAll pod c
raises_all pod c t is = record {
  raised = λ e. omega (arith, one_move e pod (ToCall c) refl, ap (λ o. one (passes (λ f. eqb f e) o)) (call_settles pod c t is));
  none_left = call_settles pod c t is;
}

takes_trap : (pod : EventState) (e : ℕ) (text : List ℕ) → is_takeable pod e ≡ true → (later : List (Option EventMove))
    → CanGo (take_event pod e text).after later → TakesTrap pod e text later
takes_trap pod e text may later can = record {
  none_raised = λ f. none_raised f (is_trapped pod.trapped e) refl;
  next = λ is. comes_next later e (take_event pod e text).after can (take_pends pod e text is);
  other = take_passes pod e text;
}
  where
    none_raised : (f : ℕ) (b : Bool) → is_trapped pod.trapped e ≡ b → count_by (is_raised f) (take_event pod e text).effects ≡ 0
    none_raised f true is = take_untrapped pod e text f is
    none_raised f false is = omega (
      arith,
      one_move f pod (ToTake e text) may,
      ap (λ o. one (passes (λ g. eqb g f) o)) (take_passes pod e text is),
      ap (λ b. one (b && eqb e f)) is,
    )

pub sessions_raise_traps : (B : Type 0) → SessionsAreStepwise B → InEachStep B RaisesTraps
sessions_raise_traps B stepwise setting = in_sessions RaisesTraps (λ pod. Unit {0}) (record { keeps = λ pod stands move may. tt }) holds stepwise setting tt
  where
    holds : (pod : EventState) → Unit {0} → (move : EventMove) → can_move pod move ≡ true → (later : List (Option EventMove))
        → CanGo (event_move pod move).after later → RaisesTraps pod move later
    holds pod stands (ToCall c) may later can = raises_all pod c
    holds pod stands (ToTake e text) may later can = takes_trap pod e text may later can
