-- Each trap is raised once, at the next call, in the thread that was chosen.
use Rattle.lwp_types.specs.Agents.{deliver, is_event_armed}
use Rattle.lwp_types.specs.Choice.{choice}
use Rattle.lwp_types.specs.CountLaws.{count-append, count-cons, one}
use Rattle.lwp_types.specs.State.{State, passes}
use Rattle.lwp_types.specs.declared.call.Call.{Call}
use Rattle.lwp_types.specs.declared.call.Effect.{Effect}
use Rattle.lwp_types.specs.declared.call.Effect.TheVariants as effect
use Rattle.pod_events.proofs.MildCalls.{is_tame}
use Rattle.pod_events.proofs.Quiet.{IsAside, called-counts, delivery-none, raised_by}
use Rattle.pod_events.specs.Events.{EventOutcome, EventState, after_pass_on, after_take_trap, has_turn}
use Rattle.pod_events.specs.Events.{is_takeable, is_trapped, may_trap, rites_event, take_event}
use Rattle.pod_events.specs.Laws.{CanMove, TrapsAreRaisedNext, TrapsAreRaisedOnce, can_move, is_raised, pends, traps_in, traps_now}
use Rattle.pod_events.specs.Moves.{EventMove, ToCall, ToTake, after_moves, effects_of, event_move}
use Rattle.pod_events.specs.Rites.{after_first_report, as_rites, report_text, reports_after, after_rites}
use Rattle.pod_events.specs.Step.{event_step, event_step_by, event_step_if, with_rites}
use Rattle.pod_events.specs.Traps.{after_spring_by, after_trap_and_call, notice}
use Rattle.std.proofs.Common.{Bool, List, None, Option, Some, [], ap, arith, cond, count_by, eqb, false, map, refl, true, ℕ, ◌&&◌, ◌++◌, ◌+◌, ◌∙◌, ◌∷◌, ◌≡◌}
use Rattle.std.proofs.lemmas.Bool.{and_parts}
use Rattle.std.specs.Prelude.{is_none, nat_lt}

module _ (e : ℕ) where
  aside : IsAside (is_raised e)
  aside = record { tame = tame; no_call = λ t c. refl; no_end = λ status. refl }
    where
      tame : (x : Effect) → is_tame x ≡ true → is_raised e x ≡ false
      tame (effect.Called t c) h = refl
      tame (effect.Answered t a) h = refl
      tame (effect.Exited t reg c a) h = refl
      tame (effect.Died t) h = refl
      tame (effect.Delivered a f) h = refl
      tame (effect.Ticked now) h = refl
      tame (effect.Ended status) h = refl
      tame (effect.Trapped t f) h = absurd (cc)
      tame (effect.Rites a d) h = refl

  -- a report raises none
  rites-none : (dead : ℕ) (es : List Effect) → count_by (is_raised e) (map (as_rites dead) es) ≡ count_by (is_raised e) es
  rites-none dead [] = refl
  rites-none dead (x ∷ xs) =
      omega (arith, count-cons (is_raised e) (as_rites dead x) (map (as_rites dead) xs), count-cons (is_raised e) x xs, ap one (same x), rites-none dead xs)
    where
      same : (x : Effect) → is_raised e (as_rites dead x) ≡ is_raised e x
      same (effect.Called t c) = refl
      same (effect.Answered t a) = refl
      same (effect.Exited t reg c a) = refl
      same (effect.Died t) = refl
      same (effect.Delivered a f) = refl
      same (effect.Ticked now) = refl
      same (effect.Ended status) = refl
      same (effect.Trapped t f) = refl
      same (effect.Rites a d) = refl

  said-none : (s : State) (es : List Effect) (reports : List ℕ) → count_by (is_raised e) (after_rites s es reports).effects ≡ count_by (is_raised e) es
  said-none s es reports = by_armed (is_event_armed s rites_event) reports
    where
      by_armed : (b : Bool) (rs : List ℕ)
          → count_by (is_raised e) (cond b (after_first_report s es rs) (record { state = s; reports = rs; effects = es })).effects ≡ count_by (is_raised e) es
      by_armed true [] = refl
      by_armed true (dead ∷ later) = omega (
        arith,
        count-append (is_raised e) es (map (as_rites dead) (deliver s rites_event (report_text dead)).effects),
        rites-none dead (deliver s rites_event (report_text dead)).effects,
        delivery-none (is_raised e) aside s rites_event (report_text dead),
      )
      by_armed false rs = refl

  raised-is : (t : ℕ) (o : Option ℕ) → raised_by (is_raised e) aside t o ≡ one (passes (λ f. eqb f e) o)
  raised-is t None = refl
  raised-is t (Some f) = refl

  step-raises : (es : EventState) (c : Call) → count_by (is_raised e) (event_step es c).effects + pends e (event_step es c).after ≡ pends e es
  unfolding event_step event_step_by
  step-raises es c = by_choice (choice es.state)
    where
      by_choice : (o : Option ℕ) → count_by (is_raised e) (event_step_if es c o).effects + pends e (event_step_if es c o).after ≡ pends e es
      by_choice None = omega arith
      by_choice (Some t) = omega (
        arith,
        said-none (after_trap_and_call es.state es.trapped t c es.pending).state (after_trap_and_call es.state es.trapped t c es.pending).effects
            (reports_after es.state (after_trap_and_call es.state es.trapped t c es.pending).state es.reports
            (after_trap_and_call es.state es.trapped t c es.pending).effects),
        called-counts (is_raised e) aside es.state es.trapped t c es.pending,
        raised-is t es.pending,
      )

  take-raises : (es : EventState) (f : ℕ) (text : List ℕ) → is_takeable es f ≡ true
      → count_by (is_raised e) (take_event es f text).effects + pends e (take_event es f text).after ≡ traps_now e es (ToTake f text) + pends e es
  unfolding take_event
  take-raises es f text may = by_trapped (is_trapped es.trapped f) may
    where
      none_pends : (o : Option ℕ) → is_none o ≡ true → one (passes (λ g. eqb g e) o) ≡ 0
      none_pends None h = refl
      none_pends (Some g) h = absurd (cc)

      by_trapped : (b : Bool) → cond b (may_trap es) (nat_lt f rites_event && is_event_armed es.state f) ≡ true
          → count_by (is_raised e) (cond b (after_take_trap es f) (after_pass_on es (deliver es.state f text))).effects
          + pends e (cond b (after_take_trap es f) (after_pass_on es (deliver es.state f text))).after
          ≡ one (b && eqb f e) + pends e es
      by_trapped true h = omega (arith, none_pends es.pending (and_parts (is_none es.pending) (has_turn es.state) h).0)
      by_trapped false h = omega (arith, delivery-none (is_raised e) aside es.state f text)

  move-raises : (es : EventState) (move : EventMove) → can_move es move ≡ true
      → count_by (is_raised e) (event_move es move).effects + pends e (event_move es move).after ≡ traps_now e es move + pends e es
  move-raises es (ToCall c) may = omega (arith, step-raises es c)
  move-raises es (ToTake f text) may = take-raises es f text may

  all-raised : (moves : List EventMove) (es : EventState) → CanMove moves es
      → count_by (is_raised e) (effects_of moves es) + pends e (after_moves moves es) ≡ traps_in e moves es + pends e es
  all-raised [] es may = omega arith
  all-raised (move ∷ moves) es may = omega (
    arith,
    count-append (is_raised e) (event_move es move).effects (effects_of moves (event_move es move).after),
    move-raises es move may.0,
    all-raised moves (event_move es move).after may.1,
  )

pub traps_are_raised_once : TrapsAreRaisedOnce
traps_are_raised_once e moves es may = all-raised e moves es may

-- the call's own effects stay in front of the report
said-front : (s : State) (x : Effect) (xs : List Effect) (reports : List ℕ) → (rest : List Effect) × ((after_rites s (x ∷ xs) reports).effects ≡ x ∷ rest)
said-front s x xs reports = by_armed (is_event_armed s rites_event) reports
  where
    by_armed : (b : Bool) (rs : List ℕ)
        → (rest : List Effect) × ((cond b (after_first_report s (x ∷ xs) rs) (record { state = s; reports = rs; effects = x ∷ xs })).effects ≡ x ∷ rest)
    by_armed true [] = (xs, refl)
    by_armed true (dead ∷ later) = (xs ++ map (as_rites dead) (deliver s rites_event (report_text dead)).effects, refl)
    by_armed false rs = (xs, refl)

-- the step of the thread that was chosen, with its trap
step-is : (es : EventState) (c : Call) (t e : ℕ) → choice es.state ≡ Some t → es.pending ≡ Some e
    → event_step es c ≡ with_rites es (after_trap_and_call es.state es.trapped t c (Some e))
unfolding event_step event_step_by
step-is es c t e chosen pending = ap (event_step_if es c) chosen ∙ ap (λ o. with_rites es (after_trap_and_call es.state es.trapped t c o)) pending

pub traps_are_raised_next : TrapsAreRaisedNext
traps_are_raised_next es c t e chosen pending =
    let whole = step-is es c t e chosen pending in
    let out = after_trap_and_call es.state es.trapped t c (Some e) in
    let front = said-front out.state (effect.Trapped t e) (after_spring_by es.state es.trapped t c e (notice es.state t e)).effects
    (reports_after es.state out.state es.reports out.effects) in
    record {
      rest = front.0;
      raised = ap (λ (o : EventOutcome). o.effects) whole ∙ front.1;
      none_left = ap (λ (o : EventOutcome). o.after.pending) whole;
    }
