-- A call, with its trap and its report, is made of the machine's own moves.
use Rattle.lwp_types.specs.Agents.{deliver, is_event_armed}
use Rattle.lwp_types.specs.Choice.{choice}
use Rattle.lwp_types.specs.CountLaws.{count-append, count-cons, one}
use Rattle.lwp_types.specs.State.{State, passes}
use Rattle.lwp_types.specs.Step.{step, step_by, step_if}
use Rattle.lwp_types.specs.declared.call.Answer.{Answer}
use Rattle.lwp_types.specs.declared.call.Call.{Call}
use Rattle.lwp_types.specs.declared.call.Effect.{Effect}
use Rattle.lwp_types.specs.declared.call.LwpErr.{LwpErr}
use Rattle.lwp_types.specs.declared.call.Call.TheVariants as call
use Rattle.lwp_types.specs.declared.call.Effect.TheVariants as effect
use Rattle.lwp_types.specs.declared.call.LwpErr.TheVariants as error
use Rattle.pod_events.specs.Events.{is_trapped, rites_event}
use Rattle.pod_events.specs.Laws.{AsksForFates, CallsAreTheMachines, IsOfMoves, MachineMove, ToDeliver, ToStep, machine_after, machine_effects, machine_move}
use Rattle.pod_events.specs.Rites.{after_first_report, as_rites, report_text, reports_after, after_rites}
use Rattle.pod_events.specs.Step.{event_step, event_step_by, event_step_if}
use Rattle.pod_events.specs.Traps.{after_call, after_call_as, after_machine_step, after_trap, after_trap_and_call, agent_event_of}
use Rattle.pod_events.specs.Traps.{but_call, is_catch, is_given, notice, after_refusal, trap_of, trap_refusal}
use Rattle.std.proofs.Common.{Bool, List, None, Option, Some, [], ap, arith, cond, count_by, drop, false, map, refl, sym, true, ℕ, ◌++◌, ◌+◌, ◌∙◌, ◌∷◌, ◌≡◌}

-- a state and effects are those of these moves, from a state
record Goes (s after : State) (es : List Effect) : Type 0 where
  pub moves : List MachineMove
  pub state : after ≡ machine_after moves s
  pub fates : (p : Effect → Bool) → AsksForFates p → count_by p es ≡ count_by p (machine_effects moves s)

still-goes : (s : State) (es : List Effect) → ((p : Effect → Bool) → AsksForFates p → count_by p es ≡ 0) → Goes s s es
still-goes s es none = record { moves = []; state = refl; fates = none }

-- one step of the machine, by effects that tell of the same
one-goes : (s : State) (c : Call) (es : List Effect)
    → ((p : Effect → Bool) → AsksForFates p → count_by p es ≡ count_by p (step s c).effects) → Goes s (step s c).after es
one-goes s c es same = record { moves = ToStep c ∷ []; state = refl; fates = λ p asks. omega (arith, same p asks, count-append p (step s c).effects []) }

module _ (p : Effect → Bool) (asks : AsksForFates p) where
  refusal-none : (t : ℕ) (c : Call) (a : Answer) → count_by p (effect.Called t c ∷ effect.Answered t a ∷ []) ≡ 0
  refusal-none t c a = omega (
    arith,
    count-cons p (effect.Called t c) (effect.Answered t a ∷ []),
    count-cons p (effect.Answered t a) [],
    ap one (asks.no_call t c),
    ap one (asks.no_answer t a),
  )

  -- the call itself isn't asked for
  but_call-same : (s : State) (c : Call) → count_by p (but_call (step s c)).effects ≡ count_by p (step s c).effects
  unfolding step step_by
  but_call-same s c = by_choice (choice s)
    where
      by_choice : (o : Option ℕ) → count_by p (drop 1 (step_if s c o).effects) ≡ count_by p (step_if s c o).effects
      by_choice None = refl
      by_choice (Some t) = omega (arith, count-cons p (effect.Called t c) (drop 1 (step_by s t c).effects), ap one (asks.no_call t c))

  rites-same : (dead : ℕ) (es : List Effect) → count_by p (map (as_rites dead) es) ≡ count_by p es
  rites-same dead [] = refl
  rites-same dead (x ∷ xs) = omega (arith, count-cons p (as_rites dead x) (map (as_rites dead) xs), count-cons p x xs, ap one (same x), rites-same dead xs)
    where
      same : (x : Effect) → p (as_rites dead x) ≡ p x
      same (effect.Called t c) = refl
      same (effect.Answered t a) = refl
      same (effect.Exited t reg c a) = refl
      same (effect.Died t) = refl
      same (effect.Delivered a f) = asks.no_report a dead ∙ sym (asks.no_delivery a f)
      same (effect.Ticked now) = refl
      same (effect.Ended status) = refl
      same (effect.Trapped t f) = refl
      same (effect.Rites a d) = refl

made-goes : (s : State) (trapped : List Bool) (t : ℕ) (c : Call) → Goes s (after_call s trapped t c).state (after_call s trapped t c).effects
made-goes s trapped t c = by_trap (trap_of c)
  where
    by_refusal : (e : ℕ) (o : Option LwpErr) → Goes s (after_trap s trapped t c e o).state (after_trap s trapped t c e o).effects
    by_refusal e None = still-goes s _ (λ p asks. refusal-none p asks t c _)
    by_refusal e (Some why) = still-goes s _ (λ p asks. refusal-none p asks t c _)

    by_agent : (b : Bool)
        → Goes s (cond b (after_refusal s trapped t c error.InUse) (after_machine_step trapped (step s c))).state
        (cond b (after_refusal s trapped t c error.InUse) (after_machine_step trapped (step s c))).effects
    by_agent true = still-goes s _ (λ p asks. refusal-none p asks t c _)
    by_agent false = one-goes s c (step s c).effects (λ p asks. refl)

    by_trap : (o : Option ℕ) → Goes s (after_call_as s trapped t c o).state (after_call_as s trapped t c o).effects
    by_trap None = by_agent (passes (is_trapped trapped) (agent_event_of c))
    by_trap (Some e) = by_refusal e (trap_refusal s trapped e)

-- the trap itself isn't asked for
trapped-goes : (s after : State) (es : List Effect) (t e : ℕ) → Goes s after es → Goes s after (effect.Trapped t e ∷ es)
trapped-goes s after es t e goes = record {
  moves = goes.moves;
  state = goes.state;
  fates = λ p asks. omega (arith, count-cons p (effect.Trapped t e) es, ap one (asks.no_trap t e), goes.fates p asks);
}

called-goes : (s : State) (trapped : List Bool) (t : ℕ) (c : Call) (pending : Option ℕ)
    → Goes s (after_trap_and_call s trapped t c pending).state (after_trap_and_call s trapped t c pending).effects
called-goes s trapped t c None = made-goes s trapped t c
called-goes s trapped t c (Some e) = by_given (passes is_given (notice s t e)) (passes is_catch (notice s t e))
  where
    by_given : (b d : Bool) → Goes s
        (cond b (after_call s trapped t c) (cond d (after_machine_step trapped (but_call (step s (call.ExcNotify e))))
        (after_machine_step trapped (but_call (step s (call.Destroy t)))))).state
        (effect.Trapped t e
        ∷ (cond b (after_call s trapped t c) (cond d (after_machine_step trapped (but_call (step s (call.ExcNotify e))))
        (after_machine_step trapped (but_call (step s (call.Destroy t)))))).effects)
    by_given true d = trapped-goes s _ _ t e (made-goes s trapped t c)
    by_given false true = trapped-goes s _ _ t e (one-goes s (call.ExcNotify e) _ (λ p asks. but_call-same p asks s (call.ExcNotify e)))
    by_given false false = trapped-goes s _ _ t e (one-goes s (call.Destroy t) _ (λ p asks. but_call-same p asks s (call.Destroy t)))

-- moves, and then one more
after-push : (moves : List MachineMove) (move : MachineMove) (s : State)
    → machine_after (moves ++ move ∷ []) s ≡ (machine_move (machine_after moves s) move).after
after-push [] move s = refl
after-push (first ∷ moves) move s = after-push moves move (machine_move s first).after

effects-push : (p : Effect → Bool) (moves : List MachineMove) (move : MachineMove) (s : State)
    → count_by p (machine_effects (moves ++ move ∷ []) s)
    ≡ count_by p (machine_effects moves s) + count_by p (machine_move (machine_after moves s) move).effects
effects-push p [] move s = omega (arith, count-append p (machine_move s move).effects [])
effects-push p (first ∷ moves) move s = omega (
  arith,
  count-append p (machine_move s first).effects (machine_effects (moves ++ move ∷ []) (machine_move s first).after),
  count-append p (machine_move s first).effects (machine_effects moves (machine_move s first).after),
  effects-push p moves move (machine_move s first).after,
)

said-goes : (from s : State) (es : List Effect) (reports : List ℕ) → Goes from s es
    → Goes from (after_rites s es reports).state (after_rites s es reports).effects
said-goes from s es reports goes = by_armed (is_event_armed s rites_event) reports
  where
    by_armed : (b : Bool) (rs : List ℕ)
        → Goes from (cond b (after_first_report s es rs) (record { state = s; reports = rs; effects = es })).state
        (cond b (after_first_report s es rs) (record { state = s; reports = rs; effects = es })).effects
    by_armed true [] = goes
    by_armed true (dead ∷ later) = record {
      moves = goes.moves ++ ToDeliver rites_event (report_text dead) ∷ [];
      state = ap (λ now. (deliver now rites_event (report_text dead)).after) goes.state
          ∙ sym (after-push goes.moves (ToDeliver rites_event (report_text dead)) from);
      fates = λ p asks. omega (
        arith,
        count-append p es (map (as_rites dead) (deliver s rites_event (report_text dead)).effects),
        rites-same p asks dead (deliver s rites_event (report_text dead)).effects,
        goes.fates p asks,
        ap (λ now. count_by p (deliver now rites_event (report_text dead)).effects) goes.state,
        effects-push p goes.moves (ToDeliver rites_event (report_text dead)) from,
      );
    }
    by_armed false rs = goes

pub calls_are_the_machines : CallsAreTheMachines
unfolding event_step event_step_by
calls_are_the_machines es c = by_choice (choice es.state)
  where
    by_choice : (o : Option ℕ) → IsOfMoves es (event_step_if es c o)
    by_choice None = record { moves = []; state = refl; fates = λ p asks. refl }
    by_choice (Some t) =
        let out = after_trap_and_call es.state es.trapped t c es.pending in
        let goes = said-goes es.state out.state out.effects (reports_after es.state out.state es.reports out.effects)
        (called-goes es.state es.trapped t c es.pending) in
        record { moves = goes.moves; state = goes.state; fates = goes.fates }
