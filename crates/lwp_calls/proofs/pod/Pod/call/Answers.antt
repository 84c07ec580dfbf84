use Rattle.death_cleanup.specs.View.{state_of}
use Rattle.lwp_calls.proofs.Agree.{choice-same}
use Rattle.lwp_calls.proofs.Pods.{few_status, forgets, refusal-leaves, runs, stepped, told}
use Rattle.lwp_calls.proofs.pod.Pod.call.Goals as goal
use Rattle.lwp_calls.specs.Pod.{call_effects, current_of}
use Rattle.lwp_types.specs.Choice as machine
use Rattle.lwp_types.specs.Step.{step}
use Rattle.pod_laws.proofs.EveryStep.{Lawful-step}
use Rattle.pod_sched.specs.Schedule as sched
use Rattle.std.proofs.Common.{None, Some, ap, sym, ◌++◌, ◌∙◌, ◌≡◌}

pub finish-self-inside-requires-clause-status : goal.finish-self-inside-requires-clause-status
finish-self-inside-requires-clause-status c =
    let turn : current_of (state_of c.self.inside.parts)
    ≡ Some c.unwrap-tid.result = (rw (← c.self.view_is) at (sym c.current.ensures.value ∙ c.unwrap-tid.ensures)) in
    few_status (state_of c.self.inside.parts) c.self.invariant.0 c.args.call.now c.unwrap-tid.result turn c.carry_out.new.parts c.in-Ok.ensures.ok.state

pub invariant_of-self : goal.invariant_of-self
invariant_of-self c =
    let turn : current_of (state_of c.self.inside.parts)
    ≡ Some c.unwrap-tid.result = (rw (← c.self.view_is) at (sym c.current.ensures.value ∙ c.unwrap-tid.ensures)) in
    let after : state_of c.finish-self-inside.new.parts
    ≡ (step (state_of c.self.inside.parts) c.args.call.now).after = c.finish-self-inside.ensures.after
    ∙ sym (stepped (state_of c.self.inside.parts) c.self.invariant.0 c.args.call.now c.unwrap-tid.result turn c.carry_out.new.parts
    c.in-Ok.ensures.ok.state) in (
      rw after (Lawful-step (state_of c.self.inside.parts) c.self.invariant.0 c.args.call.now),
      c.finish-self-inside.ensures.step,
      c.finish-self-inside.ensures.still_alone,
      c.finish-self-inside.ensures.next,
    )

pub invariant_of-self-in-Err : goal.invariant_of-self-in-Err
invariant_of-self-in-Err c =
    let as_before = c.in-Err.ensures.err in
    let same : state_of c.carry_out.new.parts ≡ state_of c.self.inside.parts = as_before.state in
    let alone : c.carry_out.new.parts.dying ≡ None = as_before.dying ∙ c.self.invariant.2 in
    let next : c.self.inside.next ≡ sched.choice c.carry_out.new.parts.sched =
    c.self.invariant.3 ∙ sym (choice-same c.self.inside.parts c.self.invariant.1.tied c.self.invariant.2) ∙ ap machine.choice (sym same)
    ∙ choice-same c.carry_out.new.parts as_before.step.tied alone in
    (rw same c.self.invariant.0, as_before.step, alone, next)

pub returns-in-Ok-clause-after : goal.returns-in-Ok-clause-after
returns-in-Ok-clause-after c =
    let turn : current_of (state_of c.self.inside.parts)
    ≡ Some c.unwrap-tid.result = (rw (← c.self.view_is) at (sym c.current.ensures.value ∙ c.unwrap-tid.ensures)) in
    let after : state_of c.finish-self-inside.new.parts
    ≡ (step (state_of c.self.inside.parts) c.args.call.now).after = c.finish-self-inside.ensures.after
    ∙ sym (stepped (state_of c.self.inside.parts) c.self.invariant.0 c.args.call.now c.unwrap-tid.result turn c.carry_out.new.parts
    c.in-Ok.ensures.ok.state) in
    rw (← c.self.view_is) after

pub returns-in-Ok-clause-effects : goal.returns-in-Ok-clause-effects
returns-in-Ok-clause-effects c =
    let turn : current_of (state_of c.self.inside.parts)
    ≡ Some c.unwrap-tid.result = (rw (← c.self.view_is) at (sym c.current.ensures.value ∙ c.unwrap-tid.ensures)) in
    let effects : call_effects (current_of (state_of c.self.inside.parts)) c.args.call.now ++ c.finish-self-inside.new.effects
    ≡ (step (state_of c.self.inside.parts) c.args.call.now).effects =
    told (state_of c.self.inside.parts) c.self.invariant.0 c.args.call.now c.unwrap-tid.result turn c.carry_out.new.parts
    c.in-Ok.ensures.ok.state c.clear.new.self c.carry_out.new.effects c.finish-self-inside.new.effects c.clear.ensures
    c.in-Ok.ensures.ok.effects c.finish-self-inside.ensures.effects in
    rw (← c.self.view_is) effects

pub returns-in-Ok-clause-lawful : goal.returns-in-Ok-clause-lawful
returns-in-Ok-clause-lawful c =
    let turn : current_of (state_of c.self.inside.parts)
    ≡ Some c.unwrap-tid.result = (rw (← c.self.view_is) at (sym c.current.ensures.value ∙ c.unwrap-tid.ensures)) in
    let after : state_of c.finish-self-inside.new.parts
    ≡ (step (state_of c.self.inside.parts) c.args.call.now).after = c.finish-self-inside.ensures.after
    ∙ sym (stepped (state_of c.self.inside.parts) c.self.invariant.0 c.args.call.now c.unwrap-tid.result turn c.carry_out.new.parts
    c.in-Ok.ensures.ok.state) in
    rw after (Lawful-step (state_of c.self.inside.parts) c.self.invariant.0 c.args.call.now)

pub returns-in-Ok-clause-refused : goal.returns-in-Ok-clause-refused
returns-in-Ok-clause-refused c =
    let turn : current_of (state_of c.self.inside.parts)
    ≡ Some c.unwrap-tid.result = (rw (← c.self.view_is) at (sym c.current.ensures.value ∙ c.unwrap-tid.ensures)) in
    let after : state_of c.finish-self-inside.new.parts
    ≡ (step (state_of c.self.inside.parts) c.args.call.now).after = c.finish-self-inside.ensures.after
    ∙ sym (stepped (state_of c.self.inside.parts) c.self.invariant.0 c.args.call.now c.unwrap-tid.result turn c.carry_out.new.parts
    c.in-Ok.ensures.ok.state) in
    rw (← c.self.view_is) (λ refused. after ∙ refusal-leaves (state_of c.self.inside.parts) c.self.invariant.0 c.args.call.now c.unwrap-tid.result turn refused)

pub returns-in-Ok-clause-dead : goal.returns-in-Ok-clause-dead
returns-in-Ok-clause-dead c =
    let turn : current_of (state_of c.self.inside.parts)
    ≡ Some c.unwrap-tid.result = (rw (← c.self.view_is) at (sym c.current.ensures.value ∙ c.unwrap-tid.ensures)) in
    let after : state_of c.finish-self-inside.new.parts
    ≡ (step (state_of c.self.inside.parts) c.args.call.now).after = c.finish-self-inside.ensures.after
    ∙ sym (stepped (state_of c.self.inside.parts) c.self.invariant.0 c.args.call.now c.unwrap-tid.result turn c.carry_out.new.parts
    c.in-Ok.ensures.ok.state) in
    let effects : call_effects (current_of (state_of c.self.inside.parts)) c.args.call.now ++ c.finish-self-inside.new.effects
    ≡ (step (state_of c.self.inside.parts) c.args.call.now).effects =
    told (state_of c.self.inside.parts) c.self.invariant.0 c.args.call.now c.unwrap-tid.result turn c.carry_out.new.parts
    c.in-Ok.ensures.ok.state c.clear.new.self c.carry_out.new.effects c.finish-self-inside.new.effects c.clear.ensures
    c.in-Ok.ensures.ok.effects c.finish-self-inside.ensures.effects in
    forgets (state_of c.self.inside.parts) (state_of c.finish-self-inside.new.parts) c.self.invariant.0 c.args.call.now
    c.finish-self-inside.new.effects after effects

pub returns-in-Ok-clause-exits : goal.returns-in-Ok-clause-exits
returns-in-Ok-clause-exits c =
    let turn : current_of (state_of c.self.inside.parts)
    ≡ Some c.unwrap-tid.result = (rw (← c.self.view_is) at (sym c.current.ensures.value ∙ c.unwrap-tid.ensures)) in
    let after : state_of c.finish-self-inside.new.parts
    ≡ (step (state_of c.self.inside.parts) c.args.call.now).after = c.finish-self-inside.ensures.after
    ∙ sym (stepped (state_of c.self.inside.parts) c.self.invariant.0 c.args.call.now c.unwrap-tid.result turn c.carry_out.new.parts
    c.in-Ok.ensures.ok.state) in
    let effects : call_effects (current_of (state_of c.self.inside.parts)) c.args.call.now ++ c.finish-self-inside.new.effects
    ≡ (step (state_of c.self.inside.parts) c.args.call.now).effects =
    told (state_of c.self.inside.parts) c.self.invariant.0 c.args.call.now c.unwrap-tid.result turn c.carry_out.new.parts
    c.in-Ok.ensures.ok.state c.clear.new.self c.carry_out.new.effects c.finish-self-inside.new.effects c.clear.ensures
    c.in-Ok.ensures.ok.effects c.finish-self-inside.ensures.effects in
    rw (← c.self.view_is) (runs (state_of c.self.inside.parts) (state_of c.finish-self-inside.new.parts) c.self.invariant.0 c.args.call.now
    c.finish-self-inside.new.effects after effects)
