use Rattle.lwp_calls.proofs.Stacks.{not-taken, some-marks, somebody, taken-back}
use Rattle.lwp_calls.proofs.exception_calls.unhandle.Goals as goal
use Rattle.stale_ids.specs.Register.{value_of}
use Rattle.std.proofs.Common.{ap, sym, ◌∙◌}

pub returns-in_default : goal.returns-in_default
returns-in_default c = absurd (somebody c.args.parts.now c.requires.lawful c.requires.alone c.args.tid c.requires.may_run
    c.get_mut.ensures.rising (ap (λ n. value_of n c.args.parts.now.ids.live) (sym c.tid.view_is) ∙ sym c.in_default.ensures.value))

pub take_handler-requires : goal.take_handler-requires
take_handler-requires c = some-marks c.args.parts.now c.requires.lawful c.requires.alone c.args.tid c.requires.may_run c.in-Some.kind.now
    c.get_mut.ensures.rising (ap (λ n. value_of n c.args.parts.now.ids.live) (sym c.tid.view_is) ∙ sym c.in-Some.ensures.value)

pub returns-in-Ok : goal.returns-in-Ok
returns-in-Ok c = rw c.tid.view_is (taken-back c.args.parts.now c.args.tid c.in-Some.kind.now c.get_mut.ensures.rising
    (ap (λ n. value_of n c.args.parts.now.ids.live) (sym c.tid.view_is) ∙ sym c.in-Some.ensures.value) c.requires.lawful.step
    c.take_handler.new.kind c.take_handler.ensures.after c.in-Ok.ensures.refusal)

pub returns-in-Err : goal.returns-in-Err
returns-in-Err c = rw c.tid.view_is (not-taken c.args.parts.now c.args.tid c.in-Some.kind.now c.get_mut.ensures.rising
    (ap (λ n. value_of n c.args.parts.now.ids.live) (sym c.tid.view_is) ∙ sym c.in-Some.ensures.value) c.requires.lawful.step
    c.take_handler.new.kind c.in-Err.err c.take_handler.ensures.after c.in-Err.ensures.refusal)
