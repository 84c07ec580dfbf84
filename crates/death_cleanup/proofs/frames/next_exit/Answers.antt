use Rattle.death_cleanup.proofs.Living.{no-marks, written-marks}
use Rattle.death_cleanup.proofs.frames.next_exit.Goals as goal
use Rattle.exc_stack.specs.Stack.{unwound_all}
use Rattle.stale_ids.specs.Register.{value_of}
use Rattle.std.proofs.Common.{ap, sym, ◌∙◌}
use Rattle.std.specs.Option.{option_copied_mut}

pub returns-in_default-clause-left : goal.returns-in_default-clause-left
returns-in_default-clause-left c = ap (λ ps. record c.args.ids.now { live = ps })
    (no-marks c.args.tid (λ ms. (unwound_all ms).left) c.args.ids.now.live
    (ap (λ n. value_of n c.args.ids.now.live) (sym c.tid.view_is) ∙ sym c.get_mut.ensures.value ∙ ap option_copied_mut c.in_default.is))

pub returns-clause-left : goal.returns-clause-left
returns-clause-left c = rw (c.tid.view_is, c.unwind_all.ensures.left) (ap (λ ps. record c.args.ids.now { live = ps })
    (written-marks c.args.tid (λ ms. (unwound_all ms).left) c.args.ids.now.live c.in-Some.kind.now c.get_mut.ensures.rising
    (ap (λ n. value_of n c.args.ids.now.live) (sym c.tid.view_is) ∙ sym c.in-Some.ensures.value)))
