use Rattle.death_cleanup.proofs.Leaving.{marks-here}
use Rattle.lwp_calls.proofs.Stacks.{some-marks, somebody}
use Rattle.lwp_calls.proofs.exception_calls.found.Goals as goal
use Rattle.lwp_types.specs.Exceptions.{handler_in}
use Rattle.std.proofs.Common.{ap, sym, ◌∙◌}
use Rattle.std.specs.Prelude.{option_copied}

pub returns-in_default-clause-value : goal.returns-in_default-clause-value
returns-in_default-clause-value c = absurd (somebody c.args.parts.now c.requires.lawful c.requires.alone c.args.tid c.requires.may_run
    c.get.ensures.rising (rw (← c.tid.view_is) (sym c.get.ensures.value ∙ ap option_copied c.in_default.is)))

pub found_on-requires : goal.found_on-requires
found_on-requires c = some-marks c.args.parts.now c.requires.lawful c.requires.alone c.args.tid c.requires.may_run c.in-Some.kind.now
    c.get.ensures.rising (rw (← c.tid.view_is) (sym c.get.ensures.value ∙ ap option_copied c.in-Some.is))

pub returns-clause-value : goal.returns-clause-value
returns-clause-value c = c.found_on.ensures.value
    ∙ ap (handler_in c.args.pattern) (sym (marks-here c.args.parts.now c.args.tid c.in-Some.kind.now c.get.ensures.rising
    (rw (← c.tid.view_is) (sym c.get.ensures.value ∙ ap option_copied c.in-Some.is))))

pub returns-clause-in_reach : goal.returns-clause-in_reach
returns-clause-in_reach c = rw
    (marks-here c.args.parts.now c.args.tid c.in-Some.kind.now c.get.ensures.rising
    (rw (← c.tid.view_is) (sym c.get.ensures.value ∙ ap option_copied c.in-Some.is)))
    c.found_on.ensures.in_reach
