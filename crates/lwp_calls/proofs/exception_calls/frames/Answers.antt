use Rattle.death_cleanup.proofs.Leaving.{marks-here}
use Rattle.lwp_calls.proofs.Stacks.{somebody}
use Rattle.lwp_calls.proofs.exception_calls.frames.Goals as goal
use Rattle.lwp_types.specs.Exceptions.{frames}
use Rattle.std.proofs.Common.{ap, sym, ◌∙◌}
use Rattle.std.specs.Prelude.{option_copied}

pub returns-in_default : goal.returns-in_default
returns-in_default c = absurd (somebody c.args.parts.now c.requires.lawful c.requires.alone c.args.tid c.requires.may_run
    c.get.ensures.rising (rw (← c.tid.view_is) (sym c.get.ensures.value ∙ ap option_copied c.in_default.is)))

pub returns : goal.returns
returns c = c.frames_on.ensures
    ∙ ap frames (sym (marks-here c.args.parts.now c.args.tid c.in-Some.kind.now c.get.ensures.rising
    (rw (← c.tid.view_is) (sym c.get.ensures.value ∙ ap option_copied c.in-Some.is))))
