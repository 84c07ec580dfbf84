use Rattle.death_cleanup.proofs.Looks.{thread-under}
use Rattle.death_cleanup.proofs.parts.is_thread.Goals as goal
use Rattle.death_cleanup.specs.declared.rows.Kind.{Kind}
use Rattle.death_cleanup.specs.declared.rows.Kind.TheVariants as kind
use Rattle.std.proofs.Common.{None, Some, ap, sym, ◌∙◌}
use Rattle.std.specs.Prelude.{option_copied}

pub returns-in-Some-Thread : goal.returns-in-Some-Thread
returns-in-Some-Thread c = sym (thread-under c.args.parts.now c.args.tid (Some (kind.Thread c.in-Some-Thread.field-0-0)) c.get.ensures.rising
    (rw (← c.tid.view_is) (sym c.get.ensures.value ∙ ap option_copied c.in-Some-Thread.is ∙ ap (λ (k : Kind). Some k) c.in-Some-Thread.field-0-is)))

pub returns-in-Some-Agent : goal.returns-in-Some-Agent
returns-in-Some-Agent c = sym (thread-under c.args.parts.now c.args.tid (Some kind.Agent) c.get.ensures.rising
    (rw (← c.tid.view_is) (sym c.get.ensures.value ∙ ap option_copied c.in-Some-Agent.is ∙ ap (λ (k : Kind). Some k) c.in-Some-Agent.field-0-is)))

pub returns-in-None : goal.returns-in-None
returns-in-None c = sym (thread-under c.args.parts.now c.args.tid None c.get.ensures.rising
    (rw (← c.tid.view_is) (sym c.get.ensures.value ∙ ap option_copied c.in-None.is)))
