use Rattle.death_cleanup.specs.declared.rows.Kind.{Kind}
use Rattle.death_cleanup.specs.declared.rows.Kind.TheVariants as kind
use Rattle.lwp_calls.proofs.Messaging.{taking-under}
use Rattle.lwp_calls.proofs.message_calls.receiver.Goals as goal
use Rattle.std.proofs.Common.{Bool, None, Some, ap, sym, ◌∙◌}
use Rattle.std.specs.Prelude.{option_copied}

pub returns-in-Some-Thread : goal.returns-in-Some-Thread
returns-in-Some-Thread c = ap (λ (b : Bool). Some b) c.block_takes.ensures
    ∙ sym (taking-under c.args.parts.now c.args.tid c.args.sender (Some (kind.Thread c.in-Some-Thread.rec)) c.get.ensures.rising
    (rw (← c.tid.view_is) (sym c.get.ensures.value ∙ ap option_copied c.in-Some-Thread.is ∙ ap (λ (k : Kind). Some k) c.in-Some-Thread.field-0-is)))

pub returns-in-Some-Agent : goal.returns-in-Some-Agent
returns-in-Some-Agent c = sym (taking-under c.args.parts.now c.args.tid c.args.sender (Some kind.Agent) c.get.ensures.rising
    (rw (← c.tid.view_is) (sym c.get.ensures.value ∙ ap option_copied c.in-Some-Agent.is ∙ ap (λ (k : Kind). Some k) c.in-Some-Agent.field-0-is)))

pub returns-in-None : goal.returns-in-None
returns-in-None c = sym (taking-under c.args.parts.now c.args.tid c.args.sender None c.get.ensures.rising
    (rw (← c.tid.view_is) (sym c.get.ensures.value ∙ ap option_copied c.in-None.is)))
