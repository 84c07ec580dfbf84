use Rattle.monitors.proofs.LinkLaws.{leads_here}
use Rattle.monitors.proofs.slots.+last_on.Goals as goal
use Rattle.monitors.specs.Slots.{LeadsOn}
use Rattle.std.proofs.Common.{ap, is_some, subst, sym, ◌∙◌}

pub returns-then-is_some : goal.returns-then-is_some
returns-then-is_some t c = leads_here c.args.slots.now c.args.links.now c.args.end c.args.owner c.in_ok-slot.slot c.requires.linked
    (subst (LeadsOn c.args.owner c.args.slots.now c.args.links.now c.args.end) c.in_ok-slot.was c.requires.leads)
    (ap is_some (sym c.lock_at.ensures) ∙ sym c.if-is_some.ensures)
