use Rattle.monitors.proofs.LiveLaws.{without_found, without_none}
use Rattle.monitors.proofs.live.take_out.Goals as goal
use Rattle.std.proofs.Common.{sym, ◌∙◌}

pub returns-in-Some : goal.returns-in-Some
returns-in-Some c = c.remove.ensures.items
    ∙ without_found c.args.live.now.items c.args.mon c.in-Some.at c.requires (rw c.deref.ensures.value at c.in-Some.ensures.some)

pub returns-in_default : goal.returns-in_default
returns-in_default c = sym (without_none c.args.live.now.items c.args.mon (rw c.deref.ensures.value at c.in_default.ensures.none))
