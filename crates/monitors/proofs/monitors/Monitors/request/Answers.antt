use Rattle.monitors.proofs.Lines.{any-line}
use Rattle.monitors.proofs.monitors.Monitors.request.Goals as goal
use Rattle.std.proofs.Common.{sym, ◌∙◌}

pub join-requires-clause-waits_nowhere : goal.join-requires-clause-waits_nowhere
join-requires-clause-waits_nowhere c = sym (any-line c.args.tid c.self.inside.requests.waiting) ∙ (rw (← c.self.view_is) at c.requires.waits_nowhere)
