use Rattle.agents.proofs.KeptLemmas.{ready_armed}
use Rattle.agents.proofs.agents.Agents.armed.Goals as goal
use Rattle.std.proofs.Common.{◌∙◌}

pub returns : goal.returns
returns c = rw (← c.self.view_is) (c.is_ready.ensures ∙ ready_armed c.self.inside.rows.items c.self.inside.board c.self.invariant.tallied c.args.event)
