use Rattle.lwp_calls.proofs.Agree.{priority-same}
use Rattle.lwp_calls.proofs.asks.prio_of.Goals as goal
use Rattle.std.proofs.Common.{sym, ◌∙◌}

pub returns : goal.returns
returns c = c.prio_of.ensures ∙ sym (priority-same c.args.parts.now c.requires.step.tied c.requires.alone c.args.tid)
