use Rattle.lwp_calls.proofs.Agree.{eligible-same}
use Rattle.lwp_calls.proofs.asks.may_run.Goals as goal
use Rattle.std.proofs.Common.{sym, ◌∙◌}

pub returns : goal.returns
returns c = c.eligible.ensures ∙ sym (eligible-same c.args.parts.now c.requires.step.tied c.requires.alone c.args.tid)
