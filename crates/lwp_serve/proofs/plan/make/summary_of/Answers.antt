use Rattle.lwp_serve.proofs.plan.make.summary_of.Goals as goal
use Rattle.std.proofs.Common.{rules}

pub returns : goal.returns
returns c = search rules
