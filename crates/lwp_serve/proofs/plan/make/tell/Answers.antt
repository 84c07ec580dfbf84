use Rattle.lwp_serve.proofs.plan.make.tell.Goals as goal
use Rattle.std.proofs.Common.{rules}

pub returns-clause-quiet : goal.returns-clause-quiet
returns-clause-quiet c = search rules
