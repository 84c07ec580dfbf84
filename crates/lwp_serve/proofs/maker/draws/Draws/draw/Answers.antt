use Rattle.lwp_serve.proofs.maker.draws.Draws.draw.Goals as goal
use Rattle.std.proofs.Common.{rules}

pub returns-clause-value : goal.returns-clause-value
returns-clause-value c = search rules
