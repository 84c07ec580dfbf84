use Rattle.lwp_serve.proofs.maker.order.count_at.Goals as goal
use Rattle.std.proofs.Common.{rules}

pub returns-in-Some : goal.returns-in-Some
returns-in-Some c = search rules
