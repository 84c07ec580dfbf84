use Rattle.lwp_serve.proofs.command.top.Goals as goal
use Rattle.std.proofs.Common.{rules}

pub returns-in-Some-Run : goal.returns-in-Some-Run
returns-in-Some-Run c = search rules

pub returns-in-Some-Make : goal.returns-in-Some-Make
returns-in-Some-Make c = search rules
