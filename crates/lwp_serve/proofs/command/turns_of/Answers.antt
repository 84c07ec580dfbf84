use Rattle.lwp_serve.proofs.command.turns_of.Goals as goal
use Rattle.std.proofs.Common.{rules}

pub returns-clause-value : goal.returns-clause-value
returns-clause-value c = search rules

pub returns-clause-most : goal.returns-clause-most
returns-clause-most c = search rules
