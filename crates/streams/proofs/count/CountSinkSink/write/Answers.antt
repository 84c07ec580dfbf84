use Rattle.streams.proofs.count.CountSinkSink.write.Goals as goal
use Rattle.std.proofs.Common.{rules}

pub returns-in_default-clause-cause : goal.returns-in_default-clause-cause
returns-in_default-clause-cause c = search rules

pub returns-clause-all : goal.returns-clause-all
returns-clause-all c = search rules
