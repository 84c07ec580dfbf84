use Rattle.std.proofs.Common.{rules}
use Rattle.streams.proofs.std_streams.ReaderSourceSource.read.Goals as goal

pub returns-in_default-clause-cause : goal.returns-in_default-clause-cause
returns-in_default-clause-cause c = search rules
