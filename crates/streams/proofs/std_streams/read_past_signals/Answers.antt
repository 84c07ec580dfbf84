use Rattle.std.proofs.Common.{rules}
use Rattle.streams.proofs.std_streams.read_past_signals.Goals as goal

pub returns-in_default-2-clause-bound : goal.returns-in_default-2-clause-bound
returns-in_default-2-clause-bound c = search rules

pub returns-in_default-2-clause-bytes : goal.returns-in_default-2-clause-bytes
returns-in_default-2-clause-bytes c = search rules
