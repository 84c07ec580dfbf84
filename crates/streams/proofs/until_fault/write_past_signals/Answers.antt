use Rattle.std.proofs.Common.{rules}
use Rattle.streams.proofs.until_fault.write_past_signals.Goals as goal

pub returns-in_default-3-clause-bytes : goal.returns-in_default-3-clause-bytes
returns-in_default-3-clause-bytes c = search rules

pub returns-in-Ok-eq0-clause-some : goal.returns-in-Ok-eq0-clause-some
returns-in-Ok-eq0-clause-some c = search rules
