use Rattle.std.proofs.Common.{rules}
use Rattle.trace_lines.proofs.reading.posted_by.Goals as goal

pub returns : goal.returns
returns c = search rules
