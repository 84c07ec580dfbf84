use Rattle.trace_lines.proofs.LineLaws.{reported_again}
use Rattle.trace_lines.proofs.laws.reported_again.Goals as goal

pub returns : goal.returns
returns c = reported_again
