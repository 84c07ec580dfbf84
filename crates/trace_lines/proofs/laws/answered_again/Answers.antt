use Rattle.trace_lines.proofs.LineLaws.{answered_again}
use Rattle.trace_lines.proofs.laws.answered_again.Goals as goal

pub returns : goal.returns
returns c = answered_again
