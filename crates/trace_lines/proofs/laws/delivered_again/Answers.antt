use Rattle.trace_lines.proofs.LineLaws.{delivered_again}
use Rattle.trace_lines.proofs.laws.delivered_again.Goals as goal

pub returns : goal.returns
returns c = delivered_again
