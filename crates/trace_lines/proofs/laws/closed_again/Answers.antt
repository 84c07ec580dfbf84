use Rattle.trace_lines.proofs.LineLaws.{ends_again}
use Rattle.trace_lines.proofs.laws.closed_again.Goals as goal

pub returns : goal.returns
returns c = ends_again
