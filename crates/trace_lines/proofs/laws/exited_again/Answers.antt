use Rattle.trace_lines.proofs.LineLaws.{exited_again}
use Rattle.trace_lines.proofs.laws.exited_again.Goals as goal

pub returns : goal.returns
returns c = exited_again
