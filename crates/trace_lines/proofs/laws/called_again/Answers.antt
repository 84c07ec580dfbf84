use Rattle.trace_lines.proofs.LineLaws.{called_again}
use Rattle.trace_lines.proofs.laws.called_again.Goals as goal

pub returns : goal.returns
returns c = called_again
