use Rattle.trace_lines.proofs.LineLaws.{ticked_again}
use Rattle.trace_lines.proofs.laws.ticked_again.Goals as goal

pub returns : goal.returns
returns c = ticked_again
