use Rattle.trace_lines.proofs.LineLaws.{died_again}
use Rattle.trace_lines.proofs.laws.died_again.Goals as goal

pub returns : goal.returns
returns c = died_again
