use Rattle.trace_lines.proofs.LineLaws.{also_again}
use Rattle.trace_lines.proofs.laws.also_again.Goals as goal

pub returns : goal.returns
returns c = also_again
