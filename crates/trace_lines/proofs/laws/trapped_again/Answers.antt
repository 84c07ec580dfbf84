use Rattle.trace_lines.proofs.LineLaws.{trapped_again}
use Rattle.trace_lines.proofs.laws.trapped_again.Goals as goal

pub returns : goal.returns
returns c = trapped_again
