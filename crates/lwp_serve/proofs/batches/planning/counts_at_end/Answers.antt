use Rattle.lwp_serve.proofs.batches.planning.counts_at_end.Goals as goal
use Rattle.std.proofs.Common.{rules}

pub returns : goal.returns
returns c = search rules
