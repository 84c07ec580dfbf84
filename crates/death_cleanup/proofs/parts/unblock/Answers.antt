use Rattle.death_cleanup.proofs.parts.unblock.Goals as goal
use Rattle.std.proofs.Common.{rules}

pub returns : goal.returns
returns c = search rules
