use Rattle.death_cleanup.proofs.condition_wakes.is_last.Goals as goal
use Rattle.std.proofs.Common.{rules}

pub returns-in-None : goal.returns-in-None
returns-in-None c = search rules
