use Rattle.death_cleanup.proofs.condition_wakes.ask_again.Goals as goal
use Rattle.std.proofs.Common.{rules}

pub returns : goal.returns
returns c = search rules
