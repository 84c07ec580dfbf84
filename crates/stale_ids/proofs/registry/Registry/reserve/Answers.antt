use Rattle.stale_ids.proofs.registry.Registry.reserve.Goals as goal
use Rattle.std.proofs.Common.{rules}

pub returns-clause-ok : goal.returns-clause-ok
returns-clause-ok c = search rules
