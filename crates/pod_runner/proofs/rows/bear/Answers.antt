use Rattle.pod_runner.proofs.rows.bear.Goals as goal
use Rattle.std.proofs.Common.{rules}

pub returns-in-Some-Some : goal.returns-in-Some-Some
returns-in-Some-Some c = search rules
