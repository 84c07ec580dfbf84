use Rattle.pod_runner.proofs.parts.RunParts.phase.Goals as goal
use Rattle.std.proofs.Common.{rules}

pub returns-then-calls-turns : goal.returns-then-calls-turns
returns-then-calls-turns c = search rules
