use Rattle.std.proofs.Common.{rules}
use Rattle.pod_sched.proofs.timers.clock.Timers.pass.Goals as goal

pub returns : goal.returns
returns c = search rules
