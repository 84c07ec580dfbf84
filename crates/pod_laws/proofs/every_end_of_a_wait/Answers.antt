use Rattle.pod_laws.proofs.TimerMoves.{waits_end_timers}
use Rattle.pod_laws.proofs.every_end_of_a_wait.Goals as goal

pub returns : goal.returns
returns c = waits_end_timers
