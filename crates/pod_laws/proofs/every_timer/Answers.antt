use Rattle.pod_laws.proofs.TimerMoves.{no_timer_comes_unasked}
use Rattle.pod_laws.proofs.every_timer.Goals as goal

pub returns : goal.returns
returns c = no_timer_comes_unasked
