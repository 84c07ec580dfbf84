use Rattle.pod_runner.proofs.TimedRuns.{timed-session}
use Rattle.pod_runner.proofs.virtual_time.every_timed_session.Goals as goal

pub returns : goal.returns
returns g c = λ setting n came. timed-session setting n came
