use Rattle.promise_laws.proofs.PodWaiters.{pods_answer_waiters}
use Rattle.promise_laws.proofs.every_waiter.Goals as goal

pub returns : goal.returns
returns c = pods_answer_waiters
