use Rattle.promise_laws.proofs.Steps.{sessions_answer_waiters}
use Rattle.promise_laws.proofs.every_waiter_of_a_session.Goals as goal

pub returns : goal.returns
returns g c = sessions_answer_waiters g.row.B.Denot c.every_step.ensures
