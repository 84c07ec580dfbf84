use Rattle.deadlock_laws.proofs.Lasting.{their_waiters_stay}
use Rattle.deadlock_laws.proofs.every_waiter_of_the_blocked.Goals as goal

pub returns : goal.returns
returns c = their_waiters_stay
