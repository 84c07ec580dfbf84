use Rattle.deadlock_laws.proofs.Deliveries.{their_waiters_stay_in_deliveries}
use Rattle.deadlock_laws.proofs.every_waiter_of_a_delivery.Goals as goal

pub returns : goal.returns
returns c = their_waiters_stay_in_deliveries
