use Rattle.deadlock_laws.proofs.Deliveries.{cycles_last_in_deliveries}
use Rattle.deadlock_laws.proofs.every_cycle_of_a_delivery.Goals as goal

pub returns : goal.returns
returns c = cycles_last_in_deliveries
