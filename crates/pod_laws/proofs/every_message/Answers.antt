use Rattle.pod_laws.proofs.every_message.Goals as goal
use Rattle.pod_laws.proofs.Delivery.{deliveries_are_few}

pub returns : goal.returns
returns c = deliveries_are_few
