use Rattle.session_laws.proofs.Numbering.{deliveries_number_none}
use Rattle.session_laws.proofs.every_number_of_a_delivery.Goals as goal

pub returns : goal.returns
returns c = deliveries_number_none
