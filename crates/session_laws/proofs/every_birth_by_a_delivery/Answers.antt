use Rattle.session_laws.proofs.Numbering.{deliveries_bear_none}
use Rattle.session_laws.proofs.every_birth_by_a_delivery.Goals as goal

pub returns : goal.returns
returns c = deliveries_bear_none
