use Rattle.session_laws.proofs.Numbering.{deliveries_tick}
use Rattle.session_laws.proofs.every_tick.Goals as goal

pub returns : goal.returns
returns c = deliveries_tick
