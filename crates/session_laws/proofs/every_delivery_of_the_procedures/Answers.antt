use Rattle.session_laws.proofs.Numbering.{deliveries_keep_procs}
use Rattle.session_laws.proofs.every_delivery_of_the_procedures.Goals as goal

pub returns : goal.returns
returns c = deliveries_keep_procs
