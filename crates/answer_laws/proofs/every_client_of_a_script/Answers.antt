use Rattle.answer_laws.proofs.Naming.{in_every_script}
use Rattle.answer_laws.proofs.every_client_of_a_script.Goals as goal

pub returns : goal.returns
returns c = in_every_script
