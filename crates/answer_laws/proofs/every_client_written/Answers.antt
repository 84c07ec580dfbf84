use Rattle.answer_laws.proofs.Writing.{clients_are_written}
use Rattle.answer_laws.proofs.every_client_written.Goals as goal

pub returns : goal.returns
returns c = clients_are_written
