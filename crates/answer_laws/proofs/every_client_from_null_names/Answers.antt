use Rattle.answer_laws.proofs.Naming.{from_null_names}
use Rattle.answer_laws.proofs.every_client_from_null_names.Goals as goal

pub returns : goal.returns
returns c = from_null_names
