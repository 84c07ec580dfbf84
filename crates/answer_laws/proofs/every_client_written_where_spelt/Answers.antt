use Rattle.answer_laws.proofs.ScriptTexts.{spelt_clients_are_written}
use Rattle.answer_laws.proofs.every_client_written_where_spelt.Goals as goal

pub returns : goal.returns
returns c = spelt_clients_are_written
